pub mod TypePaths
pub mod Identifiers
