pub mod PathSearches
pub mod TypeDeclarations
pub mod TypeNames
