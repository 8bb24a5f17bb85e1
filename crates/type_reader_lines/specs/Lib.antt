pub mod Conversions
pub mod Encodings
pub mod LineErrors
pub mod Outcomes
pub mod Pieces
pub mod Steps
pub mod Values
