pub mod ConvertErrors
pub mod Meanings
pub mod Places
pub mod StandingValues
pub mod TypedEncodings
