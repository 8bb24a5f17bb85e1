pub mod Closed
pub mod Conversions
pub mod Gathered
