pub mod Inside
pub mod Visiting
pub mod KeptEntries
pub mod NumberMaps
mod Cleared
