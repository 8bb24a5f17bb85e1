pub mod Stops
pub mod Converted
pub mod Trees
pub mod Leaves
pub mod Lists
pub mod Members
pub mod Definitions
pub mod Wholes
