pub mod Definitions
mod Objects
pub mod Parts
mod Skips
mod Tables
mod Tokens
