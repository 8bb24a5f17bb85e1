pub mod Definitions
mod Passes
mod Offsets
