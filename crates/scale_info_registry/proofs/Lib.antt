mod BorrowedTypes
mod Composed
mod Conversions
pub mod Enumerated
mod Numbered
mod Registered
mod Steps
