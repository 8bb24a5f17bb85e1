pub mod ReadingLaws
pub mod Signing
pub mod Temperatures
pub mod Transfers
