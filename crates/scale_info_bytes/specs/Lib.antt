pub mod CompactLaws
pub mod Encodings
pub mod IntegerLaws
pub mod Integers
pub mod PartLaws
pub mod Parts
pub mod StringLaws
pub mod Strings
