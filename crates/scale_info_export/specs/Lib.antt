pub mod BorrowedEntries
pub mod BorrowedLaws
pub mod Exports
pub mod Headline
