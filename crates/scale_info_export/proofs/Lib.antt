pub mod BorrowedEntries
pub mod Exported
pub mod Headline
pub mod NumberedEntries
