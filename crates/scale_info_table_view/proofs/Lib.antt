pub mod PathsFound
pub mod ViewReferences
pub mod Viewed
pub mod EntriesFound
pub mod ClosedEntries
pub mod Indexed
