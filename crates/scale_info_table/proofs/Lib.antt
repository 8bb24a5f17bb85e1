pub mod Below
pub mod ClosedLists
pub mod IndexedEntries
pub mod Interned
pub mod Moved
pub mod Renumbered
