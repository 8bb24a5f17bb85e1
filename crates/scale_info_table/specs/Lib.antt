pub mod BuiltTables
pub mod ClosedTables
pub mod IndexedEntries
pub mod Pruned
pub mod TableEncoding
pub mod TableEncodingLaws
pub mod TableExamples
pub mod TableSystems
