pub mod Writers
pub mod IntegerWriters
pub mod CompactTypes
pub mod DefinitionWriters
pub mod Writings
pub mod Paths
pub mod Failures
