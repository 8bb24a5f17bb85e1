pub mod Comparisons
pub mod Declarations
pub mod Differences
pub mod Differing
pub mod NamedTables
pub mod TableChanges
pub mod TypesByPath
