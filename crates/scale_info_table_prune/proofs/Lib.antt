pub mod ByteIndexes
pub mod AscendingRoots
pub mod TableIndexes
pub mod Pruning
pub mod SameTables
pub mod Renumbering
