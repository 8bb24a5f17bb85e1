pub mod LoadedLaws
pub mod LoadedTables
