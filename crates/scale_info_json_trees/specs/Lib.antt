pub mod Meaning
pub mod Written
pub mod Steps
pub mod PartTrees
pub mod DefinitionTrees
pub mod EntryTrees
