pub mod Takers
pub mod TreeParts
pub mod DefinitionTakers
pub mod Takings
pub mod TreesOfTexts
pub mod TreeExamples
