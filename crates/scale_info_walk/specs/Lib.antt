pub mod Kept
pub mod SystemLaws
pub mod TypeSystems
pub mod Walks
