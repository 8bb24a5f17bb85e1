pub mod BoundLaws
pub mod ViewEntries
pub mod ViewLaws
pub mod Views
