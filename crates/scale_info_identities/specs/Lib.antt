pub mod TypeIds
pub mod TypeIdLaws
