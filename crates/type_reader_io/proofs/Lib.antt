pub mod Lines
pub mod OneError
pub mod Pieces
pub mod Reports
