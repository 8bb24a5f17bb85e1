pub mod Ids
pub mod Commands
pub mod Lines
pub mod Reports
