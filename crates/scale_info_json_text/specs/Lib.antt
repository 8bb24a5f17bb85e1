pub mod Readings
pub mod Members
pub mod MemberLaws
pub mod Definitions
pub mod TextTables
