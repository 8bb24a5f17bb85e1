pub mod Copies
pub mod InBytes
pub mod InTurn
pub mod Parts
