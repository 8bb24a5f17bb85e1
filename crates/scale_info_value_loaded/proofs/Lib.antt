pub mod Parts
pub mod WalkedPart
pub mod Shown
