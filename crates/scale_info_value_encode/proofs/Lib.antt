pub mod AsLevels
pub mod Appending
pub mod Compacts
pub mod Definitions
pub mod InTurn
pub mod IntegerBytes
pub mod Inverse
pub mod Levels
pub mod LowBytes
pub mod NamedParts
pub mod Primitives
pub mod SoFar
pub mod Steps
pub mod Texts
pub mod ValueKinds
pub mod Widths
pub mod Pruned
mod EqualErrors
mod Paths
