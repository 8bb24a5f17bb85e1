pub mod AllOf
pub mod Errors
pub mod Items
pub mod ListValues
pub mod Options
pub mod TupleParts
