pub mod LastElement
pub mod Ordered
pub mod Orders
pub mod Chunks
