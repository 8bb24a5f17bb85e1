pub mod Phantoms
pub mod ShapeAndReferences
pub mod Contents
pub mod Injective
pub mod Iterators
pub mod Inverses
