pub mod Ty
pub mod TyLaws
pub mod Limits
pub mod WithoutMaps
