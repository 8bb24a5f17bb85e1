pub mod Catalogues
mod CatalogueWeights
pub mod Discovered
mod Interning
mod NumberCaches
pub mod Terms
