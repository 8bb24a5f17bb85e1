pub mod Catalogues
pub mod CatalogueSystems
pub mod Discoveries
pub mod NumberCaches
pub use Rattle.scale_info_types.specs.MetaDescriptions
