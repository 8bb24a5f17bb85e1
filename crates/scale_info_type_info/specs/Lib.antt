pub mod StandardTypes
pub use Rattle.scale_info_types.specs.MetaDescriptions
