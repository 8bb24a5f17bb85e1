pub mod StandardTerms
pub use Rattle.scale_info_identities.specs.TypeIds
