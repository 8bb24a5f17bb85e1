pub mod Changes
pub mod WithoutDocs
pub use Rattle.scale_info_grammar.specs.Ty
