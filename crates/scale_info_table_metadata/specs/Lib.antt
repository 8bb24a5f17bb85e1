pub mod HexTexts
pub mod Metadata
pub mod TablesFound
pub use Rattle.scale_info_grammar.specs.Ty
