pub mod ByteIndexLaws
pub mod ByteIndexes
pub mod Prunes
pub mod Roots
pub mod SameTypes
pub mod TableIndexes
pub mod TableLaws
pub use Rattle.scale_info_grammar.specs.Ty
