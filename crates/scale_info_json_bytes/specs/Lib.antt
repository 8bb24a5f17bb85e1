pub mod Skips
pub mod Transcodings
pub use Rattle.scale_info_grammar.specs.Ty
pub use Rattle.scale_info_json_trees.specs.EntryTrees
