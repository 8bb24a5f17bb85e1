-- Tables as trees.
use Rattle.std.specs.Prelude.{List, codes}
use Rattle.serde_json.specs.Data.{Data}
use Rattle.scale_info_json_trees.specs.EntryTrees.{MeansEntry, types_rows, types_tree}
use Rattle.scale_info_json_trees.specs.Meaning.{HasValue, IsObject, MeansList}
use Rattle.scale_info_json_trees.specs.Written.{Row}
use Rattle.scale_info_table.specs.declared.portable.PortableRegistry.{PortableRegistry}

-- the one key of a table and how it is written
abbrev pub table_rows : PortableRegistry → List Row
table_rows table = types_rows table.types

-- the one tree that is written for a table
abbrev pub table_tree : PortableRegistry → Data
table_tree table = types_tree table.types

-- the tree means the table
pub record MeansTable (tree : Data) (table : PortableRegistry) : Type 0 where
  pub object : IsObject tree
  pub types : HasValue (codes "types") (MeansList MeansEntry) tree table.types
