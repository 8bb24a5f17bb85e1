-- Tables with their types by their paths, and tables without docs.
use Rattle.std.specs.Prelude.{◌≡◌, ℕ, List, map}
use Rattle.scale_info_table_docs.specs.WithoutDocs.{entry_without_docs}
use Rattle.scale_info_grammar.specs.Ty.{EncodesTypes}
use Rattle.scale_info_types.specs.Portable.{Text}
use Rattle.scale_info_types.specs.declared.ty.PortableType.{PortableType}
use Rattle.scale_info_table_diff.specs.TypesByPath.{AreIdsByPath, paths_of}

-- these are the paths of the types, and each row has the ids of the types with the path at the same
-- place
pub record AreTypesByPath (types : List PortableType) (paths : List Text) (rows : List (List ℕ))
    : Type 0 where
  pub are_paths : paths ≡ paths_of types
  pub are_ids : AreIdsByPath types paths rows

-- the bytes encode, without docs, the table that the input encodes
pub record IsWithoutDocs (input bytes : List ℕ) : Type 0 where
  pub types : List PortableType
  pub encodes : EncodesTypes types input
  pub written : EncodesTypes (map entry_without_docs types) bytes
