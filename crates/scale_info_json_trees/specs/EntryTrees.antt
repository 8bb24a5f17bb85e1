-- Descriptions, entries and lists of entries as trees.
use Rattle.std.specs.Prelude.{◌^◌, List, [], ◌∷◌, Some, codes}
use Rattle.serde_json.specs.Data.{Data, number, unsigned, string}
use Rattle.scale_info_types.specs.Portable as portable
use Rattle.scale_info_types.specs.declared.ty.PortableType.{PortableType}
use Rattle.scale_info_json_trees.specs.Meaning.{MeansNumber, MeansText, IsObject}
use Rattle.scale_info_json_trees.specs.Meaning.{HasValue}
use Rattle.scale_info_json_trees.specs.Meaning.{HasList}
use Rattle.scale_info_json_trees.specs.Written.{Row, object_tree, list_tree, unless_empty}
use Rattle.scale_info_json_trees.specs.PartTrees.{parameter_rows, MeansParameter}
use Rattle.scale_info_json_trees.specs.DefinitionTrees.{type_def_rows, MeansTypeDef}

-- ---- a description

-- the keys of a description and how each is written
abbrev pub description_rows : portable.Description → List Row
description_rows v =
    (codes "def", Some (object_tree (type_def_rows v.type_def)))
    ∷ (codes "docs", unless_empty string v.docs)
    ∷ (codes "params", unless_empty (λ p. object_tree (parameter_rows p)) v.type_params)
    ∷ (codes "path", unless_empty string v.path.segments)
    ∷ []

-- the tree means the description: how each key is read
pub record MeansDescription (d : Data) (v : portable.Description) : Type 0 where
  pub object : IsObject d
  pub type_def : HasValue (codes "def") MeansTypeDef d v.type_def
  pub docs : HasList (codes "docs") MeansText d v.docs
  pub type_params : HasList (codes "params") MeansParameter d v.type_params
  pub path : HasList (codes "path") MeansText d v.path.segments

-- ---- an entry of a table

-- the keys of an entry and how each is written
abbrev pub entry_rows : PortableType → List Row
entry_rows v =
    (codes "id", Some (number (unsigned v.id)))
    ∷ (codes "type", Some (object_tree (description_rows v.ty)))
    ∷ []

-- the tree means the entry: how each key is read
pub record MeansEntry (d : Data) (v : PortableType) : Type 0 where
  pub object : IsObject d
  pub id : HasValue (codes "id") (MeansNumber (2 ^ 32)) d v.id
  pub ty : HasValue (codes "type") MeansDescription d v.ty

-- ---- the entries of a table

-- the one key of a table with these entries, and how it is written
abbrev pub types_rows : List PortableType → List Row
types_rows types =
    (codes "types", Some (list_tree (λ e. object_tree (entry_rows e)) types))
    ∷ []

-- the one tree that is written for a table with these entries
abbrev pub types_tree : List PortableType → Data
types_tree types = object_tree (types_rows types)
