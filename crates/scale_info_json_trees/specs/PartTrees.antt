-- Parts of descriptions as trees.
use Rattle.std.specs.Prelude.{◌^◌, List, [], ◌∷◌, Some, codes, option_map}
use Rattle.serde_json.specs.Data.{Data, number, unsigned, string}
use Rattle.scale_info_types.specs.Portable as portable
use Rattle.scale_info_types.specs.Portable.{Id, Text}
use Rattle.scale_info_json_trees.specs.Meaning.{MeansNumber, MeansText, IsObject, HasValue, HasList}
use Rattle.scale_info_json_trees.specs.Meaning.{HasOption}
use Rattle.scale_info_json_trees.specs.Written.{Row, object_tree, unless_empty, or_null}

-- an id is a number
abbrev pub id_tree : Id → Data
id_tree v = number (unsigned v.id)

-- the number is that of the id
abbrev pub MeansId : Data → Id → Type 0
MeansId d v = MeansNumber (2 ^ 32) d v.id

-- ---- a parameter

-- the keys of a parameter and how each is written
abbrev pub parameter_rows : portable.TypeParameter → List Row
parameter_rows v =
    (codes "name", Some (string v.name))
    ∷ (codes "type", Some (or_null id_tree v.ty))
    ∷ []

-- the tree means the parameter: how each key is read
pub record MeansParameter (d : Data) (v : portable.TypeParameter) : Type 0 where
  pub object : IsObject d
  pub name : HasValue (codes "name") MeansText d v.name
  pub ty : HasOption (codes "type") MeansId d v.ty

-- ---- a field

-- the keys of a field and how each is written
abbrev pub field_rows : portable.Field → List Row
field_rows v =
    (codes "docs", unless_empty string v.docs)
    ∷ (codes "name", option_map string v.name)
    ∷ (codes "type", Some (id_tree v.ty))
    ∷ (codes "typeName", option_map string v.type_name)
    ∷ []

-- the tree means the field: how each key is read
pub record MeansField (d : Data) (v : portable.Field) : Type 0 where
  pub object : IsObject d
  pub docs : HasList (codes "docs") MeansText d v.docs
  pub name : HasOption (codes "name") MeansText d v.name
  pub ty : HasValue (codes "type") MeansId d v.ty
  pub type_name : HasOption (codes "typeName") MeansText d v.type_name

-- ---- a variant

-- the keys of a variant and how each is written
abbrev pub variant_rows : portable.Variant → List Row
variant_rows v =
    (codes "docs", unless_empty string v.docs)
    ∷ (codes "fields", unless_empty (λ f. object_tree (field_rows f)) v.fields)
    ∷ (codes "index", Some (number (unsigned v.index)))
    ∷ (codes "name", Some (string v.name))
    ∷ []

-- the tree means the variant: how each key is read
pub record MeansVariant (d : Data) (v : portable.Variant) : Type 0 where
  pub object : IsObject d
  pub docs : HasList (codes "docs") MeansText d v.docs
  pub fields : HasList (codes "fields") MeansField d v.fields
  pub index : HasValue (codes "index") (MeansNumber 256) d v.index
  pub name : HasValue (codes "name") MeansText d v.name
