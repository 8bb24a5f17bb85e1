-- The name of a type, as the field of another type mentions it.
use Rattle.std.specs.Prelude.{◌≡◌, ◌++◌, ℕ, zero, suc, List, [], ◌∷◌, Bool, false, ◌||◌}
use Rattle.std.specs.Prelude.{Option, Some, None, Result, String, OnOk, option_map, unwrap_or}
use Rattle.std.specs.Prelude.{is_some, length, ◌-◌, slice_get, codes, decimal, string_bytes}
use Rattle.std.specs.Prelude.{if◌then◌else◌}
use Rattle.std.specs.List.{flat_map, join_by}
use Rattle.scale_info_primitives.specs.Primitives.{primitive_name}
use Rattle.scale_info_table.specs.declared.portable.PortableRegistry.{PortableRegistry}
use Rattle.scale_info_types.specs.Portable.{Id, Text, TypeParameter, Field, Variant, TypeDef}
use Rattle.scale_info_types.specs.Portable.{Description}
use Rattle.scale_info_types.specs.declared.ty.TypeDef.TheVariants as def

-- where the call returned Ok, the text was appended
abbrev pub Appends : {T E Z : Type 0} → Result T E → String Z → String Z → List ℕ → Type 0
Appends result old new text = OnOk result (string_bytes new ≡ string_bytes old ++ text)

-- the description of an id, which is an index
abbrev pub type_at : PortableRegistry → ℕ → Option Description
type_at table id = option_map (λ entry. entry.ty) (slice_get table.types id)

-- the last segment of a type's path
abbrev pub last_segment : Description → Option Text
last_segment d = slice_get d.path.segments (length d.path.segments - 1)

-- texts with a comma and a blank between them
abbrev pub listed : {A : Type 0} → (A → List ℕ) → List A → List ℕ
listed text items = join_by text (codes ", ") items

-- one of the fields has a name
abbrev pub has_name : List Field → Bool
has_name [] = false
has_name (f ∷ fs) = is_some f.name || has_name fs

-- Parts of names, where `name` is the name of the type with an id.
module _ (name : ℕ → List ℕ) where
  -- the argument for a parameter: the name of its type, or else its own
  abbrev pub argument : TypeParameter → List ℕ
  argument p = unwrap_or (option_map (λ ty. name ty.id) p.ty) p.name

  -- the arguments for parameters, in angle brackets
  abbrev pub arguments : List TypeParameter → List ℕ
  arguments [] = []
  arguments (p ∷ ps) = codes "<" ++ listed argument (p ∷ ps) ++ codes ">"

  -- a tuple
  abbrev pub tuple_name : List Id → List ℕ
  tuple_name [] = codes "()"
  tuple_name (only ∷ []) = codes "(" ++ name only.id ++ codes ",)"
  tuple_name (first ∷ second ∷ more) =
      codes "(" ++ listed (λ ty. name ty.id) (first ∷ second ∷ more) ++ codes ")"

  -- a field: its name, if it has one, and the name of its type
  abbrev pub field_on_line : Field → List ℕ
  field_on_line f = unwrap_or (option_map (λ n. n ++ codes ": ") f.name) [] ++ name f.ty.id

  -- fields on one line, in braces where one has a name, and else in parentheses
  abbrev pub fields_on_line : List Field → List ℕ
  fields_on_line [] = []
  fields_on_line (f ∷ fs) =
      (if has_name (f ∷ fs) then codes " { " else codes "(") ++ listed field_on_line (f ∷ fs)
      ++ (if has_name (f ∷ fs) then codes " }" else codes ")")

  -- a variant on the line of its enum
  abbrev pub variant_on_line : Variant → List ℕ
  variant_on_line v = codes " " ++ v.name ++ fields_on_line v.fields ++ codes ","

  -- an enum without a name
  abbrev pub variants_on_line : List Variant → List ℕ
  variants_on_line vs = codes "enum {" ++ flat_map variant_on_line vs ++ codes " }"

  -- a definition, written out
  abbrev pub definition_name : TypeDef → List ℕ
  definition_name (def.Composite d) = codes "struct" ++ fields_on_line d.fields
  definition_name (def.Variant d) = variants_on_line d.variants
  definition_name (def.Sequence d) = codes "Vec<" ++ name d.type_param.id ++ codes ">"
  definition_name (def.Array d) =
      codes "[" ++ name d.type_param.id ++ codes "; " ++ decimal d.len ++ codes "]"
  definition_name (def.Tuple d) = tuple_name d.fields
  definition_name (def.Primitive p) = primitive_name p
  definition_name (def.Compact d) = codes "Compact<" ++ name d.type_param.id ++ codes ">"
  definition_name (def.BitSequence d) =
      codes "BitSequence<" ++ name d.bit_store_type.id ++ codes ", " ++ name d.bit_order_type.id
      ++ codes ">"
  definition_name (def.Map d) =
      codes "BTreeMap<" ++ name d.key.id ++ codes ", " ++ name d.value.id ++ codes ">"

  -- the name by the last segment of the path, which has the arguments behind it; a type without a
  -- path is written out
  abbrev pub named_by : Option Text → Description → List ℕ
  named_by None d = definition_name d.type_def
  named_by (Some segment) d = segment ++ arguments d.type_params

  -- the name of the type of a description
  abbrev pub named : Description → List ℕ
  named d = named_by (last_segment d) d

  -- the name by what the table has at an id: nothing, where the id is no index
  abbrev pub name_by : ℕ → Option Description → List ℕ
  name_by id None = codes "#" ++ decimal id
  name_by id (Some d) = named d

-- The name of the type with an id, at most so many types deep. The types that it mentions lie one
-- deeper.
unfoldable pub name_within : ℕ → PortableRegistry → ℕ → List ℕ
name_within zero table id = codes ".."
name_within (suc left) table id = name_by (name_within left table) id (type_at table id)

-- the name of the type with an id, eight types deep
abbrev pub name_at : PortableRegistry → ℕ → List ℕ
name_at table id = name_within 8 table id
