-- Types as Rust declares them.
use Rattle.std.specs.Prelude.{◌++◌, ℕ, List, [], ◌∷◌, Bool, true, false, ◌||◌}
use Rattle.std.specs.Prelude.{Option, Some, None, option_map, codes, decimal, if◌then◌else◌}
use Rattle.std.specs.List.{flat_map}
use Rattle.scale_info_table.specs.declared.portable.PortableRegistry.{PortableRegistry}
use Rattle.scale_info_types.specs.Portable.{Text, Field, Variant, TypeDef, Description}
use Rattle.scale_info_types.specs.declared.ty.TypeDef.TheVariants as def
use Rattle.scale_info_table_describe.specs.TypeNames.{type_at, last_segment, has_name, name_within}
use Rattle.scale_info_table_describe.specs.TypeNames.{arguments, field_on_line, fields_on_line}
use Rattle.scale_info_table_describe.specs.TypeNames.{definition_name}

-- the blanks before a field or a variant
abbrev pub four : List ℕ
four = codes "    "

-- the blanks before a field of a variant
abbrev pub eight : List ℕ
eight = codes "        "

-- a line of documentation
abbrev pub documentation_line : List ℕ → Text → List ℕ
documentation_line blanks line = blanks ++ codes "/// " ++ line ++ codes "\n"

-- lines of documentation, each behind these blanks
abbrev pub documentation : List ℕ → List Text → List ℕ
documentation blanks docs = flat_map (documentation_line blanks) docs

-- there is a line
abbrev pub is_documented : List Text → Bool
is_documented [] = false
is_documented (line ∷ docs) = true

-- one of the fields has documentation
abbrev pub has_docs : List Field → Bool
has_docs [] = false
has_docs (f ∷ fs) = is_documented f.docs || has_docs fs

-- Parts of declarations, where `name` is the name of the type with an id.
module _ (name : ℕ → List ℕ) where
  -- the lines of a field: its documentation, and the field
  abbrev pub field_line : List ℕ → Field → List ℕ
  field_line blanks f =
      documentation blanks f.docs ++ blanks ++ field_on_line name f ++ codes ",\n"

  -- fields one a line, in braces where one has a name, and else in parentheses
  abbrev pub fields_on_lines : List ℕ → List ℕ → List Field → List ℕ
  fields_on_lines outer inner fs =
      (if has_name fs then codes " {\n" else codes "(\n") ++ flat_map (field_line inner) fs
      ++ outer ++ (if has_name fs then codes "}" else codes ")")

  -- fields: one a line, where one has a name or documentation, and else on one line
  abbrev pub fields_of : List ℕ → List ℕ → List Field → List ℕ
  fields_of outer inner fs =
      if has_name fs || has_docs fs then fields_on_lines outer inner fs
      else fields_on_line name fs

  -- a blank, the last segment of the path and the arguments behind it
  abbrev pub title_by : Option Text → Description → List ℕ
  title_by None d = []
  title_by (Some segment) d = codes " " ++ segment ++ arguments name d.type_params

  -- the type's name, if it has a path
  abbrev pub title : Description → List ℕ
  title d = title_by (last_segment d) d

  -- a struct
  abbrev pub declared_struct : Description → List Field → List ℕ
  declared_struct d fs =
      codes "struct" ++ title d ++ fields_of [] four fs
      ++ (if has_name fs then [] else codes ";")

  -- the lines of a variant: its documentation, its fields and its index
  abbrev pub variant_line : Variant → List ℕ
  variant_line v =
      documentation four v.docs ++ four ++ v.name ++ fields_of four eight v.fields
      ++ codes " = " ++ decimal v.index ++ codes ",\n"

  -- an enum
  abbrev pub declared_enum : Description → List Variant → List ℕ
  declared_enum d vs =
      codes "enum" ++ title d ++ codes " {\n" ++ flat_map variant_line vs ++ codes "}"

  -- a definition that is neither, by the segments of the path: written out, where there is none
  abbrev pub alias_by : List Text → Description → TypeDef → List ℕ
  alias_by [] d definition = definition_name name definition
  alias_by (segment ∷ segments) d definition =
      codes "type" ++ title d ++ codes " = " ++ definition_name name definition ++ codes ";"

  -- a definition that is neither
  abbrev pub alias : Description → TypeDef → List ℕ
  alias d definition = alias_by d.path.segments d definition

  -- a type by its definition
  abbrev pub declared : Description → TypeDef → List ℕ
  declared d (def.Composite c) = declared_struct d c.fields
  declared d (def.Variant c) = declared_enum d c.variants
  declared d (def.Sequence c) = alias d (def.Sequence c)
  declared d (def.Array c) = alias d (def.Array c)
  declared d (def.Tuple c) = alias d (def.Tuple c)
  declared d (def.Primitive c) = alias d (def.Primitive c)
  declared d (def.Compact c) = alias d (def.Compact c)
  declared d (def.BitSequence c) = alias d (def.BitSequence c)
  declared d (def.Map c) = alias d (def.Map c)

  -- the declaration of a type, below its documentation
  abbrev pub declaration : Description → List ℕ
  declaration d = documentation [] d.docs ++ declared d d.type_def

-- the declaration of the type with an id, if the id is an index
abbrev pub description_at : PortableRegistry → ℕ → Option (List ℕ)
description_at table id = option_map (declaration (name_within 8 table)) (type_at table id)
