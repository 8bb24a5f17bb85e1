-- What comes of decoding a value by a table.
use Rattle.std.specs.Prelude.{ℕ, zero, suc, ◌-◌, List, Option, Some, None, option_map, slice_get}
use Rattle.std.specs.Prelude.{map}
use Rattle.scale_info_types.specs.Portable.{Id, Text, Field, Variant, TypeDef, Description}
use Rattle.scale_info_types.specs.declared.ty.TypeDef.{TypeDef as AnyTypeDef}
use Rattle.scale_info_types.specs.Shapes.{map_definition, map_field, map_variant}
use Rattle.scale_info_table.specs.declared.portable.PortableRegistry.{PortableRegistry}
use Rattle.scale_info_value.specs.declared.value.Value.{Value}
use Rattle.scale_info_value.specs.Outcomes.{Decoder, failed, no_such_type, too_deep}
use Rattle.scale_info_value.specs.ValueDefinitions.{Part, items, members, fields, chosen_variant}
use Rattle.scale_info_value.specs.ValueDefinitions.{pair, pairs}
use Rattle.scale_info_value.specs.ValueDefinitions.{value_by, compact_by}

-- the description of an id, which is an index
abbrev pub type_at : PortableRegistry → ℕ → Option Description
type_at table id = option_map (λ entry. entry.ty) (slice_get table.types id)

-- What comes of the description of a type: what `by` makes of its definition, where `part` says
-- what an id in it stands for, or `none`.
abbrev pub by_type : {D X : Type 0}
    → D → (AnyTypeDef (Unit {0}) X Text → D) → (ℕ → X) → Option Description → D
by_type none by part None = none
by_type none by part (Some d) =
    by (map_definition {G = Unit {0}} (λ r. part r.id) (λ t. t) d.type_def)

-- nothing is decoded at an id that is no index
abbrev pub missing : {A : Type 0} → Decoder A
missing input = failed no_such_type

-- a compact integer by the description of a type, where `read` decodes one by an id
abbrev pub compact_by_type : (ℕ → Decoder ℕ) → Option Description → Decoder ℕ
compact_by_type read d = by_type missing compact_by read d

-- a compact integer by an id, where that many levels are left
unfoldable pub compact_within : ℕ → PortableRegistry → ℕ → Decoder ℕ
compact_within zero table id input = failed too_deep
compact_within (suc left) table id input =
    compact_by_type (compact_within left table) (type_at table id) input

-- a value by the description of its type, where `part` decodes by an id
abbrev pub value_by_type : (ℕ → Part) → Option Description → Decoder Value
value_by_type part d = by_type missing value_by part d

-- A value by an id, where that many levels are left. Its parts are one level deeper; the type of a
-- compact integer is as deep as the integer itself.
unfoldable pub value_within : ℕ → PortableRegistry → ℕ → Decoder Value
value_within zero table id input = failed too_deep
value_within (suc zero) table id input =
    value_by_type (λ r. record {
      value = λ bytes. failed too_deep;
      inner = λ bytes. failed too_deep;
      compact = compact_within 1 table r;
    }) (type_at table id) input
value_within (suc (suc left)) table id input =
    value_by_type (λ r. record {
      value = value_within (suc left) table r;
      inner = value_within left table r;
      compact = compact_within (suc (suc left)) table r;
    }) (type_at table id) input

-- The outcome of bytes at a value of the type with that id, at a depth. The value that is asked for
-- has depth 1, and no value is deeper than 128.
abbrev pub reading : PortableRegistry → ℕ → ℕ → Decoder Value
reading table id depth input = value_within (129 - depth) table id input

-- the decoders that a reference stands for, where `left` levels are left for the value itself
abbrev pub part_within : ℕ → PortableRegistry → Id → Part
part_within left table r = record {
  value = value_within (left - 1) table r.id;
  inner = value_within (left - 2) table r.id;
  compact = compact_within left table r.id;
}

-- a value by a definition
abbrev pub definition_within : ℕ → PortableRegistry → TypeDef → Decoder Value
definition_within left table d input =
    value_by (map_definition {G = Unit {0}} (part_within left table) (λ t. t) d) input

-- a compact integer by a definition
abbrev pub compact_definition_within : ℕ → PortableRegistry → TypeDef → Decoder ℕ
compact_definition_within left table d input =
    compact_by
    (map_definition {G = Unit {0}} (λ r. compact_within (left - 1) table r.id) (λ t. t) d) input

-- the values of fields
abbrev pub fields_within :
    ℕ → PortableRegistry → List Field → Decoder (List (Option (List ℕ) × Value))
fields_within left table all input =
    fields (map (map_field {G = Unit {0}} (part_within left table) (λ t. t)) all) input

-- a value of an enum with these variants
abbrev pub variant_within : ℕ → PortableRegistry → List Variant → Decoder Value
variant_within left table all input =
    chosen_variant (map (map_variant {G = Unit {0}} (part_within left table) (λ t. t)) all) input

-- so many values of one type
abbrev pub items_within : ℕ → PortableRegistry → Id → ℕ → Decoder (List Value)
items_within left table ty n input = items n (part_within left table ty) input

-- a value of each type in order
abbrev pub members_within : ℕ → PortableRegistry → List Id → Decoder (List Value)
members_within left table types input = members (map (part_within left table) types) input

-- a key and a value
abbrev pub pair_within : ℕ → PortableRegistry → Id → Id → Decoder Value
pair_within left table key value input =
    pair (part_within left table key) (part_within left table value) input

-- so many keys and values
abbrev pub pairs_within : ℕ → PortableRegistry → Id → Id → ℕ → Decoder (List Value)
pairs_within left table key value n input =
    pairs n (part_within left table key) (part_within left table value) input
