-- What comes of encoding a value by a table.
use Rattle.std.specs.Prelude.{ℕ, zero, suc, ◌-◌, List, Option, map}
use Rattle.scale_info_types.specs.Portable.{Id, Field, TypeDef, Description}
use Rattle.scale_info_types.specs.Shapes.{map_definition, map_field}
use Rattle.scale_info_table.specs.declared.portable.PortableRegistry.{PortableRegistry}
use Rattle.scale_info_value.specs.declared.value.Value.{Value}
use Rattle.scale_info_value.specs.Readings.{type_at, by_type}
use Rattle.scale_info_value_encode.specs.Writers.{Writer, refused, no_such_type, too_deep}
use Rattle.scale_info_value_encode.specs.DefinitionWriters.{Writers, value_by, compact_by, fields}
use Rattle.scale_info_value_encode.specs.DefinitionWriters.{pair}

-- nothing is encoded at an id that is no index
abbrev pub missing : Writer Value
missing value = refused no_such_type

-- a compact integer by the description of a type, where `write` encodes one by an id
abbrev pub compact_by_type : (ℕ → Writer Value) → Option Description → Writer Value
compact_by_type write d = by_type missing compact_by write d

-- a compact integer by an id, where that many levels are left
unfoldable pub compact_within : ℕ → PortableRegistry → ℕ → Writer Value
compact_within zero table id value = refused too_deep
compact_within (suc left) table id value =
    compact_by_type (compact_within left table) (type_at table id) value

-- a value by the description of its type, where `part` encodes by an id
abbrev pub value_by_type : (ℕ → Writers) → Option Description → Writer Value
value_by_type part d = by_type missing value_by part d

-- A value by an id, where that many levels are left. Its parts are one level deeper; the type of a
-- compact integer is as deep as the integer itself.
unfoldable pub value_within : ℕ → PortableRegistry → ℕ → Writer Value
value_within zero table id value = refused too_deep
value_within (suc zero) table id value =
    value_by_type (λ r. record {
      value = λ v. refused too_deep;
      inner = λ v. refused too_deep;
      compact = compact_within 1 table r;
    }) (type_at table id) value
value_within (suc (suc left)) table id value =
    value_by_type (λ r. record {
      value = value_within (suc left) table r;
      inner = value_within left table r;
      compact = compact_within (suc (suc left)) table r;
    }) (type_at table id) value

-- The bytes of a value of the type with that id, at a depth, or why it has none. The value that is
-- asked for has depth 1, and no value is deeper than 128.
abbrev pub writing : PortableRegistry → ℕ → ℕ → Writer Value
writing table id depth value = value_within (129 - depth) table id value

-- the writers that a reference stands for, where `left` levels are left for the value itself
abbrev pub part_within : ℕ → PortableRegistry → Id → Writers
part_within left table r = record {
  value = value_within (left - 1) table r.id;
  inner = value_within (left - 2) table r.id;
  compact = compact_within left table r.id;
}

-- a value by a definition
abbrev pub definition_within : ℕ → PortableRegistry → TypeDef → Writer Value
definition_within left table d value =
    value_by (map_definition {G = Unit {0}} (part_within left table) (λ t. t) d) value

-- a compact integer by a definition
abbrev pub compact_definition_within : ℕ → PortableRegistry → TypeDef → Writer Value
compact_definition_within left table d value =
    compact_by
    (map_definition {G = Unit {0}} (λ r. compact_within (left - 1) table r.id) (λ t. t) d) value

-- the values of fields
abbrev pub fields_within :
    ℕ → PortableRegistry → List Field → Writer (List (Option (List ℕ) × Value))
fields_within left table all values =
    fields (map (map_field {G = Unit {0}} (part_within left table) (λ t. t)) all) values

-- a key and a value
abbrev pub pair_within : ℕ → PortableRegistry → Id → Id → Writer Value
pair_within left table key value entry =
    pair (part_within left table key) (part_within left table value) entry
