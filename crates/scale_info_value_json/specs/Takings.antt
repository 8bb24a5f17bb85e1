-- What comes of taking a value from a tree by a table.
use Rattle.std.specs.Prelude.{◌≡◌, ℕ, zero, suc, ◌-◌, ◌==◌, Bool, true, List, Option, Some, None}
use Rattle.std.specs.Prelude.{map}
use Rattle.std.specs.Prelude.{option_map}
use Rattle.std.specs.Borrow.{Bor}
use Rattle.serde_json.specs.Data.{Data, string}
use Rattle.serde_json.specs.View.{view}
use Rattle.serde_json.specs.declared.value.Value.{Value as JsonValue}
use Rattle.scale_info_types.specs.Portable.{Id, Text, Field, TypeDef, Description}
use Rattle.scale_info_types.specs.Shapes.{map_definition, map_field}
use Rattle.scale_info_table.specs.declared.portable.PortableRegistry.{PortableRegistry}
use Rattle.scale_info_value.specs.declared.value.Value.{Value}
use Rattle.scale_info_value.specs.Readings.{type_at, by_type}
use Rattle.scale_info_value_visit.specs.Events.{definition_at, is_byte}
use Rattle.scale_info_value_json.specs.Takers.{Taken, Taker, refused, no_such_type, too_deep}
use Rattle.scale_info_value_json.specs.Takers.{all_taken, in_turn}
use Rattle.scale_info_value_json.specs.DefinitionTakers.{Takers, value_by, compact_by, has_count}
use Rattle.scale_info_value_json.specs.DefinitionTakers.{items, fields, object_fields, field}
use Rattle.scale_info_value_json.specs.DefinitionTakers.{named_field, variant_fields, pair}

-- nothing is taken at an id that is no index
abbrev pub missing : Taker Value
missing tree = refused no_such_type

-- a compact integer by the description of a type, where `take` takes one by an id
abbrev pub compact_by_type : (ℕ → Taker Value) → Option Description → Taker Value
compact_by_type take d = by_type missing compact_by take d

-- a compact integer by an id, where that many levels are left
unfoldable pub compact_within : ℕ → PortableRegistry → ℕ → Taker Value
compact_within zero table id tree = refused too_deep
compact_within (suc left) table id tree =
    compact_by_type (compact_within left table) (type_at table id) tree

-- a value by the description of its type, where `part` takes by an id
abbrev pub value_by_type : (ℕ → Takers) → Option Description → Taker Value
value_by_type part d = by_type missing value_by part d

-- A value by an id, where that many levels are left. Its parts are one level deeper; the type of a
-- compact integer is as deep as the integer itself.
unfoldable pub value_within : ℕ → PortableRegistry → ℕ → Taker Value
value_within zero table id tree = refused too_deep
value_within (suc zero) table id tree =
    value_by_type (λ r. record {
      value = λ t. refused too_deep;
      inner = λ t. refused too_deep;
      compact = compact_within 1 table r;
      is_byte = is_byte (definition_at table r);
    }) (type_at table id) tree
value_within (suc (suc left)) table id tree =
    value_by_type (λ r. record {
      value = value_within (suc left) table r;
      inner = value_within left table r;
      compact = compact_within (suc (suc left)) table r;
      is_byte = is_byte (definition_at table r);
    }) (type_at table id) tree

-- The value of the type with that id, at a depth, that is taken from a tree, or why there is none.
-- The value that is asked for has depth 1, and no value is deeper than 128.
abbrev pub taking : PortableRegistry → ℕ → ℕ → Taker Value
taking table id depth tree = value_within (129 - depth) table id tree

-- the takers that a reference stands for, where `left` levels are left for the value itself
abbrev pub part_within : ℕ → PortableRegistry → Id → Takers
part_within left table r = record {
  value = value_within (left - 1) table r.id;
  inner = value_within (left - 2) table r.id;
  compact = compact_within left table r.id;
  is_byte = is_byte (definition_at table r.id);
}

-- a value by a definition
abbrev pub definition_within : ℕ → PortableRegistry → TypeDef → Taker Value
definition_within left table d tree =
    value_by (map_definition {G = Unit {0}} (part_within left table) (λ t. t) d) tree

-- a compact integer by a definition
abbrev pub compact_definition_within : ℕ → PortableRegistry → TypeDef → Taker Value
compact_definition_within left table d tree =
    compact_by
    (map_definition {G = Unit {0}} (λ r. compact_within (left - 1) table r.id) (λ t. t) d) tree

-- what a reference shows of a tree, if there is one
abbrev pub seen : Option (Bor JsonValue) → Option Data
seen content = option_map (λ tree. view tree.now) content

-- how many items a list is to have: so many, or fewer than 2^32
abbrev pub is_count_of : Option ℕ → ℕ → Bool
is_count_of None n = has_count n
is_count_of (Some count) n = n == count

-- a list of one type
abbrev pub items_within : ℕ → PortableRegistry → Id → Option ℕ → Taker Value
items_within left table ty count tree = items (is_count_of count) (part_within left table ty) tree

-- what comes of a text at each list of bytes, whatever the table and its entry for bytes
abbrev pub AtBytes : ℕ → Option ℕ → Text → (Taken Value → Type 0) → Type 0
AtBytes left count text P =
    (table : PortableRegistry) (ty : Id) → is_byte (definition_at table ty.id) ≡ true
    → P (items_within left table ty count (string text))

-- the values of the fields
abbrev pub fields_within :
    ℕ → PortableRegistry → List Field → Taker (List (Option (List ℕ) × Value))
fields_within left table all tree =
    fields (map (map_field {G = Unit {0}} (part_within left table) (λ t. t)) all) tree

-- the values of fields from an object
abbrev pub object_fields_within :
    ℕ → PortableRegistry → List Field → Taker (List (Option (List ℕ) × Value))
object_fields_within left table all tree =
    object_fields (map (map_field {G = Unit {0}} (part_within left table) (λ t. t)) all) tree

-- the values of fields from the members of an object
abbrev pub named_fields_within :
    ℕ → PortableRegistry → List Field → Taker (List (Option (List ℕ) × Value))
named_fields_within left table all tree =
    all_taken (map (named_field tree)
    (map (map_field {G = Unit {0}} (part_within left table) (λ t. t)) all))

-- the values of fields from trees in order
abbrev pub array_fields_within :
    ℕ → PortableRegistry → List Field → List Data → Taken (List (Option (List ℕ) × Value))
array_fields_within left table all trees =
    in_turn (map field (map (map_field {G = Unit {0}} (part_within left table) (λ t. t)) all)) trees

-- the values of the fields of a variant
abbrev pub variant_fields_within : ℕ → PortableRegistry → List Field → Option Data
    → Taken (List (Option (List ℕ) × Value))
variant_fields_within left table all content =
    variant_fields (map (map_field {G = Unit {0}} (part_within left table) (λ t. t)) all) content

-- the takers of values of these types
abbrev pub takers_within : ℕ → PortableRegistry → List Id → List (Taker Value)
takers_within left table types = map (λ part. part.value) (map (part_within left table) types)

-- a key and a value
abbrev pub pair_within : ℕ → PortableRegistry → Id → Id → Taker Value
pair_within left table key value tree =
    pair (part_within left table key) (part_within left table value) tree
