-- What is read of bytes and shown, whether or not a value of the type is there.
use Rattle.std.specs.Prelude.{ℕ, zero, suc, ◌-◌, ◌==◌, Bool, true, false, List, [], ◌∷◌, ◌++◌}
use Rattle.std.specs.Prelude.{length, map, replicate, Option, Some, None, find}
use Rattle.scale_info_types.specs.Portable.{Id, Field, Variant, TypeDef}
use Rattle.scale_info_types.specs.declared.ty.TypeDef.TheVariants as def
use Rattle.scale_info_primitives.specs.declared.primitive.TypeDefPrimitive.{TypeDefPrimitive}
use Rattle.scale_info_table.specs.declared.portable.PortableRegistry.{PortableRegistry}
use Rattle.scale_info_value.specs.declared.value.Failure.{Failure}
use Rattle.scale_info_value.specs.Outcomes.{Outcome, decoded, failed}
use Rattle.scale_info_value.specs.Outcomes.{no_such_type, unsupported, too_deep, malformed}
use Rattle.scale_info_value.specs.IntegerDecoders as integer
use Rattle.scale_info_value.specs.IntegerDecoders.{byte, count}
use Rattle.scale_info_value.specs.ValueDefinitions.{primitive}
use Rattle.scale_info_value.specs.Readings.{compact_within}
use Rattle.scale_info_value_visit.specs.Events.{Event, unsigned, bytes, begin_list, end_list}
use Rattle.scale_info_value_visit.specs.Events.{begin_fields, end_fields, begin_of, end_of, field_of}
use Rattle.scale_info_value_visit.specs.Events.{events_of, definition_at, pair_of, is_byte, all_named}
use Rattle.scale_info_value_visit.specs.Events.{names}

-- what is read of bytes: the events in order, and how it ends, with the rest of the bytes or a
-- failure
pub record Read : Type 0 where
  pub events : List Event
  pub end : Outcome (Unit {0})

-- what is read of each list of bytes
abbrev pub Reader : Type 0
Reader = List ℕ → Read

-- these events, and then this rest
abbrev pub shows : List Event → Reader
shows events rest = record { events = events; end = decoded tt rest }

-- a failure, and no event
abbrev pub fails : Failure → Read
fails why = record { events = []; end = failed why }

-- these events, and then what is read after them
abbrev pub after : List Event → Read → Read
after events read = record { events = events ++ read.events; end = read.end }

-- what was read and how it ended, and, where that is a rest, what is read of it
abbrev pub then_read : List Event → Outcome (Unit {0}) → Reader → Read
then_read events (decoded _ rest) next = after events (next rest)
then_read events (failed why) next = record { events = events; end = failed why }

-- goes on with the rest; a failure stays
abbrev pub followed_by : Read → Reader → Read
followed_by read next = then_read read.events read.end next

-- goes on with what a decoder gives, which shows nothing
abbrev pub with_value : {A : Type 0} → Outcome A → (A → Reader) → Read
with_value (decoded value rest) next = next value rest
with_value (failed why) next = fails why

-- one after another
abbrev pub each : List Reader → Reader
each [] rest = shows [] rest
each (first ∷ more) input = followed_by (first input) (each more)

-- what stands between two events
abbrev pub between : Event → Reader → Event → Reader
between first inner last input =
    after (first ∷ []) (followed_by (inner input) (shows (last ∷ [])))

-- a value of a primitive
abbrev pub primitive_read : TypeDefPrimitive → Reader
primitive_read kind input =
    with_value (primitive kind input) (λ value rest. shows (events_of value) rest)

-- so many bytes at once
abbrev pub bytes_read : ℕ → Reader
bytes_read n input = with_value (integer.bytes n input) (λ all rest. shows (bytes all ∷ []) rest)

-- a list of so many items, which are shown at once where they are bytes
abbrev pub items_read : Bool → ℕ → Reader → Reader
items_read true n item input = bytes_read n input
items_read false n item input = between (begin_list n) (each (replicate n item)) end_list input

-- why no value of a type with this definition is read, whatever the bytes are, if so many levels
-- are left for it
abbrev pub barred : ℕ → Option TypeDef → Option Failure
barred zero type = Some too_deep
barred (suc left) None = Some no_such_type
barred (suc left) (Some d) = None

-- what is read, if nothing bars it
abbrev pub unless : Option Failure → Read → Read
unless None read = read
unless (Some why) read = fails why

-- In what follows, `left` levels are left for the parts of a value, and `part` says what is read of a
-- part by the definition of its type, if there is one.

-- A list of so many items of one type. Where there are any, no event is shown before it is known
-- that their type has values.
abbrev pub list_read : ℕ → (Option TypeDef → Reader) → Option TypeDef → ℕ → Reader
list_read left part type zero input = items_read (is_byte type) zero (part type) input
list_read left part type (suc n) input =
    unless (barred left type) (items_read (is_byte type) (suc n) (part type) input)

-- a field, and then its value
abbrev pub field_read : PortableRegistry → (Option TypeDef → Reader) → Bool → Field → Reader
field_read table part named f input =
    after (field_of named f ∷ []) (part (definition_at table f.ty.id) input)

-- the fields in order
abbrev pub fields_read :
    PortableRegistry → (Option TypeDef → Reader) → Bool → List Field → Reader
fields_read table part named all input = each (map (field_read table part named) all) input

-- a record of these fields
abbrev pub record_read : PortableRegistry → (Option TypeDef → Reader) → List Field → Reader
record_read table part all input =
    between (begin_fields all) (fields_read table part (all_named (names all)) all)
    (end_fields all) input

-- the fields of this variant of the enum, if there is one
abbrev pub chosen_read : PortableRegistry → (Option TypeDef → Reader) → List Variant
    → Option Variant → Reader
chosen_read table part choice None input = fails malformed
chosen_read table part choice (Some v) input =
    between (begin_of choice v) (fields_read table part (all_named (names v.fields)) v.fields)
    (end_of choice v) input

-- an index byte, and then the first variant with that index
abbrev pub variant_read : PortableRegistry → (Option TypeDef → Reader) → List Variant → Reader
variant_read table part choice input =
    with_value (byte input)
    (λ index rest. chosen_read table part choice (find (λ v. v.index == index) choice) rest)

-- a value of each type in order
abbrev pub members_read : PortableRegistry → (Option TypeDef → Reader) → List Id → Reader
members_read table part types input = each (map (λ t. part (definition_at table t.id)) types) input

-- a list of a value of each type
abbrev pub tuple_read : PortableRegistry → (Option TypeDef → Reader) → List Id → Reader
tuple_read table part types input =
    between (begin_list (length types)) (members_read table part types) end_list input

-- a value of each kind of definition
abbrev pub kind_read : ℕ → PortableRegistry → (Option TypeDef → Reader) → TypeDef → Reader
kind_read left table part (def.Composite d) input = record_read table part d.fields input
kind_read left table part (def.Variant d) input = variant_read table part d.variants input
kind_read left table part (def.Sequence d) input =
    with_value (count input)
    (λ n rest. list_read left part (definition_at table d.type_param.id) n rest)
kind_read left table part (def.Array d) input =
    list_read left part (definition_at table d.type_param.id) d.len input
kind_read left table part (def.Tuple d) input = tuple_read table part d.fields input
kind_read left table part (def.Primitive p) input = primitive_read p input
kind_read left table part (def.Compact d) input =
    with_value (compact_within (suc left) table d.type_param.id input)
    (λ n rest. shows (unsigned n ∷ []) rest)
kind_read left table part (def.BitSequence d) input = fails unsupported
kind_read left table part (def.Map d) input =
    with_value (count input) (λ n rest.
    between (begin_list n) (each (replicate n (part (Some (pair_of d.key d.value))))) end_list rest)

-- a value by the definition of its type, if there is one, where so many levels are left for it
unfoldable pub value_read : ℕ → PortableRegistry → Option TypeDef → Reader
value_read zero table type input = fails too_deep
value_read (suc left) table None input = fails no_such_type
value_read (suc left) table (Some d) input = kind_read left table (value_read left table) d input

-- what is read of a part of a value, where so many levels are left for the value
abbrev pub part_read : ℕ → PortableRegistry → Option TypeDef → Reader
part_read left table type input = value_read (left - 1) table type input

-- what is read of bytes by the type with this id; no value is deeper than 128
abbrev pub read_of : PortableRegistry → ℕ → Reader
read_of table id input = value_read 128 table (definition_at table id) input

-- the events of all that is read, also where it fails in the end
abbrev pub events_read : PortableRegistry → ℕ → List ℕ → List Event
events_read table id input = (read_of table id input).events
