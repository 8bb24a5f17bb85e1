-- What a value is made of, in order.
use Rattle.std.specs.Prelude.{ℕ, ℤ, Bool, true, false, List, [], ◌∷◌, ◌++◌, length, map, replicate}
use Rattle.std.specs.Prelude.{Option, Some, None, option_map, find, ◌==◌, nat_lt}
use Rattle.std.specs.List.{flat_map, count_by}
use Rattle.std.specs.Str.{bytes_eq}
use Rattle.scale_info_types.specs.Portable.{Id, Text, Field, Variant, TypeDef}
use Rattle.scale_info_types.specs.declared.ty.TypeDef.TheVariants as def
use Rattle.scale_info_primitives.specs.declared.primitive.TypeDefPrimitive.TheVariants as kind
use Rattle.scale_info_table.specs.declared.portable.PortableRegistry.{PortableRegistry}
use Rattle.scale_info_value.specs.Readings.{type_at}
use Rattle.scale_info_value.specs.declared.value.Value.{Value}
use Rattle.scale_info_value.specs.declared.value.Value.TheOpen.{Value-F}
use Rattle.scale_info_value.specs.declared.value.Value.TheOpen as layer
use Rattle.scale_info_value.specs.declared.value.Value.TheFolds.{fold-Value}

-- One step of going over a value. A list begins with how many items it has; a list of bytes is one
-- step. A record begins with the names of its fields; before the value of a field stand its name,
-- and whether all fields there have names. A variant begins with its name, its index, the names of
-- its fields, and whether another variant of its enum has the same name. Last stands what the table
-- has there: the fields of the record, the variants of the enum and this one, or the field; None,
-- where no type is known.
pub data Event : Type 0 where
  truth : Bool → Event
  unsigned : ℕ → Event
  signed : ℤ → Event
  text : Text → Event
  bytes : List ℕ → Event
  begin_list : ℕ → Event
  end_list : Event
  begin_record : List (Option Text) → Option (List Field) → Event
  end_record : List (Option Text) → Option (List Field) → Event
  begin_variant :
      Text → ℕ → List (Option Text) → Bool → Option (List Variant × Variant) → Event
  end_variant :
      Text → ℕ → List (Option Text) → Bool → Option (List Variant × Variant) → Event
  field : Option Text → Bool → Option Field → Event

-- the names in fields of values
abbrev pub keys : {A : Type 0} → List (Option Text × A) → List (Option Text)
keys fields = map (λ f. f.0) fields

-- whether all names are there
abbrev pub all_named : List (Option Text) → Bool
all_named [] = true
all_named (None ∷ names) = false
all_named (Some name ∷ names) = all_named names

-- a field of which no type is known, by its name and the events of its value
abbrev pub field_events : Bool → Option Text × List Event → List Event
field_events named f = field f.0 named None ∷ f.1

-- a list by the events of its items
abbrev pub items_events : List (List Event) → List Event
items_events items = begin_list (length items) ∷ flat_map (λ e. e) items ++ end_list ∷ []

-- the integers, where each item is one event of an integer of an unsigned type
abbrev pub integers_in : List (List Event) → Option (List ℕ)
integers_in [] = Some []
integers_in ((unsigned n ∷ []) ∷ items) = option_map (λ ns. n ∷ ns) (integers_in items)
integers_in (_ ∷ items) = None

-- items that are integers as one step, others as a list
abbrev pub joined : Option (List ℕ) → List (List Event) → List Event
joined (Some integers) items = bytes integers ∷ []
joined None items = items_events items

-- a list by the events of its items, where it is known whether they are bytes
abbrev pub list_events : Bool → List (List Event) → List Event
list_events true items = joined (integers_in items) items
list_events false items = items_events items

-- the events of a value by those of its parts, where no type is known
abbrev pub events_step : Value-F (List Event) → List Event
events_step (layer.Bool b) = truth b ∷ []
events_step (layer.Unsigned n) = unsigned n ∷ []
events_step (layer.Signed n) = signed n ∷ []
events_step (layer.Text t) = text t ∷ []
events_step (layer.List items) = items_events items
events_step (layer.Record fields) =
    begin_record (keys fields) None
    ∷ flat_map (field_events (all_named (keys fields))) fields ++ end_record (keys fields) None ∷ []
events_step (layer.Variant name index fields) =
    begin_variant name index (keys fields) false None
    ∷ flat_map (field_events (all_named (keys fields))) fields
    ++ end_variant name index (keys fields) false None ∷ []

-- the events of a value, of which no type is known
abbrev pub events_of : Value → List Event
events_of = fold-Value (List Event) events_step

-- the definition of the type with this id; None, where the id is no index
abbrev pub definition_at : PortableRegistry → ℕ → Option TypeDef
definition_at table id = option_map (λ d. d.type_def) (type_at table id)

-- the definition of a field's type, where the field is known
abbrev pub field_type : PortableRegistry → Option Field → Option TypeDef
field_type table None = None
field_type table (Some f) = definition_at table f.ty.id

-- the fields of records of the type
abbrev pub fields_in : Option TypeDef → Option (List Field)
fields_in (Some (def.Composite d)) = Some d.fields
fields_in _ = None

-- the variants of the enum, and the first with this index
abbrev pub choice_in : Option TypeDef → ℕ → Option (List Variant × Variant)
choice_in (Some (def.Variant d)) index =
    option_map (λ v. (d.variants, v)) (find (λ v. v.index == index) d.variants)
choice_in _ index = None

-- each of the fields, where they are known
abbrev pub known_fields : Option (List Field) → List (Option Field)
known_fields None = []
known_fields (Some all) = map Some all

-- those of the variant
abbrev pub known_in : Option (List Variant × Variant) → List (Option Field)
known_in choice = known_fields (option_map (λ c. c.1.fields) choice)

-- a pair in a map, as a tuple of two
abbrev pub pair_of : Id → Id → TypeDef
pair_of key value = def.Tuple (record { fields = key ∷ value ∷ []; form = tt })

-- the definitions of the types of the items of a list, in order, where it has so many
abbrev pub item_types : PortableRegistry → Option TypeDef → ℕ → List (Option TypeDef)
item_types table (Some (def.Sequence d)) count =
    replicate count (definition_at table d.type_param.id)
item_types table (Some (def.Array d)) count =
    replicate count (definition_at table d.type_param.id)
item_types table (Some (def.Tuple d)) count = map (λ t. definition_at table t.id) d.fields
item_types table (Some (def.Map d)) count = replicate count (Some (pair_of d.key d.value))
item_types table _ count = []

-- whether values of the type are bytes
abbrev pub is_byte : Option TypeDef → Bool
is_byte (Some (def.Primitive kind.U8)) = true
is_byte _ = false

-- whether values of the type are lists of bytes
abbrev pub are_bytes : PortableRegistry → Option TypeDef → Bool
are_bytes table (Some (def.Sequence d)) = is_byte (definition_at table d.type_param.id)
are_bytes table (Some (def.Array d)) = is_byte (definition_at table d.type_param.id)
are_bytes table _ = false

-- whether more than one of the variants has this name
abbrev pub is_shared : List Variant → Text → Bool
is_shared choice name = nat_lt 1 (count_by (λ v. bytes_eq v.name name) choice)

-- whether more than one variant of the enum has this name
abbrev pub shared_in : Option TypeDef → Text → Bool
shared_in (Some (def.Variant d)) name = is_shared d.variants name
shared_in _ name = false

-- each part with what is known at its place; of a part past all of them nothing is known
abbrev pub in_place :
    {P T A : Type 0} → (P → Option T → A) → List P → List (Option T) → List A
in_place f [] known = []
in_place f (p ∷ parts) [] = f p None ∷ in_place f parts []
in_place f (p ∷ parts) (t ∷ known) = f p t ∷ in_place f parts known

-- a field, and its value by the definition of the field's type
abbrev pub field_step : PortableRegistry → Bool
    → Option Text × (Option TypeDef → List Event) → Option Field → List Event
field_step table named f known = field f.0 named known ∷ f.1 (field_type table known)

-- the fields of a value, each as the table has it
abbrev pub fields_step : PortableRegistry → List (Option Text × (Option TypeDef → List Event))
    → List (Option Field) → List Event
fields_step table fields known =
    flat_map (λ e. e) (in_place (field_step table (all_named (keys fields))) fields known)

-- the events of a value by the definition of its type, of which each part goes by its own
abbrev pub step_by :
    PortableRegistry → Value-F (Option TypeDef → List Event) → Option TypeDef → List Event
step_by table (layer.Bool b) type = truth b ∷ []
step_by table (layer.Unsigned n) type = unsigned n ∷ []
step_by table (layer.Signed n) type = signed n ∷ []
step_by table (layer.Text t) type = text t ∷ []
step_by table (layer.List items) type =
    list_events (are_bytes table type)
    (in_place (λ e t. e t) items (item_types table type (length items)))
step_by table (layer.Record fields) type =
    begin_record (keys fields) (fields_in type)
    ∷ fields_step table fields (known_fields (fields_in type))
    ++ end_record (keys fields) (fields_in type) ∷ []
step_by table (layer.Variant name index fields) type =
    begin_variant name index (keys fields) (shared_in type name) (choice_in type index)
    ∷ fields_step table fields (known_in (choice_in type index))
    ++ end_variant name index (keys fields) (shared_in type name) (choice_in type index) ∷ []

-- the events of a value by the definition of its type
abbrev pub events_by : PortableRegistry → Option TypeDef → Value → List Event
events_by table type value = fold-Value (Option TypeDef → List Event) (step_by table) value type

-- the events of a value of the type with this id
abbrev pub events : PortableRegistry → ℕ → Value → List Event
events table id value = events_by table (definition_at table id) value

-- the events of a list of integers, one by one
abbrev pub integers_events : List ℕ → List Event
integers_events integers =
    begin_list (length integers) ∷ map unsigned integers ++ end_list ∷ []

-- bytes one by one, and any other event as it is
abbrev pub one_by_one : Event → List Event
one_by_one (bytes b) = integers_events b
one_by_one event = event ∷ []

-- an event with what the value alone says: nothing that a table has, and no name is shared
abbrev pub untyped : Event → Event
untyped (begin_record names known) = begin_record names None
untyped (end_record names known) = end_record names None
untyped (begin_variant name index names shared known) = begin_variant name index names false None
untyped (end_variant name index names shared known) = end_variant name index names false None
untyped (field name named known) = field name named None
untyped event = event

-- the names of fields of a table
abbrev pub names : List Field → List (Option Text)
names fields = map (λ f. f.name) fields

-- how a record of these fields begins
abbrev pub begin_fields : List Field → Event
begin_fields fields = begin_record (names fields) (Some fields)

-- how it ends
abbrev pub end_fields : List Field → Event
end_fields fields = end_record (names fields) (Some fields)

-- how one of the variants of a table's enum begins
abbrev pub begin_of : List Variant → Variant → Event
begin_of choice v =
    begin_variant v.name v.index (names v.fields) (is_shared choice v.name) (Some (choice, v))

-- how it ends
abbrev pub end_of : List Variant → Variant → Event
end_of choice v =
    end_variant v.name v.index (names v.fields) (is_shared choice v.name) (Some (choice, v))

-- a field of a table, before its value
abbrev pub field_of : Bool → Field → Event
field_of named f = field f.name named (Some f)
