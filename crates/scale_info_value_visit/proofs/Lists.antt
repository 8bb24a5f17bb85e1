-- The events of lists, records and fields as a table has them.
use Rattle.std.proofs.Common.{◌≡◌, ℕ, ◌+◌, ◌<◌, List, [], ◌∷◌, length, map, replicate, drop, get_or, Option, Some, None}
use Rattle.std.proofs.Common.{refl, ap, sym, ◌∙◌, arith, option_map, find, cond, Bool, true, false, ◌==◌, drop-cons, add-one}
use Rattle.std.proofs.lemmas.List.{length-map}
use Rattle.std.proofs.lemmas.Grind.{common_steps}
use Rattle.scale_info_types.specs.Portable.{Id, Text, Field, Variant, TypeDef, TypeDefComposite, TypeDefVariant}
use Rattle.scale_info_types.specs.Portable.{TypeDefSequence, TypeDefArray, TypeDefTuple, TypeDefMap}
use Rattle.scale_info_types.specs.declared.ty.TypeDef.TheVariants as def
use Rattle.scale_info_types.specs.Shapes.{map_field}
use Rattle.scale_info_table.specs.declared.portable.PortableRegistry.{PortableRegistry}
use Rattle.scale_info_value.specs.declared.value.Value.{Value}
use Rattle.scale_info_value.specs.declared.value.Value.TheVariants as Values
use Rattle.scale_info_value.specs.Outcomes.{Outcome, decoded, failed, Decoder, outcome_map}
use Rattle.scale_info_value.specs.ValueDefinitions.{field}
use Rattle.scale_info_value.specs.Readings.{fields_within, part_within, members_within}
use Rattle.scale_info_value_visit.specs.Events.{Event, begin_list, end_list, begin_record, end_record, begin_variant, end_variant}
use Rattle.scale_info_value_visit.specs.Events.{keys, names, all_named, is_shared, bytes, unsigned, events_by, begin_fields, end_fields}
use Rattle.scale_info_value_visit.specs.Events.{begin_of, end_of, known_in, definition_at, pair_of, is_byte, in_place, list_events, joined}
use Rattle.scale_info_value_visit.specs.Visits.{field_within, bracketed, placed, value_by, field_by}
use Rattle.scale_info_value_visit.proofs.Events.{list_typed, record_typed, variant_typed, integers_alone, integers_joined}
use Rattle.scale_info_value_visit.proofs.Places.{length_in_place}
use Rattle.scale_info_value_visit.proofs.Turns.{with_first, as_many}

-- fields as the table has them
abbrev pub fields_by : PortableRegistry → Bool → List Field → List (Option Text × Value) → List Event
fields_by table named all = placed (field_by table named) (map Some all)

-- so many items of one type
abbrev pub items_by : PortableRegistry → Option TypeDef → ℕ → List Value → List Event
items_by table type count = placed (value_by table) (replicate count type)

-- an item of each type in order
abbrev pub members_by : PortableRegistry → List Id → List Value → List Event
members_by table types = placed (value_by table) (map (λ t. definition_at table t.id) types)

-- a list of so many items of one type, which are shown at once where they are bytes
abbrev pub list_by : PortableRegistry → Option TypeDef → ℕ → List Value → List Event
list_by table type count items =
    list_events (is_byte type) (in_place (value_by table) items (replicate count type))

-- a name stays as it is
pub same_text : (o : Option Text) → option_map (λ t. t) o ≡ o
same_text None = refl
same_text (Some t) = refl

-- a value under a name has the name
named_value :
    (name : Option Text) (o : Outcome Value) (v : Option Text × Value) (r : List ℕ)
    → outcome_map (λ value. (name, value)) o ≡ decoded v r → v.0 ≡ name
named_value name (decoded d s) v r e = let p : (name, d) ≡ v = cc in ap (λ x. x.0) (sym p)
named_value name (failed why) v r e = cc

-- the values of fields stand under the fields' names
pub named_alike :
    (left : ℕ) (table : PortableRegistry) (all : List Field) (input : List ℕ) (fs : List (Option Text × Value)) (rest : List ℕ)
    → fields_within left table all input ≡ decoded fs rest → keys fs ≡ names all
named_alike left table [] input [] rest e = refl
named_alike left table [] input (f ∷ fs) rest e = cc
named_alike left table (x ∷ all) input fs rest e =
    let p = with_first (field_within left table x input) (map field (map (map_field {G = Unit {0}} (part_within left table) (λ t. t)) all)) fs rest e in
    let name = named_value (option_map (λ t. t) x.name) ((part_within left table x.ty).value input) p.0 p.1 p.3 ∙ same_text x.name in
    let others = named_alike left table all p.1 p.2 rest p.4 in
    ap keys p.5 ∙ (λ i. name i ∷ others i)

-- the events of a record of these fields
pub record_same :
    (left : ℕ) (table : PortableRegistry) (composite : TypeDefComposite) (input : List ℕ)
    (fs : List (Option Text × Value)) (rest : List ℕ) → fields_within left table composite.fields input ≡ decoded fs rest
    → events_by table (Some (def.Composite composite)) (Values.Record fs)
    ≡ bracketed (begin_fields composite.fields) (fields_by table (all_named (names composite.fields)) composite.fields)
    (end_fields composite.fields) fs
record_same left table composite input fs rest e =
    let all = composite.fields in
    record_typed table (Some (def.Composite composite)) fs
    ∙ ap (λ ns. bracketed (begin_record ns (Some all)) (fields_by table (all_named ns) all) (end_record ns (Some all)) fs)
    (named_alike left table all input fs rest e)

-- the events of a variant
pub variant_same :
    (left : ℕ) (table : PortableRegistry) (choice : TypeDefVariant) (variant : Variant) (input : List ℕ)
    → find (λ v. v.index == variant.index) choice.variants ≡ Some variant
    → (fs : List (Option Text × Value)) (rest : List ℕ) → fields_within left table variant.fields input ≡ decoded fs rest
    → events_by table (Some (def.Variant choice)) (Values.Variant variant.name variant.index fs)
    ≡ bracketed (begin_of choice.variants variant) (fields_by table (all_named (names variant.fields)) variant.fields)
    (end_of choice.variants variant) fs
variant_same left table choice variant input found fs rest e =
    let shared = is_shared choice.variants variant.name in
    let first : List (Option Text) → Option (List Variant × Variant) → Event =
    λ ns o. begin_variant variant.name variant.index ns shared o in
    let last : List (Option Text) → Option (List Variant × Variant) → Event =
    λ ns o. end_variant variant.name variant.index ns shared o in
    variant_typed table (Some (def.Variant choice)) variant.name variant.index fs
    ∙ ap (λ o.
    let c : Option (List Variant × Variant) = option_map (λ v. (choice.variants, v)) o in
    bracketed (first (keys fs) c) (placed (field_by table (all_named (keys fs))) (known_in c)) (last (keys fs) c) fs) found
    ∙ ap (λ ns.
    let c : Option (List Variant × Variant) = Some (choice.variants, variant) in
    bracketed (first ns c) (fields_by table (all_named ns) variant.fields) (last ns c) fs)
    (named_alike left table variant.fields input fs rest e)

-- the events of a list that is not shown at once
list_apart :
    (table : PortableRegistry) (types : List (Option TypeDef)) (n : ℕ) (vs : List Value) → length vs ≡ n
    → list_events false (in_place (value_by table) vs types) ≡ bracketed (begin_list n) (placed (value_by table) types) end_list vs
list_apart table types n vs long =
    ap (λ m. bracketed (begin_list m) (placed (value_by table) types) end_list vs)
    (length_in_place (value_by table) vs types ∙ long)

-- the events of a sequence
pub sequence_same :
    (table : PortableRegistry) (sequence : TypeDefSequence) (n : ℕ) (vs : List Value) → length vs ≡ n
    → events_by table (Some (def.Sequence sequence)) (Values.List vs) ≡ list_by table (definition_at table sequence.type_param.id) n vs
sequence_same table sequence n vs long =
    list_typed table (Some (def.Sequence sequence)) vs
    ∙ ap (λ m. list_by table (definition_at table sequence.type_param.id) m vs) long

-- the events of an array
pub array_same :
    (table : PortableRegistry) (array : TypeDefArray) (vs : List Value) → length vs ≡ array.len
    → events_by table (Some (def.Array array)) (Values.List vs) ≡ list_by table (definition_at table array.type_param.id) array.len vs
array_same table array vs long =
    list_typed table (Some (def.Array array)) vs
    ∙ ap (λ m. list_by table (definition_at table array.type_param.id) m vs) long

-- the events of a tuple
pub tuple_same :
    (table : PortableRegistry) (tuple : TypeDefTuple) (vs : List Value) → length vs ≡ length tuple.fields
    → events_by table (Some (def.Tuple tuple)) (Values.List vs)
    ≡ bracketed (begin_list (length tuple.fields)) (members_by table tuple.fields) end_list vs
tuple_same table tuple vs long =
    list_typed table (Some (def.Tuple tuple)) vs
    ∙ list_apart table (map (λ t. definition_at table t.id) tuple.fields) (length tuple.fields) vs long

-- the events of a map
pub map_same :
    (table : PortableRegistry) (entries : TypeDefMap) (n : ℕ) (vs : List Value) → length vs ≡ n
    → events_by table (Some (def.Map entries)) (Values.List vs)
    ≡ bracketed (begin_list n) (items_by table (Some (pair_of entries.key entries.value)) n) end_list vs
map_same table entries n vs long =
    let pair : Option TypeDef = Some (pair_of entries.key entries.value) in
    list_typed table (Some (def.Map entries)) vs
    ∙ ap (λ m. list_events false (in_place (value_by table) vs (replicate m pair))) long
    ∙ list_apart table (replicate n pair) n vs long

-- the events of items that are no bytes
pub items_same :
    (table : PortableRegistry) (d : TypeDef) (n : ℕ) (vs : List Value)
    → is_byte (Some d) ≡ false → length vs ≡ n
    → list_by table (Some d) n vs ≡ bracketed (begin_list n) (items_by table (Some d) n) end_list vs
items_same table d n vs other long =
    ap (λ b. list_events b (in_place (value_by table) vs (replicate n (Some d)))) other
    ∙ list_apart table (replicate n (Some d)) n vs long

-- the events of bytes
pub bytes_same :
    (table : PortableRegistry) (d : TypeDef) (n : ℕ) (all : List ℕ)
    → is_byte (Some d) ≡ true → list_by table (Some d) n (map Values.Unsigned all) ≡ bytes all ∷ []
bytes_same table d n all byte_sized =
    ap (λ b. list_events b (in_place (value_by table) (map Values.Unsigned all) (replicate n (Some d)))) byte_sized
    ∙ ap (λ items. list_events true items) (integers_alone table all (replicate n (Some d)))
    ∙ ap (λ o. joined o (map (λ m. unsigned m ∷ []) all)) (integers_joined all)

-- of a list from a place on, the first, and the others
pub first_of :
    {A : Type 0} (l : List A) (j : ℕ) (d : A) → j < length l → d ≡ get_or l j d → drop j l ≡ d ∷ drop (j + 1) l
first_of l j d h e =
    drop-cons l j d h ∙ (λ i. sym e i ∷ drop (sym (add-one j) i) l)

-- what is found by an index has the index
pub found_index :
    (index : ℕ) (vs : List Variant) (v : Variant) → find (λ w. w.index == index) vs ≡ Some v → index ≡ v.index
found_index index [] v e = cc
found_index index (w ∷ vs) v e = found_or (w.index == index) refl (found_index index vs v) e
  where
    found_or :
        (b : Bool) → (w.index == index) ≡ b
        → (find (λ u. u.index == index) vs ≡ Some v → index ≡ v.index)
        → cond b (Some w) (find (λ u. u.index == index) vs) ≡ Some v → index ≡ v.index
    found_or true h more f =
        let p : w ≡ v = cc in
        let q : w.index ≡ index = grind (arith, common_steps) in
        sym q ∙ ap (λ u. u.index) p
    found_or false h more f = more f

-- what is found by an index is found by its own
pub found_itself :
    (index : ℕ) (vs : List Variant) (v : Variant)
    → find (λ w. w.index == index) vs ≡ Some v → find (λ w. w.index == v.index) vs ≡ Some v
found_itself index vs v e = ap (λ i. find (λ w. w.index == i) vs) (sym (found_index index vs v e)) ∙ e

-- as many values are decoded as there are types
pub many_members :
    (left : ℕ) (table : PortableRegistry) (ids : List Id) (input : List ℕ) (vs : List Value) (rest : List ℕ)
    → members_within left table ids input ≡ decoded vs rest → length vs ≡ length ids
many_members left table ids input vs rest e =
    let parts = map (part_within left table) ids in
    let readers : List (Decoder Value) = map (λ p. p.value) parts in
    as_many readers input vs rest e ∙ length-map parts (λ p. p.value) ∙ length-map ids (part_within left table)
