-- Events with bytes one by one do not depend on types.
use Rattle.std.proofs.Common.{◌≡◌, ℕ, Bool, true, false, List, [], ◌∷◌, ◌++◌, length, map, Option, Some, None, option_map, refl, ap, sym, subst, ◌∙◌}
use Rattle.std.specs.List.{flat_map}
use Rattle.std.proofs.lemmas.List.{length-map, append-nil}
use Rattle.std.proofs.lemmas.List.Folds.{flat_map-map}
use Rattle.std.proofs.lemmas.Grind.{flat_map-append}
use Rattle.scale_info_types.specs.Portable.{Text, Field, TypeDef}
use Rattle.scale_info_table.specs.declared.portable.PortableRegistry.{PortableRegistry}
use Rattle.scale_info_value.specs.declared.value.Value.{Value}
use Rattle.scale_info_value.specs.declared.value.Value.TheVariants as Values
use Rattle.scale_info_value.specs.declared.value.Value.TheVariants.{rolls-List, rolls-Record, rolls-Variant}
use Rattle.scale_info_value.specs.declared.value.Value.TheOpen.{Value-F}
use Rattle.scale_info_value.specs.declared.value.Value.TheOpen as layer
use Rattle.scale_info_value.specs.declared.value.Value.TheViews.{roll-Value}
use Rattle.scale_info_value.specs.declared.value.Value.TheFolds.{fold-roll-Value, map-Value}
use Rattle.scale_info_value.proofs.ByLayers.{Known, lower, by_layers}
use Rattle.scale_info_value_visit.specs.Events as all_events
use Rattle.scale_info_value_visit.specs.Events.{Event, truth, unsigned, signed, text, bytes, begin_list, end_list, begin_record, end_record}
use Rattle.scale_info_value_visit.specs.Events.{begin_variant, end_variant, field, keys, all_named, items_events, integers_in, list_events}
use Rattle.scale_info_value_visit.specs.Events.{integers_events, one_by_one, untyped, shared_in, events_step, events_of, events_by, step_by, are_bytes, item_types, in_place}
use Rattle.scale_info_value_visit.specs.Events.{fields_in, choice_in, known_fields, known_in, field_type}
use Rattle.scale_info_value_visit.specs.Visits.{placed, bracketed, value_by, field_by}
use Rattle.scale_info_value_visit.proofs.Places.{length_in_place}
use Rattle.scale_info_value_visit.proofs.Events.{list_typed, record_typed, variant_typed}

-- an event with all forgotten that a type says of it
abbrev pub without_type : Event → List Event
without_type e = one_by_one (untyped e)

-- all events so
abbrev apart : List Event → List Event
apart es = flat_map without_type es

-- an item is one event of an integer
first_integer :
    (part : List Event) (items : List (List Event)) (all : List ℕ) → integers_in (part ∷ items) ≡ Some all
    → (n : ℕ) × (part ≡ unsigned n ∷ []) × (option_map (λ ns. n ∷ ns) (integers_in items) ≡ Some all)
first_integer [] items all e = cc
first_integer (unsigned n ∷ []) items all e = (n, refl, e)
first_integer part items all e = cc

-- the others are integers too
other_integers : (n : ℕ) (o : Option (List ℕ)) (all : List ℕ) → option_map (λ ns. n ∷ ns) o ≡ Some all → (ns : List ℕ) × (o ≡ Some ns) × (all ≡ n ∷ ns)
other_integers n None all e = cc
other_integers n (Some ns) all e = let p : n ∷ ns ≡ all = cc in (ns, refl, sym p)

-- items that are integers
are_integers : (items : List (List Event)) (all : List ℕ) → integers_in items ≡ Some all → items ≡ map (λ n. unsigned n ∷ []) all
are_integers [] [] e = refl
are_integers [] (n ∷ all) e = cc
are_integers (part ∷ items) all e =
    let p = first_integer part items all e in
    let q = other_integers p.0 (integers_in items) all p.2 in
    (λ i. p.1 i ∷ are_integers items q.0 q.1 i) ∙ ap (map (λ n. unsigned n ∷ [])) (sym q.2)

-- integers in a row
integers_flat : (all : List ℕ) → flat_map (λ e. e) (map (λ n. unsigned n ∷ []) all) ≡ map unsigned all
integers_flat [] = refl
integers_flat (n ∷ all) = ap (λ es. unsigned n ∷ es) (integers_flat all)

-- they stay as they are
integers_stay : (all : List ℕ) (last : List Event) → apart (map unsigned all ++ last) ≡ map unsigned all ++ apart last
integers_stay [] last = refl
integers_stay (n ∷ all) last = ap (λ es. unsigned n ∷ es) (integers_stay all last)

-- bytes one by one are a list of integers
bytes_apart :
    (items : List (List Event)) (all : List ℕ) → integers_in items ≡ Some all
    → apart (bytes all ∷ []) ≡ apart (items_events items)
bytes_apart items all e =
    append-nil (integers_events all)
    ∙ ap (λ es. begin_list (length all) ∷ es) (sym (integers_stay all (end_list ∷ [])))
    ∙ (λ i. apart (begin_list (sym (length-map all (λ n. unsigned n ∷ [])) i) ∷ sym (integers_flat all) i ++ end_list ∷ []))
    ∙ ap (λ parts. apart (items_events parts)) (sym (are_integers items all e))

-- a list one by one does not depend on whether it is of bytes
joined_apart : (o : Option (List ℕ)) (items : List (List Event)) → integers_in items ≡ o → apart (all_events.joined o items) ≡ apart (items_events items)
joined_apart None items e = refl
joined_apart (Some all) items e = bytes_apart items all e

list_apart : (b : Bool) (items : List (List Event)) → apart (list_events b items) ≡ apart (items_events items)
list_apart false items = refl
list_apart true items = joined_apart (integers_in items) items refl

-- parts one by one
placed_apart :
    {K P T : Type 0} (shows : P → Option T → List Event) (alone : P → List Event) (part : K → P)
    → ((k : K) (t : Option T) → apart (shows (part k) t) ≡ alone (part k))
    → (ks : List K) (known : List (Option T)) (last : List Event)
    → apart (placed shows known (map part ks) ++ last) ≡ flat_map alone (map part ks) ++ apart last
placed_apart shows alone part law ks known last =
    flat_map-append without_type (placed shows known (map part ks)) last ∙ ap (λ es. es ++ apart last) (all ks known)
  where
    all : (ks : List _) (known : List (Option _)) → apart (placed shows known (map part ks)) ≡ flat_map alone (map part ks)
    all [] known = refl
    all (k ∷ ks) [] =
        flat_map-append without_type (shows (part k) None) (placed shows [] (map part ks)) ∙ (λ i. law k None i ++ all ks [] i)
    all (k ∷ ks) (t ∷ known) =
        flat_map-append without_type (shows (part k) t) (placed shows known (map part ks)) ∙ (λ i. law k t i ++ all ks known i)

module _ (table : PortableRegistry) where
  -- a value's events one by one do not depend on what is known of its type
  abbrev Alike : Value → Type 0
  Alike d = (type : Option TypeDef) → apart (events_by table type d) ≡ events_of d

  -- a layer with no parts
  by_layer :
      (x : Value-F Value) (type : Option TypeDef)
      → apart (step_by table (map-Value Value (Option TypeDef → List Event) (value_by table) x) type)
      ≡ events_step (map-Value Value (List Event) events_of x)
      → apart (events_by table type (roll-Value x)) ≡ events_of (roll-Value x)
  by_layer x type e =
      ap (λ h. apart (h type)) (fold-roll-Value (Option TypeDef → List Event) (step_by table) x)
      ∙ e ∙ sym (fold-roll-Value (List Event) events_step x)

  -- the events of a list, with no types
  list_plain : (vs : List Value) → events_of (Values.List vs) ≡ begin_list (length vs) ∷ flat_map events_of vs ++ end_list ∷ []
  list_plain vs =
      ap events_of (sym (rolls-List vs)) ∙ fold-roll-Value (List Event) events_step (layer.List vs)
      ∙ (λ i. begin_list (length-map vs events_of i) ∷ flat_map-map (λ e. e) events_of vs i ++ end_list ∷ [])

  -- a list
  lists_alike : (ks : List (Known Alike)) → Alike (Values.List (map (λ k. k.0) ks))
  lists_alike ks type =
      let vs : List Value = map (λ k. k.0) ks in
      let types = item_types table type (length vs) in
      ap apart (list_typed table type vs) ∙ list_apart (are_bytes table type) (in_place (value_by table) vs types)
      ∙ ap (λ es. begin_list (length (in_place (value_by table) vs types)) ∷ es)
      (placed_apart (value_by table) events_of (λ k. k.0) (λ k t. k.1 t) ks types (end_list ∷ []))
      ∙ ap (λ n. begin_list n ∷ flat_map events_of vs ++ end_list ∷ []) (length_in_place (value_by table) vs types)
      ∙ sym (list_plain vs)

  -- fields with no types
  abbrev field_plain : Bool → Option Text × Value → List Event
  field_plain named f = field f.0 named None ∷ events_of f.1

  -- fields with the events of their values
  abbrev plain : List (Option Text × Value) → List (Option Text × List Event)
  plain fs = map (λ f. (f.0, events_of f.1)) fs

  keys_plain : (fs : List (Option Text × Value)) → keys (plain fs) ≡ keys fs
  keys_plain [] = refl
  keys_plain (f ∷ fs) = ap (λ ns. f.0 ∷ ns) (keys_plain fs)

  fields_plain :
      (named : Bool) (fs : List (Option Text × Value))
      → flat_map (all_events.field_events named) (plain fs) ≡ flat_map (field_plain named) fs
  fields_plain named [] = refl
  fields_plain named (f ∷ fs) = ap (λ es. field_plain named f ++ es) (fields_plain named fs)

  -- fields between two events
  abbrev between_names : Event → Event → List (Option Field) → List (Option Text × Value) → List Event
  between_names first last known fs = bracketed first (placed (field_by table (all_named (keys fs))) known) last fs

  -- the same with no types
  abbrev plain_between :
      (List (Option Text) → Event) → (List (Option Text) → Event) → List (Option Text × List Event) → List Event
  plain_between first last fs = first (keys fs) ∷ flat_map (all_events.field_events (all_named (keys fs))) fs ++ last (keys fs) ∷ []

  -- one by one they do not depend on types
  fields_alike :
      (first last : Event) (begins ends : List (Option Text) → Event) (known : List (Option Field))
      (ks : List (Option Text × Known Alike))
      → without_type first ≡ begins (keys (map (λ k. (k.0, k.1.0)) ks)) ∷ []
      → without_type last ≡ ends (keys (map (λ k. (k.0, k.1.0)) ks)) ∷ []
      → apart (between_names first last known (map (λ k. (k.0, k.1.0)) ks)) ≡ plain_between begins ends (plain (map (λ k. (k.0, k.1.0)) ks))
  fields_alike first last begins ends known ks one other =
      let fs : List (Option Text × Value) = map (λ k. (k.0, k.1.0)) ks in
      let named = all_named (keys fs) in
      ap (λ es. es ++ apart (placed (field_by table named) known fs ++ last ∷ [])) one
      ∙ ap (λ es. begins (keys fs) ∷ es)
      (placed_apart (field_by table named) (field_plain named) (λ k. (k.0, k.1.0))
      (λ k t. ap (λ es. field k.0 named None ∷ es) (k.1.1 (field_type table t))) ks known (last ∷ []))
      ∙ ap (λ es. begins (keys fs) ∷ flat_map (field_plain named) fs ++ (es ++ [])) other
      ∙ ap (λ es. begins (keys fs) ∷ es ++ ends (keys fs) ∷ []) (sym (fields_plain named fs))
      ∙ ap (λ ns. begins ns ∷ flat_map (all_events.field_events (all_named ns)) (plain fs) ++ ends ns ∷ []) (sym (keys_plain fs))

  -- each layer of values, whose events do not depend on types
  layers_alike : (y : Value-F (Known Alike)) → Alike (roll-Value (lower Alike y))
  layers_alike (layer.Bool b) type = by_layer (layer.Bool b) type refl
  layers_alike (layer.Unsigned n) type = by_layer (layer.Unsigned n) type refl
  layers_alike (layer.Signed n) type = by_layer (layer.Signed n) type refl
  layers_alike (layer.Text t) type = by_layer (layer.Text t) type refl
  layers_alike (layer.List ks) type = subst (λ d. apart (events_by table type d) ≡ events_of d) (sym (rolls-List (map (λ k. k.0) ks))) (lists_alike ks type)
  layers_alike (layer.Record ks) type =
      let fs : List (Option Text × Value) = map (λ k. (k.0, k.1.0)) ks in
      subst (λ d. apart (events_by table type d) ≡ events_of d) (sym (rolls-Record fs))
      (ap apart (record_typed table type fs)
      ∙ fields_alike (begin_record (keys fs) (fields_in type)) (end_record (keys fs) (fields_in type))
      (λ ns. begin_record ns None) (λ ns. end_record ns None) (known_fields (fields_in type)) ks refl refl
      ∙ sym (ap events_of (sym (rolls-Record fs)) ∙ fold-roll-Value (List Event) events_step (layer.Record fs)))
  layers_alike (layer.Variant name index ks) type =
      let fs : List (Option Text × Value) = map (λ k. (k.0, k.1.0)) ks in
      subst (λ d. apart (events_by table type d) ≡ events_of d) (sym (rolls-Variant name index fs))
      (ap apart (variant_typed table type name index fs)
      ∙ fields_alike (begin_variant name index (keys fs) (shared_in type name) (choice_in type index))
      (end_variant name index (keys fs) (shared_in type name) (choice_in type index))
      (λ ns. begin_variant name index ns false None) (λ ns. end_variant name index ns false None) (known_in (choice_in type index)) ks refl refl
      ∙ sym (ap events_of (sym (rolls-Variant name index fs)) ∙ fold-roll-Value (List Event) events_step (layer.Variant name index fs)))

  -- every value's events, with all forgotten that types say, are those without types
  pub all_alike : (d : Value) → Alike d
  all_alike = by_layers Alike layers_alike
