-- Values are shown alike by a table and by a part of it.
use Rattle.std.proofs.Common.{◌≡◌, ℕ, zero, suc, ◌==◌, Bool, true, false, List, [], ◌∷◌, ◌++◌, cond}
use Rattle.std.proofs.Common.{Contains, Option, Some, None, option_map, find, length, map, replicate}
use Rattle.std.proofs.Common.{slice_get, refl, ap, sym, subst, ◌∙◌}
use Rattle.std.specs.List.{flat_map}
use Rattle.std.proofs.lemmas.List.Elements.{Contains-append_left, Contains-append_right}
use Rattle.scale_info_value_loaded.proofs.Parts.{definition_refers, reached_next}
use Rattle.scale_info_value_loaded.specs.LoadedTables.{IsPartOf}
use Rattle.scale_info_numberings.proofs.Places.{contains_head, contains_tail}
use Rattle.scale_info_numberings.specs.Systems.{IsReached}
use Rattle.scale_info_table.specs.TableSystems.{system_of}
use Rattle.scale_info_table.specs.declared.portable.PortableRegistry.{PortableRegistry}
use Rattle.scale_info_types.specs.Portable.{Field, Id, Text, TypeDef, Variant}
use Rattle.scale_info_types.specs.References.{definition_references, field_references}
use Rattle.scale_info_types.specs.declared.ty.PortableType.{PortableType}
use Rattle.scale_info_types.specs.declared.ty.TypeDef.TheVariants as def
use Rattle.scale_info_value.proofs.ByLayers.{Known, lower, by_layers}
use Rattle.scale_info_value.specs.declared.value.Value.{Value}
use Rattle.scale_info_value.specs.declared.value.Value.TheFolds.{fold-roll-Value, map-Value}
use Rattle.scale_info_value.specs.declared.value.Value.TheOpen as layer
use Rattle.scale_info_value.specs.declared.value.Value.TheOpen.{Value-F}
use Rattle.scale_info_value.specs.declared.value.Value.TheVariants as Values
use Rattle.scale_info_value.specs.declared.value.Value.TheVariants.{rolls-List, rolls-Record, rolls-Variant}
use Rattle.scale_info_value.specs.declared.value.Value.TheViews.{roll-Value}
use Rattle.scale_info_value_visit.proofs.Events.{list_typed, record_typed, variant_typed}
use Rattle.scale_info_value_visit.specs.Events.{Event, all_named, are_bytes, begin_record, begin_variant}
use Rattle.scale_info_value_visit.specs.Events.{choice_in, definition_at, end_record, end_variant, events}
use Rattle.scale_info_value_visit.specs.Events.{events_by, field, fields_in, in_place, is_byte, item_types, keys}
use Rattle.scale_info_value_visit.specs.Events.{known_fields, known_in, list_events, pair_of, shared_in, step_by}
use Rattle.scale_info_value_visit.specs.Visits.{bracketed, field_by, placed, value_by}
use Rattle.scale_info_walk.specs.TypeSystems.{entry_of}

-- each id of these references is one with R
abbrev Each : (ℕ → Type 0) → List Id → Type 0
Each R rs = (r : Id) → Contains rs r → R r.id

-- each reference of a definition, if there is one, has R
abbrev Refers : (ℕ → Type 0) → Option TypeDef → Type 0
Refers R None = Unit {0}
Refers R (Some d) = Each R (definition_references d)

-- each of these has Q
abbrev AllHave : {T : Type 0} → (Option T → Type 0) → List (Option T) → Type 0
AllHave Q [] = Unit {0}
AllHave Q (t ∷ known) = Q t × AllHave Q known

-- parts that are shown alike at what has Q
in_place_alike :
    {K P T A : Type 0} (Q : Option T → Type 0) (f g : P → Option T → A) (part : K → P)
    → Q None → ((k : K) (t : Option T) → Q t → f (part k) t ≡ g (part k) t)
    → (ks : List K) (known : List (Option T)) → AllHave Q known
    → in_place f (map part ks) known ≡ in_place g (map part ks) known
in_place_alike Q f g part none law [] known all = refl
in_place_alike Q f g part none law (k ∷ ks) [] all =
    let first = law k None none in
    let rest = in_place_alike Q f g part none law ks [] tt in
    λ i. first i ∷ rest i
in_place_alike Q f g part none law (k ∷ ks) (t ∷ known) all =
    let first = law k t all.0 in
    let rest = in_place_alike Q f g part none law ks known all.1 in
    λ i. first i ∷ rest i

-- the fields of a variant, if there is one
abbrev fields_of : Option Variant → List Field
fields_of None = []
fields_of (Some v) = v.fields

-- the fields of the first variant with an index are among those of all variants
found_fields :
    (index : ℕ) (vs : List Variant) (r : Id)
    → Contains (field_references (fields_of (find (λ v. v.index == index) vs))) r
    → Contains (flat_map (λ (v : Variant). field_references v.fields) vs) r
found_fields index [] r c = c
found_fields index (v ∷ vs) r c = by (v.index == index) (λ h. found_fields index vs r h) c
  where
    by :
        (b : Bool)
        → (Contains (field_references (fields_of (find (λ w. w.index == index) vs))) r
        → Contains (flat_map (λ (w : Variant). field_references w.fields) vs) r)
        → Contains (field_references (fields_of (cond b (Some v) (find (λ w. w.index == index) vs)))) r
        → Contains (field_references v.fields ++ flat_map (λ (w : Variant). field_references w.fields) vs) r
    by true more c =
        Contains-append_left (field_references v.fields) (flat_map (λ (w : Variant). field_references w.fields) vs) r c
    by false more c =
        Contains-append_right (field_references v.fields) (flat_map (λ (w : Variant). field_references w.fields) vs) r
        (more c)

module _ (table part : PortableRegistry) (ids : List ℕ) (is : IsPartOf table ids part) where
  -- an id is reached
  abbrev Reached : ℕ → Type 0
  Reached id = IsReached (system_of table) ids id

  -- the definition of a type that is reached is in the part
  known : (id : ℕ) → Reached id → definition_at table id ≡ definition_at part id
  known id reached =
      ap (λ o. option_map (λ d. d.type_def) (option_map (λ (e : PortableType). e.ty) o)) (sym (is.loaded id reached))

  -- what it refers to is reached
  refers : (id : ℕ) → Reached id → Refers Reached (definition_at table id)
  refers id reached = by (slice_get table.types id) refl
    where
      by :
          (o : Option PortableType) → slice_get table.types id ≡ o
          → Refers Reached (option_map (λ d. d.type_def) (option_map (λ (e : PortableType). e.ty) o))
      by None there = tt
      by (Some entry) there = λ r c.
          reached_next (system_of table) ids id r.id (entry_of entry) reached
          (ap (option_map entry_of) there) (definition_refers entry.ty r c)

  -- definitions by the table that are those by the part, and refer to what is reached
  abbrev AreKnown : List (Option TypeDef) → List (Option TypeDef) → Type 0
  AreKnown types others = (types ≡ others) × AllHave (Refers Reached) types

  -- one more of them
  one_known :
      (id : ℕ) (types others : List (Option TypeDef)) → Reached id → AreKnown types others
      → AreKnown (definition_at table id ∷ types) (definition_at part id ∷ others)
  one_known id types others reached rest = (
    (λ i. known id reached i ∷ rest.0 i),
    (refers id reached, rest.1),
  )

  -- so many of one definition
  many_known :
      (n : ℕ) (t u : Option TypeDef) → t ≡ u → Refers Reached t
      → AreKnown (replicate n t) (replicate n u)
  many_known zero t u e h = (refl, tt)
  many_known (suc n) t u e h =
      let rest = many_known n t u e h in
      ((λ i. e i ∷ rest.0 i), (h, rest.1))

  -- the definitions of so many items
  items_known :
      (n : ℕ) (r : Id) → Each Reached (r ∷ [])
      → AreKnown (replicate n (definition_at table r.id)) (replicate n (definition_at part r.id))
  items_known n r h =
      let reached = h r (contains_head r []) in
      many_known n (definition_at table r.id) (definition_at part r.id) (known r.id reached)
      (refers r.id reached)

  -- the type of a field, if there is one, is reached
  abbrev IsReachedField : Option Field → Type 0
  IsReachedField None = Unit {0}
  IsReachedField (Some f) = Reached f.ty.id

  -- so are those of fields
  fields_reached : (fs : List Field) → Each Reached (field_references fs) → AllHave IsReachedField (map Some fs)
  fields_reached [] h = tt
  fields_reached (f ∷ fs) h = (
    h f.ty (contains_head f.ty (field_references fs)),
    fields_reached fs (λ r c. h r (contains_tail f.ty (field_references fs) r c)),
  )

  -- so are those of the fields of records of the type
  record_reached : (type : Option TypeDef) → Refers Reached type → AllHave IsReachedField (known_fields (fields_in type))
  record_reached (Some (def.Composite d)) h = fields_reached d.fields h
  record_reached _ h = tt

  -- so are those of a variant of the enum
  variant_reached :
      (type : Option TypeDef) (index : ℕ) → Refers Reached type → AllHave IsReachedField (known_in (choice_in type index))
  variant_reached (Some (def.Variant d)) index h =
      by (find (λ v. v.index == index) d.variants) (λ r c. h r (found_fields index d.variants r c))
    where
      by :
          (o : Option Variant) → Each Reached (field_references (fields_of o))
          → AllHave IsReachedField (known_in (option_map (λ v. (d.variants, v)) o))
      by None h = tt
      by (Some v) h = fields_reached v.fields h
  variant_reached _ index h = tt

  -- those of members
  members_known :
      (rs : List Id) → Each Reached rs
      → AreKnown (map (λ (t : Id). definition_at table t.id) rs)
      (map (λ (t : Id). definition_at part t.id) rs)
  members_known [] h = (refl, tt)
  members_known (r ∷ rs) h =
      one_known r.id (map (λ (t : Id). definition_at table t.id) rs)
      (map (λ (t : Id). definition_at part t.id) rs) (h r (contains_head r rs)) (members_known rs (λ s c. h s (contains_tail r rs s c)))

  -- the definitions of the items of a list, by the table and by the part
  types_known :
      (type : Option TypeDef) (count : ℕ) → Refers Reached type
      → AreKnown (item_types table type count) (item_types part type count)
  types_known None count h = (refl, tt)
  types_known (Some (def.Composite d)) count h = (refl, tt)
  types_known (Some (def.Variant d)) count h = (refl, tt)
  types_known (Some (def.Sequence d)) count h = items_known count d.type_param h
  types_known (Some (def.Array d)) count h = items_known count d.type_param h
  types_known (Some (def.Tuple d)) count h = members_known d.fields h
  types_known (Some (def.Primitive p)) count h = (refl, tt)
  types_known (Some (def.Compact d)) count h = (refl, tt)
  types_known (Some (def.BitSequence d)) count h = (refl, tt)
  types_known (Some (def.Map d)) count h =
      many_known count (Some (pair_of d.key d.value)) (Some (pair_of d.key d.value)) refl h

  -- which lists are bytes
  bytes_known : (type : Option TypeDef) → Refers Reached type → are_bytes table type ≡ are_bytes part type
  bytes_known None h = refl
  bytes_known (Some (def.Composite d)) h = refl
  bytes_known (Some (def.Variant d)) h = refl
  bytes_known (Some (def.Sequence d)) h =
      ap is_byte (known d.type_param.id (h d.type_param (contains_head d.type_param [])))
  bytes_known (Some (def.Array d)) h =
      ap is_byte (known d.type_param.id (h d.type_param (contains_head d.type_param [])))
  bytes_known (Some (def.Tuple d)) h = refl
  bytes_known (Some (def.Primitive p)) h = refl
  bytes_known (Some (def.Compact d)) h = refl
  bytes_known (Some (def.BitSequence d)) h = refl
  bytes_known (Some (def.Map d)) h = refl

  -- a value is shown alike by each definition whose references are reached
  abbrev Alike : Value → Type 0
  Alike d = (type : Option TypeDef) → Refers Reached type → events_by table type d ≡ events_by part type d

  -- a layer with no parts
  by_layer :
      (x : Value-F Value) (type : Option TypeDef)
      → step_by table (map-Value Value (Option TypeDef → List Event) (value_by table) x) type
      ≡ step_by part (map-Value Value (Option TypeDef → List Event) (value_by part) x) type
      → events_by table type (roll-Value x) ≡ events_by part type (roll-Value x)
  by_layer x type e =
      ap (λ h. h type) (fold-roll-Value (Option TypeDef → List Event) (step_by table) x)
      ∙ e ∙ sym (ap (λ h. h type) (fold-roll-Value (Option TypeDef → List Event) (step_by part) x))

  -- a list
  lists_alike : (ks : List (Known Alike)) → Alike (Values.List (map (λ k. k.0) ks))
  lists_alike ks type h =
      let vs : List Value = map (λ k. k.0) ks in
      let types = item_types table type (length vs) in
      let are_known = types_known type (length vs) h in
      list_typed table type vs
      ∙ ap (λ b. list_events b (in_place (value_by table) vs types)) (bytes_known type h)
      ∙ ap (list_events (are_bytes part type))
      (in_place_alike (Refers Reached) (value_by table) (value_by part) (λ (k : Known Alike). k.0) tt
      (λ k t r. k.1 t r) ks types are_known.1)
      ∙ ap (λ ts. list_events (are_bytes part type) (in_place (value_by part) vs ts)) are_known.0
      ∙ sym (list_typed part type vs)

  -- a field
  field_alike :
      (named : Bool) (k : Option Text × Known Alike) (f : Option Field) → IsReachedField f
      → field_by table named (k.0, k.1.0) f ≡ field_by part named (k.0, k.1.0) f
  field_alike named k None h = ap (λ es. field k.0 named None ∷ es) (k.1.1 None tt)
  field_alike named k (Some f) h =
      ap (λ es. field k.0 named (Some f) ∷ es)
      (k.1.1 (definition_at table f.ty.id) (refers f.ty.id h) ∙ ap (λ t. events_by part t k.1.0) (known f.ty.id h))

  -- fields between two events
  fields_alike :
      (first last : Event) (named : Bool) (ks : List (Option Text × Known Alike)) (fields : List (Option Field))
      → AllHave IsReachedField fields
      → bracketed first (placed (field_by table named) fields) last (map (λ k. (k.0, k.1.0)) ks)
      ≡ bracketed first (placed (field_by part named) fields) last (map (λ k. (k.0, k.1.0)) ks)
  fields_alike first last named ks fields h =
      ap (λ es. first ∷ flat_map (λ e. e) es ++ last ∷ [])
      (in_place_alike IsReachedField (field_by table named) (field_by part named)
      (λ (k : Option Text × Known Alike). (k.0, k.1.0)) tt (field_alike named) ks fields h)

  -- each layer of values that are shown alike
  layers_alike : (y : Value-F (Known Alike)) → Alike (roll-Value (lower Alike y))
  layers_alike (layer.Bool b) type h = by_layer (layer.Bool b) type refl
  layers_alike (layer.Unsigned n) type h = by_layer (layer.Unsigned n) type refl
  layers_alike (layer.Signed n) type h = by_layer (layer.Signed n) type refl
  layers_alike (layer.Text t) type h = by_layer (layer.Text t) type refl
  layers_alike (layer.List ks) type h =
      subst (λ d. events_by table type d ≡ events_by part type d) (sym (rolls-List (map (λ k. k.0) ks)))
      (lists_alike ks type h)
  layers_alike (layer.Record ks) type h =
      let fs : List (Option Text × Value) = map (λ k. (k.0, k.1.0)) ks in
      subst (λ d. events_by table type d ≡ events_by part type d) (sym (rolls-Record fs))
      (record_typed table type fs
      ∙ fields_alike (begin_record (keys fs) (fields_in type)) (end_record (keys fs) (fields_in type)) (all_named (keys fs)) ks
      (known_fields (fields_in type)) (record_reached type h)
      ∙ sym (record_typed part type fs))
  layers_alike (layer.Variant name index ks) type h =
      let fs : List (Option Text × Value) = map (λ k. (k.0, k.1.0)) ks in
      subst (λ d. events_by table type d ≡ events_by part type d) (sym (rolls-Variant name index fs))
      (variant_typed table type name index fs
      ∙ fields_alike (begin_variant name index (keys fs) (shared_in type name) (choice_in type index))
      (end_variant name index (keys fs) (shared_in type name) (choice_in type index)) (all_named (keys fs)) ks
      (known_in (choice_in type index)) (variant_reached type index h)
      ∙ sym (variant_typed part type name index fs))

  -- each value is shown alike
  all_alike : (d : Value) → Alike d
  all_alike = by_layers Alike layers_alike

  -- by each type that is reached
  pub shows_alike : (id : ℕ) → Reached id → (value : Value) → events part id value ≡ events table id value
  shows_alike id reached value =
      sym (all_alike value (definition_at table id) (refers id reached)
      ∙ ap (λ t. events_by part t value) (known id reached))
