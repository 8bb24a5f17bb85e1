-- The events of values by their parts.
use Rattle.std.proofs.Common.{◌≡◌, ℕ, Bool, List, [], ◌∷◌, ◌++◌, length, map, Option, Some, None, option_map, refl, ap, sym, ◌∙◌}
use Rattle.std.specs.List.{flat_map}
use Rattle.std.proofs.lemmas.List.{length-map}
use Rattle.scale_info_types.specs.Portable.{Text, Field, TypeDef}
use Rattle.scale_info_table.specs.declared.portable.PortableRegistry.{PortableRegistry}
use Rattle.scale_info_value.specs.declared.value.Value.{Value}
use Rattle.scale_info_value.specs.declared.value.Value.TheVariants as Values
use Rattle.scale_info_value.specs.declared.value.Value.TheVariants.{rolls-Bool, rolls-Unsigned, rolls-Signed, rolls-Text}
use Rattle.scale_info_value.specs.declared.value.Value.TheVariants.{rolls-List, rolls-Record, rolls-Variant}
use Rattle.scale_info_value.specs.declared.value.Value.TheOpen as layer
use Rattle.scale_info_value.specs.declared.value.Value.TheFolds.{fold-roll-Value}
use Rattle.scale_info_value_visit.specs.Events.{Event, truth, unsigned, signed, text, begin_record, end_record}
use Rattle.scale_info_value_visit.specs.Events.{begin_variant, end_variant, keys, all_named, list_events, integers_in, in_place}
use Rattle.scale_info_value_visit.specs.Events.{events_step, events_of, events_by, step_by, are_bytes, shared_in, item_types}
use Rattle.scale_info_value_visit.specs.Events.{fields_in, choice_in, known_fields, known_in, field_step, fields_step}
use Rattle.scale_info_value_visit.specs.Visits.{placed, bracketed, value_by, field_by}
use Rattle.scale_info_value_visit.proofs.Places.{in_place_map}

-- the event of a truth value
pub truth_events : (b : Bool) → events_of (Values.Bool b) ≡ truth b ∷ []
truth_events b = ap events_of (sym (rolls-Bool b)) ∙ fold-roll-Value (List Event) events_step (layer.Bool b)

-- that of an integer of an unsigned type
pub unsigned_events : (n : ℕ) → events_of (Values.Unsigned n) ≡ unsigned n ∷ []
unsigned_events n = ap events_of (sym (rolls-Unsigned n)) ∙ fold-roll-Value (List Event) events_step (layer.Unsigned n)

-- that of an integer of a signed type
pub signed_events : (n : _) → events_of (Values.Signed n) ≡ signed n ∷ []
signed_events n = ap events_of (sym (rolls-Signed n)) ∙ fold-roll-Value (List Event) events_step (layer.Signed n)

-- that of a text
pub text_events : (t : Text) → events_of (Values.Text t) ≡ text t ∷ []
text_events t = ap events_of (sym (rolls-Text t)) ∙ fold-roll-Value (List Event) events_step (layer.Text t)

-- a value without parts is shown alike, whatever is known of its type
abbrev pub HasNoParts : Value → Type 0
HasNoParts value = (table : PortableRegistry) (type : Option TypeDef) → events_by table type value ≡ events_of value

module _ (table : PortableRegistry) (type : Option TypeDef) where
  -- a truth value
  truth_by : (b : Bool) → events_by table type (Values.Bool b) ≡ truth b ∷ []
  truth_by b =
      ap (events_by table type) (sym (rolls-Bool b))
      ∙ ap (λ h. h type) (fold-roll-Value (Option TypeDef → List Event) (step_by table) (layer.Bool b))

  -- an integer of an unsigned type
  pub unsigned_by : (n : ℕ) → events_by table type (Values.Unsigned n) ≡ unsigned n ∷ []
  unsigned_by n =
      ap (events_by table type) (sym (rolls-Unsigned n))
      ∙ ap (λ h. h type) (fold-roll-Value (Option TypeDef → List Event) (step_by table) (layer.Unsigned n))

  -- an integer of a signed type
  signed_by : (n : _) → events_by table type (Values.Signed n) ≡ signed n ∷ []
  signed_by n =
      ap (events_by table type) (sym (rolls-Signed n))
      ∙ ap (λ h. h type) (fold-roll-Value (Option TypeDef → List Event) (step_by table) (layer.Signed n))

  -- a text
  text_by : (t : Text) → events_by table type (Values.Text t) ≡ text t ∷ []
  text_by t =
      ap (events_by table type) (sym (rolls-Text t))
      ∙ ap (λ h. h type) (fold-roll-Value (Option TypeDef → List Event) (step_by table) (layer.Text t))

  -- a list
  pub list_typed :
      (vs : List Value)
      → events_by table type (Values.List vs)
      ≡ list_events (are_bytes table type) (in_place (value_by table) vs (item_types table type (length vs)))
  list_typed vs =
      let items : List (Option TypeDef → List Event) = map (value_by table) vs in
      ap (events_by table type) (sym (rolls-List vs))
      ∙ ap (λ h. h type) (fold-roll-Value (Option TypeDef → List Event) (step_by table) (layer.List vs))
      ∙ ap (λ n. list_events (are_bytes table type) (in_place (λ e t. e t) items (item_types table type n))) (length-map vs (value_by table))
      ∙ ap (list_events (are_bytes table type))
      (in_place_map (λ e t. e t) (value_by table) vs (item_types table type (length vs)))

  -- fields with the events of their values
  abbrev parts : List (Option Text × Value) → List (Option Text × (Option TypeDef → List Event))
  parts fs = map (λ f. (f.0, value_by table f.1)) fs

  -- they keep their names
  parts_keys : (fs : List (Option Text × Value)) → keys (parts fs) ≡ keys fs
  parts_keys [] = refl
  parts_keys (f ∷ fs) = ap (λ ns. f.0 ∷ ns) (parts_keys fs)

  -- they are shown as the table has them
  fields_typed :
      (first last : List (Option Text) → Event) (fs : List (Option Text × Value)) (known : List (Option Field))
      → bracketed (first (keys (parts fs))) (λ ps. fields_step table ps known) (last (keys (parts fs))) (parts fs)
      ≡ bracketed (first (keys fs)) (placed (field_by table (all_named (keys fs))) known) (last (keys fs)) fs
  fields_typed first last fs known =
      ap (λ ns. first ns ∷ flat_map (λ e. e) (in_place (field_step table (all_named ns)) (parts fs) known) ++ last ns ∷ [])
      (parts_keys fs)
      ∙ ap (λ es. first (keys fs) ∷ flat_map (λ e. e) es ++ last (keys fs) ∷ [])
      (in_place_map (field_step table (all_named (keys fs))) (λ f. (f.0, value_by table f.1)) fs known)

  -- a record
  pub record_typed :
      (fs : List (Option Text × Value))
      → events_by table type (Values.Record fs)
      ≡ bracketed (begin_record (keys fs) (fields_in type))
      (placed (field_by table (all_named (keys fs))) (known_fields (fields_in type))) (end_record (keys fs) (fields_in type)) fs
  record_typed fs =
      ap (events_by table type) (sym (rolls-Record fs))
      ∙ ap (λ h. h type) (fold-roll-Value (Option TypeDef → List Event) (step_by table) (layer.Record fs))
      ∙ fields_typed (λ ns. begin_record ns (fields_in type)) (λ ns. end_record ns (fields_in type)) fs
      (known_fields (fields_in type))

  -- a variant
  pub variant_typed :
      (name : Text) (index : ℕ) (fs : List (Option Text × Value))
      → events_by table type (Values.Variant name index fs)
      ≡ bracketed (begin_variant name index (keys fs) (shared_in type name) (choice_in type index))
      (placed (field_by table (all_named (keys fs))) (known_in (choice_in type index)))
      (end_variant name index (keys fs) (shared_in type name) (choice_in type index)) fs
  variant_typed name index fs =
      let shared = shared_in type name in
      let choice = choice_in type index in
      ap (events_by table type) (sym (rolls-Variant name index fs))
      ∙ ap (λ h. h type) (fold-roll-Value (Option TypeDef → List Event) (step_by table) (layer.Variant name index fs))
      ∙ fields_typed (λ ns. begin_variant name index ns shared choice) (λ ns. end_variant name index ns shared choice) fs
      (known_in choice)

-- a truth value has no parts
pub truth_alone : (b : Bool) → HasNoParts (Values.Bool b)
truth_alone b table type = truth_by table type b ∙ sym (truth_events b)

-- nor has an integer of an unsigned type
pub unsigned_alone : (n : ℕ) → HasNoParts (Values.Unsigned n)
unsigned_alone n table type = unsigned_by table type n ∙ sym (unsigned_events n)

-- nor has one of a signed type
pub signed_alone : (n : _) → HasNoParts (Values.Signed n)
signed_alone n table type = signed_by table type n ∙ sym (signed_events n)

-- nor has a text
pub text_alone : (t : Text) → HasNoParts (Values.Text t)
text_alone t table type = text_by table type t ∙ sym (text_events t)

-- integers of an unsigned type, each shown alone
pub integers_alone :
    (table : PortableRegistry) (all : List ℕ) (types : List (Option TypeDef))
    → in_place (value_by table) (map Values.Unsigned all) types ≡ map (λ n. unsigned n ∷ []) all
integers_alone table [] types = refl
integers_alone table (n ∷ all) [] = λ i. unsigned_by table None n i ∷ integers_alone table all [] i
integers_alone table (n ∷ all) (t ∷ types) = λ i. unsigned_by table t n i ∷ integers_alone table all types i

-- they are all integers
pub integers_joined : (all : List ℕ) → integers_in (map (λ n. unsigned n ∷ []) all) ≡ Some all
integers_joined [] = refl
integers_joined (n ∷ all) = ap (λ o. option_map (λ ns. n ∷ ns) o) (integers_joined all)
