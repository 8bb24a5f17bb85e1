-- One level of a writing.
use Rattle.std.proofs.Common.{◌≡◌, ℕ, ◌-◌, ◌≤◌, ◌==◌, Bool, true, false, List, [], ◌∷◌, map, find}
use Rattle.std.proofs.Common.{length, take, drop, get_or, Option, Some, None, option_map, Result, refl, ap, sym, ◌∙◌, subst}
use Rattle.std.specs.Prelude.{if◌then◌else◌, IfErr, OnOk, OnErr}
use Rattle.std.specs.Option.{option_eq}
use Rattle.std.specs.Str.{bytes_eq}
use Rattle.scale_info_bytes.specs.Encodings.{IsPrefix}
use Rattle.scale_info_types.specs.Portable.{Id, Text, Field, Variant, TypeDefComposite}
use Rattle.scale_info_types.specs.Portable.{TypeDefTuple, TypeDefVariant}
use Rattle.scale_info_types.specs.Shapes.{map_field, map_variant}
use Rattle.scale_info_types.specs.declared.ty.variant.Variant.{Variant as AnyVariant}
use Rattle.scale_info_types.specs.declared.ty.TypeDef.TheVariants as def
use Rattle.scale_info_table.specs.declared.portable.PortableRegistry.{PortableRegistry}
use Rattle.scale_info_value.specs.declared.value.Value.{Value}
use Rattle.scale_info_value.specs.declared.value.Value.TheVariants as Values
use Rattle.scale_info_value_encode.specs.declared.failure.PartError.{PartError}
use Rattle.scale_info_value_encode.specs.declared.path.Step.{Step}
use Rattle.scale_info_value_encode.specs.declared.path.Step.TheVariants as step
use Rattle.scale_info_value_encode.specs.Failures.{Fails}
use Rattle.scale_info_value_encode.specs.Writers.{Writer, written, refused, mismatch, followed_by}
use Rattle.scale_info_value_encode.specs.Writers.{of_part, step_to, item, in_turn, Appends}
use Rattle.scale_info_value_encode.specs.IntegerWriters.{count}
use Rattle.scale_info_value_encode.specs.DefinitionWriters.{Writers, held, record_in, list_in, variant_in}
use Rattle.scale_info_value_encode.specs.DefinitionWriters.{counted, members, field, fields, fields_of, chosen_variant}
use Rattle.scale_info_value_encode.specs.Writings.{value_within, definition_within, fields_within, pair_within, part_within}
use Rattle.scale_info_value_encode.proofs.Appending.{is_held}
use Rattle.scale_info_value_encode.proofs.InTurn.{first_in_turn, last_in_turn}
use Rattle.scale_info_value_encode.proofs.NamedParts.{first_made}
use Rattle.scale_info_value_encode.proofs.SoFar.{SoFar, both, goes_on, starts, part_appended}
use Rattle.scale_info_value_encode.proofs.ValueKinds.{records, lists, variants, chosen}

-- what comes of a list that is written after its count, where the count was appended
pub counted_list :
    {X : Type 0} (write : ℕ → Writer (List Value)) (r : Result X PartError) (value : Value) (values found : List Value)
    (old mid new : List ℕ) → value ≡ Values.List values → found ≡ values → Appends (count (length found)) old mid
    → (steps : List Step) → OnOk r (Appends (write (length found) found) mid new)
    → IfErr r (Fails (write (length found) found) steps) → OnErr r (IsPrefix mid new)
    → OnOk r (Appends (held list_in (counted write) value) old new) × IfErr r (Fails (held list_in (counted write) value) steps)
    × OnErr r (IsPrefix old new)
counted_list write r value values found old mid new is e counts =
    both r (held list_in (counted write) value) (count (length found)) (write (length found) found) old mid new
    (is_held Values.List list_in (counted write) lists value values is ∙ ap (counted write) (sym e)) counts

module _ (left : ℕ) (table : PortableRegistry) where
  -- a record is written by its fields
  pub composite_is :
      (composite : TypeDefComposite) (value : Value) (values found : List (Option Text × Value)) (fs : List Field)
      → value ≡ Values.Record values → found ≡ values → fs ≡ composite.fields
      → definition_within left table (def.Composite composite) value ≡ fields_within left table fs found
  composite_is composite value values found fs is e f =
      is_held Values.Record record_in (fields_within left table composite.fields) records value values is
      ∙ (λ i. fields_within left table (sym f i) (sym e i))

  -- a list is written by the types of a tuple
  pub tuple_is :
      (tuple : TypeDefTuple) (value : Value) (values found : List Value) (types : List Id) → value ≡ Values.List values
      → found ≡ values → types ≡ tuple.fields
      → definition_within left table (def.Tuple tuple) value ≡ members (map (part_within left table) types) found
  tuple_is tuple value values found types is e f =
      is_held Values.List list_in (members (map (part_within left table) tuple.fields)) lists value values is
      ∙ (λ i. members (map (part_within left table) (sym f i)) (sym e i))

  -- the first of a key and a value, and the other
  pub pair_is :
      (key value : Id) (entry : Value) (inner : ℕ) (values found : List Value) (first : Value) → entry ≡ Values.List values
      → found ≡ values → inner ≡ left - 2 → 1 ≤ length found → first ≡ get_or found 0 first
      → pair_within left table key value entry
      ≡ followed_by (item (value_within inner table key.id) 0 first)
      (in_turn 1 (item (value_within inner table value.id) ∷ []) (drop 1 found))
  pair_is key value entry inner values found first is e levels long at =
      is_held Values.List list_in
      (in_turn 0 (item (value_within (left - 2) table key.id) ∷ item (value_within (left - 2) table value.id) ∷ []))
      lists entry values is
      ∙ (λ i. in_turn 0 (item (value_within (sym levels i) table key.id) ∷ item (value_within (sym levels i) table value.id) ∷ [])
      (sym e i))
      ∙ first_in_turn 0 (item (value_within inner table key.id)) (item (value_within inner table value.id) ∷ []) found first
      long at

  -- of a pair the second is left, where the first was appended
  pub second_of_pair :
      (key value : Id) (entry : Value) (inner : ℕ) (values found rest : List Value) (first second : Value) (old mid : List ℕ)
      → entry ≡ Values.List values → found ≡ values → inner ≡ left - 2 → 1 ≤ length found → first ≡ get_or found 0 first
      → rest ≡ take (length found - 1) (drop 1 found) → 1 ≤ length rest → second ≡ get_or rest 0 second
      → Appends (value_within inner table key.id first) old mid
      → SoFar (pair_within left table key value entry)
      (followed_by (item (value_within inner table value.id) 1 second) (in_turn 2 [] (drop 1 rest))) old mid
  second_of_pair key value entry inner values found rest first second old mid is e levels long at others more next a =
      subst (λ w. SoFar (pair_within left table key value entry) w old mid)
      (last_in_turn 1 (item (value_within inner table value.id)) found rest second others more next)
      (goes_on _ _ _ _ _ _ _ (starts _ _ _ _ refl refl)
      (pair_is key value entry inner values found first is e levels long at) (part_appended (step.Index 0) _ _ _ a))

  -- a name is itself
  own_name : (name : Option Text) → option_map (λ t. t) name ≡ name
  own_name None = refl
  own_name (Some t) = refl

  -- a field by the test of its name
  field_is :
      (f : Field) (place : ℕ) (named : Option Text × Value) (test : Bool) → option_eq bytes_eq f.name named.0 ≡ test
      → field (map_field {G = Unit {0}} (part_within left table) (λ t. t) f) place named
      ≡ of_part (step_to place named.0) (if test then value_within (left - 1) table f.ty.id named.1 else refused mismatch)
  field_is f place named test e =
      ap (λ o. of_part (step_to place named.0)
      (if option_eq bytes_eq o named.0 then value_within (left - 1) table f.ty.id named.1 else refused mismatch)) (own_name f.name)
      ∙ ap (λ t. of_part (step_to place named.0)
      (if t then value_within (left - 1) table f.ty.id named.1 else refused mismatch)) e

  -- a field under its name
  pub field_named :
      (f : Field) (place : ℕ) (named : Option Text × Value) → option_eq bytes_eq f.name named.0 ≡ true
      → field (map_field {G = Unit {0}} (part_within left table) (λ t. t) f) place named
      ≡ of_part (step_to place named.0) (value_within (left - 1) table f.ty.id named.1)
  field_named f place named e = field_is f place named true e

  -- a field under another name
  pub field_misnamed :
      (f : Field) (place : ℕ) (named : Option Text × Value) → option_eq bytes_eq f.name named.0 ≡ false
      → field (map_field {G = Unit {0}} (part_within left table) (λ t. t) f) place named
      ≡ of_part (step_to place named.0) (refused mismatch)
  field_misnamed f place named e = field_is f place named false e

  -- a variant whose types stand for their writers
  abbrev written_variant : Variant → AnyVariant (Unit {0}) Writers Text
  written_variant v = map_variant (part_within left table) (λ t. t) v

  -- a variant is written by its index and the fields of the first variant with that index
  variant_is :
      (choice : TypeDefVariant) (value : Value) (name : Text) (index : ℕ) (values : List (Option Text × Value))
      (o : Option Variant)
      → value ≡ Values.Variant name index values → find (λ v. v.index == index) choice.variants ≡ o
      → definition_within left table (def.Variant choice) value
      ≡ followed_by (written (index ∷ [])) (fields_of (option_map written_variant o) name values)
  variant_is choice value name index values o is e =
      is_held chosen variant_in (chosen_variant (map written_variant choice.variants)) variants value (name, index, values) is
      ∙ ap (λ p. followed_by (written (index ∷ [])) (fields_of p name values))
      (first_made written_variant (λ v. v.index == index) choice.variants ∙ ap (option_map written_variant) e)

  -- no variant has the index
  pub variant_missing :
      (choice : TypeDefVariant) (value : Value) (name : Text) (index : ℕ) (values : List (Option Text × Value))
      → value ≡ Values.Variant name index values → find (λ v. v.index == index) choice.variants ≡ None
      → definition_within left table (def.Variant choice) value ≡ refused mismatch
  variant_missing choice value name index values is e = variant_is choice value name index values None is e

  -- the variant with the index has another name
  pub variant_misnamed :
      (choice : TypeDefVariant) (value : Value) (name : Text) (index : ℕ) (values : List (Option Text × Value)) (v : Variant)
      → value ≡ Values.Variant name index values → find (λ v. v.index == index) choice.variants ≡ Some v
      → bytes_eq v.name name ≡ false
      → definition_within left table (def.Variant choice) value ≡ refused mismatch
  variant_misnamed choice value name index values v is e differs =
      variant_is choice value name index values (Some v) is e
      ∙ ap (λ t. followed_by (written (index ∷ []))
      (if t then fields (map (map_field {G = Unit {0}} (part_within left table) (λ t. t)) v.fields) values else refused mismatch)) differs

  -- the variant with the index has the name
  pub variant_named :
      (choice : TypeDefVariant) (value : Value) (name : Text) (index : ℕ) (values found : List (Option Text × Value))
      (v : Variant) (fs : List Field)
      → value ≡ Values.Variant name index values → find (λ v. v.index == index) choice.variants ≡ Some v
      → bytes_eq v.name name ≡ true → fs ≡ v.fields → found ≡ values
      → definition_within left table (def.Variant choice) value
      ≡ followed_by (written (index ∷ [])) (fields_within left table fs found)
  variant_named choice value name index values found v fs is e same f g =
      variant_is choice value name index values (Some v) is e
      ∙ ap (λ t. followed_by (written (index ∷ []))
      (if t then fields (map (map_field {G = Unit {0}} (part_within left table) (λ t. t)) v.fields) values else refused mismatch)) same
      ∙ (λ i. followed_by (written (index ∷ [])) (fields_within left table (sym f i) (sym g i)))
