-- What is taken from trees has an encoding.
use Rattle.std.proofs.Common.{◌≡◌, ℕ, zero, suc, ◌+◌, ◌*◌, ◌-◌, ◌<◌, ◌≤◌, ◌^◌, ◌==◌, ◌&&◌, Bool, true, false, List, [], ◌∷◌, ◌++◌, map, length, replicate, find}
use Rattle.std.proofs.Common.{Option, Some, None, option_map, refl, ap, sym, ◌∙◌, subst, arith}
use Rattle.std.proofs.lemmas.Bool.{and_parts, lt-ltb, ltb-true, eqb-true}
use Rattle.std.proofs.lemmas.Slice.Eq.{bytes_eq-Decides}
use Rattle.std.specs.Int.{Width, w8, w16, w32, w64, w128, byte_len, to_le_bytes, cast_unsigned}
use Rattle.std.specs.Option.{option_eq}
use Rattle.std.specs.Prelude.{ℤ, pos, negsuc, if◌then◌else◌, nat_lt}
use Rattle.std.specs.Str.{is_utf8, bytes_eq}
use Rattle.serde_json.specs.Data.{Data}
use Rattle.serde_json.specs.Find.{as_bool}
use Rattle.scale_info_types.specs.Portable.{Id, Text, Field, Variant, TypeDef, Description}
use Rattle.scale_info_types.specs.declared.ty.fields.Field.{Field as AnyField}
use Rattle.scale_info_types.specs.declared.ty.TypeDef.TheVariants as def
use Rattle.scale_info_types.specs.Shapes.{map_definition, map_field, map_variant}
use Rattle.scale_info_primitives.specs.declared.primitive.TypeDefPrimitive.{TypeDefPrimitive}
use Rattle.scale_info_primitives.specs.declared.primitive.TypeDefPrimitive.TheVariants as kind
use Rattle.scale_info_table.specs.declared.portable.PortableRegistry.{PortableRegistry}
use Rattle.scale_info_value.specs.declared.value.Value.{Value}
use Rattle.scale_info_value.specs.declared.value.Value.TheOpen.{Value-F}
use Rattle.scale_info_value.specs.declared.value.Value.TheVariants as Values
use Rattle.scale_info_value.specs.Outcomes.{decoded}
use Rattle.scale_info_value.specs.Readings.{type_at, reading}
use Rattle.scale_info_value_encode.specs.Writers as writing
use Rattle.scale_info_value_encode.specs.declared.path.Step.{Step}
use Rattle.scale_info_value_encode.specs.declared.path.Step.TheVariants as step
use Rattle.scale_info_value_encode.specs.Writers.{Written, Writer, written, refused, if_fits, followed_by, of_part, step_to, item}
use Rattle.scale_info_value_encode.specs.IntegerWriters.{count, compact_bytes, is_signed_of}
use Rattle.scale_info_value_encode.specs.DefinitionWriters as writers
use Rattle.scale_info_value_encode.specs.DefinitionWriters.{Writers, held, if_found as if_held, list_in as list_held, record_in, unsigned_in, signed_in, truth_in, text_in, variant_in as variant_held}
use Rattle.scale_info_value_encode.specs.Writings as written_values
use Rattle.scale_info_value_encode.proofs.Levels.{read_back}
use Rattle.scale_info_value_encode.proofs.ValueKinds.{IsKind, lists, records, truths, texts, unsigned_integers, signed_integers, variants, chosen as made_variant}
use Rattle.scale_info_value_visit.specs.Events.{definition_at, is_byte}
use Rattle.scale_info_value_json.specs.Takers.{Taken, Taker, taken, refused as not_taken, mismatch, taken_map, if_found, all_taken, in_turn, too_deep}
use Rattle.scale_info_value_json.specs.DefinitionTakers as takers
use Rattle.scale_info_value_json.specs.DefinitionTakers.{Takers, each, counted, has_count, named_field, object_fields, variant_of, variant_fields}
use Rattle.scale_info_value_json.specs.TreeParts.{natural_in, integer_in, below, within, is_within, items_in, list_in, has_members, member_in, is_object_of, text_in as text_of_tree, variant_in, is_nothing}
use Rattle.scale_info_value_json.specs.Takings.{taking, value_within, compact_within, value_by_type}
use Rattle.scale_info_value_json.specs.Takings.{compact_by_type}
use Rattle.scale_info_value_json.proofs.SoFar.{then_more}
use Rattle.scale_info_value_json.proofs.ShownVariants.{first_with_index}

-- the value has some bytes
pub record HasBytes (outcome : Written) : Type 0 where
  pub bytes : List ℕ
  pub is : outcome ≡ written bytes

-- what is taken is written
abbrev pub IsWrittenAs : {A : Type 0} → (A → Written) → Taken A → Type 0
IsWrittenAs {A} write outcome = (value : A) → outcome ≡ taken value → HasBytes (write value)

-- what is taken of any tree is written
abbrev pub AreWritten : {A : Type 0} → Taker A → Writer A → Type 0
AreWritten take write = (tree : Data) → IsWrittenAs write (take tree)

-- nothing is taken
none_taken : {A : Type 0} (why : _) (write : Writer A) → IsWrittenAs write (not_taken why)
none_taken why write value e = cc

-- what was found
found_parts :
    {A B : Type 0} (o : Option A) (next : A → Taken B) (value : B) → if_found o next ≡ taken value
    → (x : A) × (o ≡ Some x) × (next x ≡ taken value)
found_parts None next value e = cc
found_parts (Some x) next value e = (x, refl, e)

-- what a function was applied to
mapped_parts :
    {A B : Type 0} (f : A → B) (o : Taken A) (value : B) → taken_map f o ≡ taken value
    → (x : A) × (o ≡ taken x) × (f x ≡ value)
mapped_parts f (taken x) value e = let same : f x ≡ value = cc in (x, refl, same)
mapped_parts f (not_taken why) value e = cc

-- what a test lets through
tested : {A : Type 0} (t : Bool) (o : Taken A) (value : A) → (if t then o else not_taken mismatch) ≡ taken value → (t ≡ true) × (o ≡ taken value)
tested true o value e = (refl, e)
tested false o value e = cc

-- one value and others
both_parts :
    {A : Type 0} (o : Taken A) (more : Taken (List A)) (values : List A) → then_more o more ≡ taken values
    → (v : A) × (vs : List A) × (o ≡ taken v) × (more ≡ taken vs) × (v ∷ vs ≡ values)
both_parts (taken v) more values e = let p = mapped_parts (λ vs. v ∷ vs) more values e in (v, p.0, refl, p.1, p.2)
both_parts (not_taken why) more values e = cc

-- what fits is written
fits : (test : Bool) (bytes : List ℕ) → test ≡ true → HasBytes (if_fits test bytes)
fits true bytes e = record { bytes = bytes; is = refl }
fits false bytes e = cc

-- two values, one after the other, are written
follow : (first second : Written) → HasBytes first → HasBytes second → HasBytes (followed_by first second)
follow first second a b =
    record {
      bytes = a.bytes ++ b.bytes;
      is = (λ i. followed_by (a.is i) (b.is i));
    }

-- a part is written as it is by itself
part_has : (s : Step) (w : Written) → HasBytes w → HasBytes (of_part s w)
part_has s w h = record { bytes = h.bytes; is = ap (of_part s) h.is }

-- items are written at each place
items_written : {A : Type 0} (take : Taker A) (write : Writer A) → AreWritten take write → (place : ℕ) → AreWritten take (item write place)
items_written take write one place tree value e = part_has (step.Index place) (write value) (one tree value e)

-- a value of a kind is written by what it holds
hold :
    {A : Type 0} (make : A → Value) (kind : Value-F Value → Option A) (write : Writer A) → IsKind make kind → (value : Value) (x : A)
    → make x ≡ value → HasBytes (write x) → HasBytes (held kind write value)
hold make kind write k value x e h =
    record { bytes = h.bytes; is = ap (held kind write) (sym e) ∙ ap (if_held write) (k.found x) ∙ h.is }

-- ---- primitives

-- an integer below a limit
below_parts : (limit : ℕ) (o : Option ℕ) (n : ℕ) → below limit o ≡ Some n → n < limit
below_parts limit None n e = cc
below_parts limit (Some m) n e = by_test (nat_lt m limit) refl e
  where
    by_test : (t : Bool) → nat_lt m limit ≡ t → (if t then Some m else None) ≡ Some n → n < limit
    by_test true f g = let same : m ≡ n = cc in subst (λ k. k < limit) same (ltb-true m limit f)
    by_test false f g = cc

-- an integer within a limit
within_parts : (limit : ℕ) (o : Option ℤ) (z : ℤ) → within limit o ≡ Some z → is_within limit z ≡ true
within_parts limit None z e = cc
within_parts limit (Some y) z e = by_test (is_within limit y) refl e
  where
    by_test : (t : Bool) → is_within limit y ≡ t → (if t then Some y else None) ≡ Some z → is_within limit z ≡ true
    by_test true f g = let same : y ≡ z = cc in ap (is_within limit) (sym same) ∙ f
    by_test false f g = cc

-- integers of an unsigned type are written
unsigned_written :
    (limit : ℕ) (write : Writer ℕ) → ((n : ℕ) → n < limit → HasBytes (write n))
    → AreWritten (takers.unsigned limit) (held unsigned_in write)
unsigned_written limit write fits tree value e =
    let p = found_parts (below limit (natural_in tree)) (λ n. taken (Values.Unsigned n)) value e in
    let same : Values.Unsigned p.0 ≡ value = cc in
    hold Values.Unsigned unsigned_in write unsigned_integers value p.0 same (fits p.0 (below_parts limit (natural_in tree) p.0 p.1))

-- integers of a signed type are written
signed_written :
    (limit : ℕ) (write : Writer ℤ) → ((z : ℤ) → is_within limit z ≡ true → HasBytes (write z))
    → AreWritten (takers.signed limit) (held signed_in write)
signed_written limit write fits tree value e =
    let p = found_parts (within limit (integer_in tree)) (λ z. taken (Values.Signed z)) value e in
    let same : Values.Signed p.0 ≡ value = cc in
    hold Values.Signed signed_in write signed_integers value p.0 same (fits p.0 (within_parts limit (integer_in tree) p.0 p.1))

-- truth values are written
truth_written : AreWritten takers.truth (held truth_in writers.truth)
truth_written tree value e =
    let p = found_parts (as_bool tree) (λ b. taken (Values.Bool b)) value e in
    let same : Values.Bool p.0 ≡ value = cc in
    hold Values.Bool truth_in writers.truth truths value p.0 same (by_truth p.0)
  where
    by_truth : (b : Bool) → HasBytes (writers.truth b)
    by_truth true = record { bytes = 1 ∷ []; is = refl }
    by_truth false = record { bytes = 0 ∷ []; is = refl }

-- texts are written
text_written : AreWritten takers.text (held text_in writers.text)
text_written tree value e =
    let p = found_parts (text_of_tree tree) takers.text_of value e in
    let q = tested (nat_lt (length p.0) (2 ^ 32) && is_utf8 p.0) (taken (Values.Text p.0)) value p.2 in
    let r = and_parts (nat_lt (length p.0) (2 ^ 32)) (is_utf8 p.0) q.0 in
    let same : Values.Text p.0 ≡ value = let h = q.1 in cc in
    hold Values.Text text_in writers.text texts value p.0 same
    (follow (count (length p.0)) (if_fits (is_utf8 p.0) p.0) (fits (nat_lt (length p.0) (2 ^ 32)) (compact_bytes (length p.0)) r.0)
    (fits (is_utf8 p.0) p.0 r.1))

-- an integer below the limit of a width fits it
width_written : (w : Width) (limit : ℕ) → limit ≤ 256 ^ byte_len w → (n : ℕ) → n < limit → HasBytes (writers.unsigned w n)
width_written w limit most n h = fits (nat_lt n (256 ^ byte_len w)) (to_le_bytes w n) (lt-ltb n (256 ^ byte_len w) (omega arith))

-- one within half the limit of a width fits it
half_written :
    (w : Width) (half : ℕ) → 2 * half ≤ 256 ^ byte_len w → (z : ℤ) → is_within half z ≡ true → HasBytes (writers.signed w z)
half_written w half most (pos n) e =
    let less = ltb-true n half e in
    fits (is_signed_of w (pos n)) (to_le_bytes w (cast_unsigned w (pos n))) (lt-ltb (2 * n) (256 ^ byte_len w) (omega arith))
half_written w half most (negsuc n) e =
    let less = ltb-true n half e in
    fits (is_signed_of w (negsuc n)) (to_le_bytes w (cast_unsigned w (negsuc n))) (lt-ltb (2 * n) (256 ^ byte_len w) (omega arith))

-- values of each primitive are written
primitives_written : (p : TypeDefPrimitive) → AreWritten (takers.primitive p) (writers.primitive p)
primitives_written kind.Bool = truth_written
primitives_written kind.Str = text_written
primitives_written kind.U8 = unsigned_written (2 ^ 8) (writers.unsigned w8) (width_written w8 (2 ^ 8) (omega arith))
primitives_written kind.U16 = unsigned_written (2 ^ 16) (writers.unsigned w16) (width_written w16 (2 ^ 16) (omega arith))
primitives_written kind.U32 = unsigned_written (2 ^ 32) (writers.unsigned w32) (width_written w32 (2 ^ 32) (omega arith))
primitives_written kind.U64 = unsigned_written (2 ^ 64) (writers.unsigned w64) (width_written w64 (2 ^ 64) (omega arith))
primitives_written kind.U128 = unsigned_written (2 ^ 128) (writers.unsigned w128) (width_written w128 (2 ^ 128) (omega arith))
primitives_written kind.I8 = signed_written (2 ^ 7) (writers.signed w8) (half_written w8 (2 ^ 7) (omega arith))
primitives_written kind.I16 = signed_written (2 ^ 15) (writers.signed w16) (half_written w16 (2 ^ 15) (omega arith))
primitives_written kind.I32 = signed_written (2 ^ 31) (writers.signed w32) (half_written w32 (2 ^ 31) (omega arith))
primitives_written kind.I64 = signed_written (2 ^ 63) (writers.signed w64) (half_written w64 (2 ^ 63) (omega arith))
primitives_written kind.I128 = signed_written (2 ^ 127) (writers.signed w128) (half_written w128 (2 ^ 127) (omega arith))
primitives_written _ = λ tree value e. cc

-- a compact integer below a limit is written
compact_written : (limit n : ℕ) → n < limit → HasBytes (if_fits (nat_lt n limit) (compact_bytes n))
compact_written limit n h = fits (nat_lt n limit) (compact_bytes n) (lt-ltb n limit h)

-- compact integers of each primitive are written
compact_primitives_written : (p : TypeDefPrimitive) → AreWritten (takers.compact_primitive p) (writers.compact_primitive p)
compact_primitives_written kind.U8 = unsigned_written (2 ^ 8) _ (compact_written (2 ^ 8))
compact_primitives_written kind.U16 = unsigned_written (2 ^ 16) _ (compact_written (2 ^ 16))
compact_primitives_written kind.U32 = unsigned_written (2 ^ 32) _ (compact_written (2 ^ 32))
compact_primitives_written kind.U64 = unsigned_written (2 ^ 64) _ (compact_written (2 ^ 64))
compact_primitives_written kind.U128 = unsigned_written (2 ^ 128) _ (compact_written (2 ^ 128))
compact_primitives_written _ = λ tree value e. cc

-- ---- lists

-- what is taken in turn is written in turn
one_written :
    {A : Type 0} (place : ℕ) (first : Taker A) (write : ℕ → Writer A) (more : List (Taker A)) (writes : List (ℕ → Writer A))
    → AreWritten first (write place)
    → ((trees : List Data) → IsWrittenAs (writing.in_turn (place + 1) writes) (in_turn more trees))
    → (trees : List Data) → IsWrittenAs (writing.in_turn place (write ∷ writes)) (in_turn (first ∷ more) trees)
one_written place first write more writes one others [] values e = cc
one_written place first write more writes one others (tree ∷ trees) values e =
    let p = both_parts (first tree) (in_turn more trees) values e in
    subst (λ vs. HasBytes (writing.in_turn place (write ∷ writes) vs)) p.4
    (follow (write place p.0) (writing.in_turn (place + 1) writes p.1) (one tree p.0 p.2) (others trees p.1 p.3))

-- nothing in turn
no_more_written :
    {A : Type 0} (place : ℕ) (trees : List Data) → IsWrittenAs {A = List A} (writing.in_turn place []) (in_turn [] trees)
no_more_written place [] values e =
    let none : [] ≡ values = cc in record { bytes = []; is = ap (writing.in_turn place []) (sym none) }
no_more_written place (tree ∷ trees) values e = cc

-- what is taken of each tree is written, and there are as many
each_written :
    (place : ℕ) (take : Taker Value) (write : ℕ → Writer Value) → ((k : ℕ) → AreWritten take (write k))
    → (trees : List Data) (values : List Value) → each take trees ≡ taken values
    → HasBytes (writing.in_turn place (replicate (length values) write) values) × (length trees ≡ length values)
each_written place take write one [] values e =
    let none : [] ≡ values = cc in
    subst (λ vs. HasBytes (writing.in_turn place (replicate (length vs) write) vs) × (0 ≡ length vs)) none
    (record { bytes = []; is = refl }, refl)
each_written place take write one (tree ∷ trees) values e =
    let p = both_parts (take tree) (each take trees) values e in
    let rest = each_written (place + 1) take write one trees p.1 p.3 in
    subst (λ vs. HasBytes (writing.in_turn place (replicate (length vs) write) vs) × (suc (length trees) ≡ length vs)) p.4 (
      follow (write place p.0) (writing.in_turn (place + 1) (replicate (length p.1) write) p.1) (one place tree p.0 p.2) rest.0,
      ap suc rest.1,
    )

-- a counted list is written
counted_written :
    (take : Taker Value) (write : Writer Value) → AreWritten take write → (o : Option (List Data)) (value : Value)
    → taken_map Values.List (if_found o (counted has_count take)) ≡ taken value
    → HasBytes (held list_held (writers.counted (λ n values. writing.in_turn 0 (replicate n (item write)) values)) value)
counted_written take write one o value e =
    let p = mapped_parts Values.List (if_found o (counted has_count take)) value e in
    let q = found_parts o (counted has_count take) p.0 p.1 in
    let r = tested (has_count (length q.0)) (each take q.0) p.0 q.2 in
    let s = each_written 0 take (item write) (items_written take write one) q.0 p.0 r.1 in
    hold Values.List list_held (writers.counted (λ n values. writing.in_turn 0 (replicate n (item write)) values)) lists value
    p.0 p.2
    (follow (count (length p.0)) (writing.in_turn 0 (replicate (length p.0) (item write)) p.0)
    (fits (nat_lt (length p.0) (2 ^ 32)) (compact_bytes (length p.0)) (ap has_count (sym s.1) ∙ r.0)) s.0)

-- ---- parts

-- what a reference stands for where values are taken, and where they are written
pub record PartIsWritten (takers_of : Takers) (writers_of : Writers) : Type 0 where
  pub value : AreWritten takers_of.value writers_of.value
  pub inner : AreWritten takers_of.inner writers_of.inner
  pub compact : AreWritten takers_of.compact writers_of.compact

-- a name that is read as it is
same_name : (name : Option Text) → option_eq bytes_eq name name ≡ true
same_name None = refl
same_name (Some t) = (bytes_eq-Decides t t).1 refl

module _ (takers_of : Id → Takers) (writers_of : Id → Writers) (part : (r : Id) → PartIsWritten (takers_of r) (writers_of r)) where
  -- a field whose type stands for its takers
  abbrev taken_field : Field → AnyField (Unit {0}) Takers Text
  taken_field f = map_field takers_of (λ t. t) f

  -- a field whose type stands for its writers
  abbrev written_field : Field → AnyField (Unit {0}) Writers Text
  written_field f = map_field writers_of (λ t. t) f

  -- a field is written under its name, at each place
  field_written :
      (f : Field) (place : ℕ) → AreWritten (takers.field (taken_field f)) (writers.field (written_field f) place)
  field_written f place tree named e =
      let name = option_map (λ (t : Text). t) f.name in
      let p = mapped_parts (λ (v : Value). (name, v)) ((takers_of f.ty).value tree) named e in
      let h = part_has (step_to place name) ((writers_of f.ty).value p.0) ((part f.ty).value tree p.0 p.1) in
      record {
        bytes = h.bytes;
        is =
            ap (writers.field (written_field f) place) (sym p.2)
            ∙ ap (λ (t : Bool). of_part (step_to place name) (if t then (writers_of f.ty).value p.0 else refused writing.mismatch))
            (same_name name)
            ∙ h.is;
      }

  -- the fields from this place on
  abbrev written_from : ℕ → List Field → Writer (List (Option Text × Value))
  written_from place all values = writing.in_turn place (map writers.field (map written_field all)) values

  -- fields from an array are written
  array_written :
      (place : ℕ) (all : List Field) (trees : List Data)
      → IsWrittenAs (written_from place all) (in_turn (map takers.field (map taken_field all)) trees)
  array_written place [] = no_more_written place
  array_written place (f ∷ all) =
      one_written place (takers.field (taken_field f)) (writers.field (written_field f))
      (map takers.field (map taken_field all)) (map writers.field (map written_field all)) (field_written f place)
      (array_written (place + 1) all)

  -- fields from an object are written
  members_written :
      (place : ℕ) (all : List Field) (tree : Data)
      → IsWrittenAs (written_from place all) (all_taken (map (named_field tree) (map taken_field all)))
  members_written place [] tree values e =
      let none : [] ≡ values = cc in record { bytes = []; is = ap (writing.in_turn place []) (sym none) }
  members_written place (f ∷ all) tree values e =
      let p = both_parts (named_field tree (taken_field f)) (all_taken (map (named_field tree) (map taken_field all))) values e in
      let q = found_parts (member_in (option_map (λ t. t) f.name) tree) (takers.field (taken_field f)) p.0 p.2 in
      subst (λ vs. HasBytes (written_from place (f ∷ all) vs)) p.4
      (follow (writers.field (written_field f) place p.0) (written_from (place + 1) all p.1)
      (field_written f place q.0 p.0 q.2) (members_written (place + 1) all tree p.1 p.3))

  -- fields are written
  fields_written :
      (all : List Field) → AreWritten (takers.fields (map taken_field all)) (writers.fields (map written_field all))
  fields_written all tree values e = by_names (is_object_of (map (λ f. f.name) (map taken_field all))) e
    where
      by_names :
          (t : Bool)
          → (if t then object_fields (map taken_field all) tree
          else if_found (items_in tree) (in_turn (map takers.field (map taken_field all)))) ≡ taken values
          → HasBytes (writers.fields (map written_field all) values)
      by_names true h =
          members_written 0 all tree values
          (tested (has_members (length (map taken_field all)) tree) (all_taken (map (named_field tree) (map taken_field all))) values h).1
      by_names false h =
          let p = found_parts (items_in tree) (in_turn (map takers.field (map taken_field all))) values h in
          array_written 0 all p.0 values p.2

  -- items of each type in order are written
  members_in_turn :
      (place : ℕ) (types : List Id) (trees : List Data)
      → IsWrittenAs (writing.in_turn place (map (λ p. item p.value) (map writers_of types)))
      (in_turn (map (λ p. p.value) (map takers_of types)) trees)
  members_in_turn place [] = no_more_written place
  members_in_turn place (r ∷ types) =
      one_written place (takers_of r).value (item (writers_of r).value) (map (λ p. p.value) (map takers_of types))
      (map (λ p. item p.value) (map writers_of types))
      (items_written (takers_of r).value (writers_of r).value (part r).value place) (members_in_turn (place + 1) types)

  -- a list of items in an array is written
  listed_written :
      (take : List Data → Taken (List Value)) (write : Writer (List Value)) → ((trees : List Data) → IsWrittenAs write (take trees))
      → AreWritten (λ tree. taken_map Values.List (if_found (items_in tree) take)) (held list_held write)
  listed_written take write all tree value e =
      let p = mapped_parts Values.List (if_found (items_in tree) take) value e in
      let q = found_parts (items_in tree) take p.0 p.1 in
      hold Values.List list_held write lists value p.0 p.2 (all q.0 p.0 q.2)

  -- a key and a value are written
  pair_written : (key value : Id) → AreWritten (takers.pair (takers_of key) (takers_of value)) (writers.pair (writers_of key) (writers_of value))
  pair_written key value =
      listed_written (in_turn ((takers_of key).inner ∷ (takers_of value).inner ∷ []))
      (writing.in_turn 0 (item (writers_of key).inner ∷ item (writers_of value).inner ∷ []))
      (one_written 0 (takers_of key).inner (item (writers_of key).inner) ((takers_of value).inner ∷ [])
      (item (writers_of value).inner ∷ []) (items_written (takers_of key).inner (writers_of key).inner (part key).inner 0)
      (one_written 1 (takers_of value).inner (item (writers_of value).inner) [] []
      (items_written (takers_of value).inner (writers_of value).inner (part value).inner 1) (no_more_written 2)))

  -- an array is written
  array_of_written :
      (r : Id) (len : ℕ) → AreWritten (takers.items (λ n. n == len) (takers_of r)) (held list_held (writers.items len (writers_of r)))
  array_of_written r len tree value e =
      let o = list_in (takers_of r).is_byte tree in
      let take = (takers_of r).value in
      let p = mapped_parts Values.List (if_found o (counted (λ n. n == len) take)) value e in
      let q = found_parts o (counted (λ n. n == len) take) p.0 p.1 in
      let t = tested (length q.0 == len) (each take q.0) p.0 q.2 in
      let write = (writers_of r).value in
      let s = each_written 0 take (item write) (items_written take write (part r).value) q.0 p.0 t.1 in
      let long : length p.0 ≡ len = sym s.1 ∙ eqb-true (length q.0) len t.0 in
      hold Values.List list_held (writers.items len (writers_of r)) lists value p.0 p.2
      (subst (λ n. HasBytes (writing.in_turn 0 (replicate n (item write)) p.0)) long s.0)

  -- fields of a variant are written
  variant_fields_written :
      (all : List Field) (content : Option Data)
      → IsWrittenAs (writers.fields (map written_field all)) (variant_fields (map taken_field all) content)
  variant_fields_written [] content values e =
      let p = tested (is_nothing content) (taken []) values e in
      let none : [] ≡ values = let h = p.1 in cc in
      record { bytes = []; is = ap (writing.in_turn 0 []) (sym none) }
  variant_fields_written (f ∷ all) content values e =
      let p = found_parts content (takers.fields (map taken_field (f ∷ all))) values e in
      fields_written (f ∷ all) p.0 values p.2

  -- a variant is written
  variant_written :
      (vs : List Variant)
      → AreWritten (takers.variant (map (map_variant {G = Unit {0}} takers_of (λ t. t)) vs))
      (held variant_held (writers.chosen_variant (map (map_variant {G = Unit {0}} writers_of (λ t. t)) vs)))
  variant_written vs tree value e =
      let ts = map (map_variant {G = Unit {0}} takers_of (λ t. t)) vs in
      let p =
      found_parts (variant_in tree) (λ n. if_found (takers.chosen ts n.0 n.1) (λ c.
      variant_of n.0 c.0 c.1 (find (λ v. v.index == c.0) ts))) value e in
      let q =
      found_parts (takers.chosen ts p.0.0 p.0.1) (λ c. variant_of p.0.0 c.0 c.1 (find (λ v. v.index == c.0) ts)) value p.2 in
      by_first p.0.0 q.0.0 q.0.1 (find (λ v. v.index == q.0.0) vs) refl
      (ap (variant_of p.0.0 q.0.0 q.0.1) (sym (first_with_index takers_of q.0.0 vs)) ∙ q.2)
    where
      by_first :
          (name : Text) (index : ℕ) (content : Option Data) (o : Option Variant) → find (λ v. v.index == index) vs ≡ o
          → variant_of name index content (option_map (map_variant {G = Unit {0}} takers_of (λ t. t)) o) ≡ taken value
          → HasBytes (held variant_held (writers.chosen_variant (map (map_variant {G = Unit {0}} writers_of (λ t. t)) vs)) value)
      by_first name index content None is h = cc
      by_first name index content (Some v) is h =
          let t =
          tested (bytes_eq v.name name)
          (taken_map (λ values. Values.Variant v.name index values) (variant_fields (map taken_field v.fields) content)) value h in
          let m = mapped_parts (λ values. Values.Variant v.name index values) (variant_fields (map taken_field v.fields) content) value t.1 in
          let w = variant_fields_written v.fields content m.0 m.1 in
          let fields_are : writers.fields_of (find (λ u. u.index == index) (map (map_variant {G = Unit {0}} writers_of (λ t. t)) vs)) v.name m.0
          ≡ written w.bytes =
          ap (λ o. writers.fields_of o v.name m.0)
          (first_with_index writers_of index vs ∙ ap (option_map (map_variant {G = Unit {0}} writers_of (λ t. t))) is)
          ∙ ap (λ (b : Bool). if b then writers.fields (map written_field v.fields) m.0 else refused writing.mismatch)
          ((bytes_eq-Decides v.name v.name).1 refl)
          ∙ w.is in
          hold made_variant variant_held (writers.chosen_variant (map (map_variant {G = Unit {0}} writers_of (λ t. t)) vs)) variants value
          (v.name, index, m.0) m.2
          (follow (written (index ∷ []))
          (writers.fields_of (find (λ u. u.index == index) (map (map_variant {G = Unit {0}} writers_of (λ t. t)) vs)) v.name m.0)
          (record { bytes = index ∷ []; is = refl }) (record { bytes = w.bytes; is = fields_are }))

  -- a value of each kind of definition is written
  values_written :
      (d : TypeDef)
      → AreWritten (takers.value_by (map_definition {G = Unit {0}} takers_of (λ t. t) d))
      (writers.value_by (map_definition {G = Unit {0}} writers_of (λ t. t) d))
  values_written (def.Composite d) tree value e =
      let p = mapped_parts Values.Record (takers.fields (map taken_field d.fields) tree) value e in
      hold Values.Record record_in (writers.fields (map written_field d.fields)) records value p.0 p.2
      (fields_written d.fields tree p.0 p.1)
  values_written (def.Variant d) tree value e = variant_written d.variants tree value e
  values_written (def.Sequence d) tree value e =
      let r = d.type_param in
      counted_written (takers_of r).value (writers_of r).value (part r).value (list_in (takers_of r).is_byte tree) value e
  values_written (def.Array d) tree value e = array_of_written d.type_param d.len tree value e
  values_written (def.Tuple d) tree value e =
      listed_written (in_turn (map (λ p. p.value) (map takers_of d.fields))) (writers.members (map writers_of d.fields))
      (members_in_turn 0 d.fields) tree value e
  values_written (def.Primitive p) tree value e = primitives_written p tree value e
  values_written (def.Compact d) tree value e = (part d.type_param).compact tree value e
  values_written (def.BitSequence d) tree value e = cc
  values_written (def.Map d) tree value e =
      counted_written (takers.pair (takers_of d.key) (takers_of d.value)) (writers.pair (writers_of d.key) (writers_of d.value))
      (pair_written d.key d.value) (items_in tree) value e

module _ (take : Id → Taker Value) (write : Id → Writer Value) (part : (r : Id) → AreWritten (take r) (write r)) where
  -- a compact integer of the only field is written
  only_field_written :
      (all : List Field)
      → AreWritten (takers.compact_field (map (map_field {G = Unit {0}} take (λ t. t)) all))
      (writers.compact_field (map (map_field {G = Unit {0}} write (λ t. t)) all))
  only_field_written [] = λ tree value e. cc
  only_field_written (f ∷ []) = part f.ty
  only_field_written (f ∷ g ∷ more) = λ tree value e. cc

  -- a compact integer of each kind of definition is written
  compacts_written :
      (d : TypeDef)
      → AreWritten (takers.compact_by (map_definition {G = Unit {0}} take (λ t. t) d))
      (writers.compact_by (map_definition {G = Unit {0}} write (λ t. t) d))
  compacts_written (def.Composite d) = only_field_written d.fields
  compacts_written (def.Primitive p) = compact_primitives_written p
  compacts_written _ = λ tree value e. cc

-- ---- levels

-- compact integers by a description are written
compact_type_written :
    (take : ℕ → Taker Value) (write : ℕ → Writer Value) → ((id : ℕ) → AreWritten (take id) (write id)) → (o : Option Description)
    → AreWritten (compact_by_type take o) (written_values.compact_by_type write o)
compact_type_written take write part None = λ tree value e. cc
compact_type_written take write part (Some d) =
    compacts_written (λ r. take r.id) (λ r. write r.id) (λ r. part r.id) d.type_def

-- what is taken is written, however many levels are left
abbrev AreWrittenWithin : (ℕ → PortableRegistry → ℕ → Taker Value) → (ℕ → PortableRegistry → ℕ → Writer Value) → Type 0
AreWrittenWithin take write =
    (left : ℕ) (table : PortableRegistry) (id : ℕ) → AreWritten (take left table id) (write left table id)

-- compact integers are written, however many levels are left
compact_level_written : AreWrittenWithin compact_within written_values.compact_within
unfolding compact_within written_values.compact_within
compact_level_written zero table id = λ tree value e. cc
compact_level_written (suc left) table id =
    compact_type_written (compact_within left table) (written_values.compact_within left table)
    (compact_level_written left table) (type_at table id)

-- the takers of these at an id
abbrev takers_at : PortableRegistry → (ℕ → Taker Value) → (ℕ → Taker Value) → (ℕ → Taker Value) → ℕ → Takers
takers_at table value inner compact r =
    record { value = value r; inner = inner r; compact = compact r; is_byte = is_byte (definition_at table r) }

-- the writers of these at an id
abbrev writers_at : (ℕ → Writer Value) → (ℕ → Writer Value) → (ℕ → Writer Value) → ℕ → Writers
writers_at value inner compact r = record { value = value r; inner = inner r; compact = compact r }

-- values by a description are written
type_written :
    (table : PortableRegistry) (take take_inner take_compact : ℕ → Taker Value)
    (write write_inner write_compact : ℕ → Writer Value)
    → ((id : ℕ) → AreWritten (take id) (write id)) → ((id : ℕ) → AreWritten (take_inner id) (write_inner id))
    → ((id : ℕ) → AreWritten (take_compact id) (write_compact id)) → (o : Option Description)
    → AreWritten (value_by_type (takers_at table take take_inner take_compact) o)
    (written_values.value_by_type (writers_at write write_inner write_compact) o)
type_written table take take_inner take_compact write write_inner write_compact value inner compact None = λ tree value e. cc
type_written table take take_inner take_compact write write_inner write_compact value inner compact (Some d) =
    values_written (λ r. takers_at table take take_inner take_compact r.id)
    (λ r. writers_at write write_inner write_compact r.id)
    (λ r. record { value = value r.id; inner = inner r.id; compact = compact r.id }) d.type_def

-- values are written, however many levels are left
level_written : AreWrittenWithin value_within written_values.value_within
unfolding value_within written_values.value_within
level_written zero table id = λ tree value e. cc
level_written (suc zero) table id =
    type_written table (λ r tree. not_taken too_deep) (λ r tree. not_taken too_deep) _
    (λ r value. refused writing.too_deep) (λ r value. refused writing.too_deep) _
    (λ r tree value e. cc) (λ r tree value e. cc) (compact_level_written 1 table) (type_at table id)
level_written (suc (suc left)) table id =
    type_written table _ _ _ _ _ _ (level_written (suc left) table) (level_written left table)
    (compact_level_written (suc (suc left)) table) (type_at table id)

-- a value that is taken has an encoding, which is read as that value
pub taken_is_encoded :
    (table : PortableRegistry) (id depth : ℕ) (tree : Data) (value : Value) → taking table id depth tree ≡ taken value
    → (bytes : List ℕ) × (written_values.writing table id depth value ≡ written bytes)
    × ((rest : List ℕ) → reading table id depth (bytes ++ rest) ≡ decoded value rest)
taken_is_encoded table id depth tree value e =
    let h = level_written (129 - depth) table id tree value e in
    (h.bytes, h.is, λ rest. read_back table id depth value h.bytes h.is rest)
