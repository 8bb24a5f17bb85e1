-- Values of each kind of definition are taken back from the text.
use Rattle.std.proofs.Common.{◌≡◌, ℕ, ◌+◌, ◌*◌, ◌<◌, ◌≤◌, ◌^◌, ◌==◌, Bool, true, false, ◌&&◌, List, [], ◌∷◌, ◌++◌, map, length, replicate}
use Rattle.std.proofs.Common.{Option, Some, None, refl, ap, sym, ◌∙◌, subst, arith}
use Rattle.std.proofs.lemmas.Bool.{and_parts, lt-ltb, ltb-true, eq-eqb}
use Rattle.std.proofs.lemmas.Grind.{flat_map-append}
use Rattle.std.specs.Int.{Width, w8, w16, w32, w64, w128, byte_len, to_le_bytes, cast_unsigned}
use Rattle.std.specs.List.{flat_map, AllByRecursion}
use Rattle.std.specs.Prelude.{ℤ, pos, negsuc, if◌then◌else◌, nat_lt}
use Rattle.std.specs.Str.{is_utf8}
use Rattle.serde_json.specs.Data.{Data}
use Rattle.scale_info_bytes.specs.Encodings.{IsByte}
use Rattle.scale_info_types.specs.Portable.{Id, Field, TypeDef}
use Rattle.scale_info_types.specs.declared.ty.TypeDef.TheVariants as def
use Rattle.scale_info_types.specs.Shapes.{map_definition, map_field}
use Rattle.scale_info_primitives.specs.declared.primitive.TypeDefPrimitive.{TypeDefPrimitive}
use Rattle.scale_info_primitives.specs.declared.primitive.TypeDefPrimitive.TheVariants as kind
use Rattle.scale_info_table.specs.declared.portable.PortableRegistry.{PortableRegistry}
use Rattle.scale_info_value.specs.declared.value.Value.{Value}
use Rattle.scale_info_value.specs.declared.value.Value.TheOpen.{Value-F}
use Rattle.scale_info_value.specs.declared.value.Value.TheVariants as Values
use Rattle.scale_info_value_encode.specs.Writers as writing
use Rattle.scale_info_value_encode.specs.Writers.{Writer, written, if_fits, refused, item}
use Rattle.scale_info_value_encode.specs.IntegerWriters.{count, compact_bytes, is_signed_of}
use Rattle.scale_info_value_encode.specs.DefinitionWriters as writers
use Rattle.scale_info_value_encode.specs.DefinitionWriters.{Writers, held, list_in, record_in, unsigned_in, signed_in, truth_in, text_in}
use Rattle.scale_info_value_encode.proofs.Inverse.{as_many}
use Rattle.scale_info_value_encode.proofs.ValueKinds.{IsKind, lists, records, truths, texts, unsigned_integers, signed_integers}
use Rattle.scale_info_value_visit.specs.Events as event
use Rattle.scale_info_value_visit.specs.Events.{Event, definition_at, keys, all_named, begin_record, end_record, pair_of, list_events, in_place, events_of}
use Rattle.scale_info_value_visit.specs.Visits.{placed, field_by, value_by}
use Rattle.scale_info_value_visit.proofs.Events.{HasNoParts, list_typed, record_typed, truth_alone, unsigned_alone, signed_alone, text_alone}
use Rattle.scale_info_value_visit.proofs.Events.{truth_events, unsigned_events, signed_events, text_events}
use Rattle.scale_info_value_text.specs.ValueTexts.{event_tokens}
use Rattle.scale_info_value_json.specs.Takers.{Taken, Taker, taken, refused as not_taken, mismatch, taken_map, if_found, in_turn}
use Rattle.scale_info_value_json.specs.DefinitionTakers as takers
use Rattle.scale_info_value_json.specs.DefinitionTakers.{Takers, each, counted, items, members, has_count}
use Rattle.scale_info_value_json.specs.TreeParts.{below, within, is_within, listed, items_in}
use Rattle.scale_info_value_json.specs.TreesOfTexts.{has_own_names}
use Rattle.scale_info_value_json.proofs.Leaves.{natural_shown, integer_shown, string_shown, truth_shown}
use Rattle.scale_info_value_json.proofs.OwnNames.{all_own, list_own, record_own}
use Rattle.scale_info_value_json.proofs.Shown.{IsShown, AreShown, none_shown}
use Rattle.scale_info_value_json.proofs.ShownChoices.{variant_back}
use Rattle.scale_info_value_json.proofs.ShownFields.{fields_back}
use Rattle.scale_info_value_json.proofs.ShownLists.{placed_tokens, one_back, items_back, list_back, typed_list_back}
use Rattle.scale_info_value_json.proofs.ShownParts.{tokens_by, AreTakenBack, PartIsTakenBack, items_taken, nothing_back, held_parts, shown_map, parted_bytes}

-- ---- primitives

-- what fits was written
fitted : (test : Bool) (bytes b : List ℕ) → if_fits test bytes ≡ written b → test ≡ true
fitted true bytes b e = refl
fitted false bytes b e = cc

-- a value of a kind without parts, which is shown as one event, is taken back
alone_back :
    {A : Type 0} (make : A → Value) (kind_of : Value-F Value → Option A) (write : Writer A) (shown_as : A → Event) (take : Taker Value)
    → IsKind make kind_of → ((x : A) → HasNoParts (make x)) → ((x : A) → events_of (make x) ≡ shown_as x ∷ [])
    → ((x : A) (b : List ℕ) → write x ≡ written b → AllByRecursion IsByte b
    → IsShown (flat_map event_tokens (shown_as x ∷ [])) take (make x))
    → (table : PortableRegistry) (type : Option TypeDef) → AreTakenBack (held kind_of write) (tokens_by table type) take
alone_back make kind_of write shown_as take k alone events shown table type value bytes e all own =
    let x = held_parts make kind_of write k value bytes e in
    subst (λ v. IsShown (tokens_by table type v) take v) (sym x.1)
    (subst (λ ts. IsShown ts take (make x.0)) (sym (ap (flat_map event_tokens) (alone x.0 table type ∙ events x.0)))
    (shown x.0 bytes x.2 all))

-- an integer of an unsigned type is taken back
unsigned_back :
    (limit : ℕ) (write : Writer ℕ) → limit ≤ 2 ^ 128 → ((n : ℕ) (b : List ℕ) → write n ≡ written b → n < limit)
    → (table : PortableRegistry) (type : Option TypeDef)
    → AreTakenBack (held unsigned_in write) (tokens_by table type) (takers.unsigned limit)
unsigned_back limit write most fits =
    alone_back Values.Unsigned unsigned_in write event.unsigned (takers.unsigned limit) unsigned_integers unsigned_alone unsigned_events
    (λ n b e all.
    let less = fits n b e in
    natural_shown n (takers.unsigned limit) (Values.Unsigned n) (omega arith)
    (λ tree is.
    ap (λ o. if_found (below limit o) (λ m. taken (Values.Unsigned m))) is
    ∙ ap (λ (t : Bool). if_found (if t then Some n else None) (λ m. taken (Values.Unsigned m))) (lt-ltb n limit less)))

-- an integer of a signed type is taken back
signed_back :
    (limit : ℕ) (write : Writer ℤ)
    → ((z : ℤ) (b : List ℕ) → write z ≡ written b → (is_within limit z ≡ true) × (is_within (2 ^ 127) z ≡ true))
    → (table : PortableRegistry) (type : Option TypeDef)
    → AreTakenBack (held signed_in write) (tokens_by table type) (takers.signed limit)
signed_back limit write fits =
    alone_back Values.Signed signed_in write event.signed (takers.signed limit) signed_integers signed_alone signed_events
    (λ z b e all.
    integer_shown z (takers.signed limit) (Values.Signed z) (fits z b e).1
    (λ tree is.
    ap (λ o. if_found (within limit o) (λ y. taken (Values.Signed y))) is
    ∙ ap (λ (t : Bool). if_found (if t then Some z else None) (λ y. taken (Values.Signed y))) (fits z b e).0))

-- an integer that fits a width is within half of its limit
half_fits :
    (w : Width) (half : ℕ) → 256 ^ byte_len w ≤ 2 * half → half ≤ 2 ^ 127 → (z : ℤ) (b : List ℕ)
    → writers.signed w z ≡ written b → (is_within half z ≡ true) × (is_within (2 ^ 127) z ≡ true)
half_fits w half h most (pos n) b e =
    let less : 2 * n < 256 ^ byte_len w = ltb-true _ _ (fitted (is_signed_of w (pos n)) (to_le_bytes w (cast_unsigned w (pos n))) b e) in
    (lt-ltb n half (omega arith), lt-ltb n (2 ^ 127) (omega arith))
half_fits w half h most (negsuc n) b e =
    let less : 2 * n < 256 ^ byte_len w = ltb-true _ _ (fitted (is_signed_of w (negsuc n)) (to_le_bytes w (cast_unsigned w (negsuc n))) b e) in
    (lt-ltb n half (omega arith), lt-ltb n (2 ^ 127) (omega arith))

-- a truth value is taken back
truth_back : (table : PortableRegistry) (type : Option TypeDef) → AreTakenBack (held truth_in writers.truth) (tokens_by table type) takers.truth
truth_back =
    alone_back Values.Bool truth_in writers.truth event.truth takers.truth truths truth_alone truth_events
    (λ t b e all. truth_shown t takers.truth (Values.Bool t) refl)

-- a text is taken back
text_back : (table : PortableRegistry) (type : Option TypeDef) → AreTakenBack (held text_in writers.text) (tokens_by table type) takers.text
text_back =
    alone_back Values.Text text_in writers.text event.text takers.text texts text_alone text_events
    (λ t b e all.
    let p = parted_bytes (count (length t)) (if_fits (is_utf8 t) t) b e all in
    let short = fitted (nat_lt (length t) (2 ^ 32)) (compact_bytes (length t)) p.0 p.2 in
    let utf8 = fitted (is_utf8 t) t p.1 p.3 in
    string_shown t takers.text (Values.Text t)
    (ap (λ (b : Bool). if b && is_utf8 t then taken (Values.Text t) else not_taken mismatch) short
    ∙ ap (λ (b : Bool). if b then taken (Values.Text t) else not_taken mismatch) utf8))

-- an integer that fits a width is below its limit
width_fits : (w : Width) (n : ℕ) (b : List ℕ) → writers.unsigned w n ≡ written b → n < 256 ^ byte_len w
width_fits w n b e = ltb-true _ _ (fitted (nat_lt n (256 ^ byte_len w)) (to_le_bytes w n) b e)

-- values of each primitive are taken back
pub primitives_back :
    (table : PortableRegistry) (type : Option TypeDef) (p : TypeDefPrimitive)
    → AreTakenBack (writers.primitive p) (tokens_by table type) (takers.primitive p)
primitives_back table type kind.Bool = truth_back table type
primitives_back table type kind.Char = nothing_back writing.unsupported (tokens_by table type) (takers.primitive kind.Char)
primitives_back table type kind.Str = text_back table type
primitives_back table type kind.U8 = unsigned_back (2 ^ 8) (writers.unsigned w8) (omega arith) (width_fits w8) table type
primitives_back table type kind.U16 = unsigned_back (2 ^ 16) (writers.unsigned w16) (omega arith) (width_fits w16) table type
primitives_back table type kind.U32 = unsigned_back (2 ^ 32) (writers.unsigned w32) (omega arith) (width_fits w32) table type
primitives_back table type kind.U64 = unsigned_back (2 ^ 64) (writers.unsigned w64) (omega arith) (width_fits w64) table type
primitives_back table type kind.U128 = unsigned_back (2 ^ 128) (writers.unsigned w128) (omega arith) (width_fits w128) table type
primitives_back table type kind.U256 = nothing_back writing.unsupported (tokens_by table type) (takers.primitive kind.U256)
primitives_back table type kind.I8 = signed_back (2 ^ 7) (writers.signed w8) (half_fits w8 (2 ^ 7) (omega arith) (omega arith)) table type
primitives_back table type kind.I16 = signed_back (2 ^ 15) (writers.signed w16) (half_fits w16 (2 ^ 15) (omega arith) (omega arith)) table type
primitives_back table type kind.I32 = signed_back (2 ^ 31) (writers.signed w32) (half_fits w32 (2 ^ 31) (omega arith) (omega arith)) table type
primitives_back table type kind.I64 = signed_back (2 ^ 63) (writers.signed w64) (half_fits w64 (2 ^ 63) (omega arith) (omega arith)) table type
primitives_back table type kind.I128 = signed_back (2 ^ 127) (writers.signed w128) (half_fits w128 (2 ^ 127) (omega arith) (omega arith)) table type
primitives_back table type kind.I256 = nothing_back writing.unsupported (tokens_by table type) (takers.primitive kind.I256)

-- a compact integer below a limit was written
compact_fits : (limit n : ℕ) (b : List ℕ) → if_fits (nat_lt n limit) (compact_bytes n) ≡ written b → n < limit
compact_fits limit n b e = ltb-true _ _ (fitted (nat_lt n limit) (compact_bytes n) b e)

-- compact integers of each primitive are taken back
compact_primitives_back :
    (table : PortableRegistry) (type : Option TypeDef) (p : TypeDefPrimitive)
    → AreTakenBack (writers.compact_primitive p) (tokens_by table type) (takers.compact_primitive p)
compact_primitives_back table type kind.U8 = unsigned_back (2 ^ 8) _ (omega arith) (compact_fits (2 ^ 8)) table type
compact_primitives_back table type kind.U16 = unsigned_back (2 ^ 16) _ (omega arith) (compact_fits (2 ^ 16)) table type
compact_primitives_back table type kind.U32 = unsigned_back (2 ^ 32) _ (omega arith) (compact_fits (2 ^ 32)) table type
compact_primitives_back table type kind.U64 = unsigned_back (2 ^ 64) _ (omega arith) (compact_fits (2 ^ 64)) table type
compact_primitives_back table type kind.U128 = unsigned_back (2 ^ 128) _ (omega arith) (compact_fits (2 ^ 128)) table type
compact_primitives_back table type _ = λ value bytes e all own. cc

-- ---- parts

module _ (table : PortableRegistry) (writers_of : Id → Writers) (takers_of : Id → Takers)
    (back : (r : Id) → PartIsTakenBack table (definition_at table r.id) (writers_of r) (takers_of r)) where
  -- a composite is taken back
  composite_back :
      (d : _) → AreTakenBack (held record_in (writers.fields (map (map_field {G = Unit {0}} writers_of (λ t. t)) d.fields)))
      (tokens_by table (Some (def.Composite d)))
      (λ tree. taken_map Values.Record (takers.fields (map (map_field {G = Unit {0}} takers_of (λ t. t)) d.fields) tree))
  composite_back d value bytes e all own =
      let fs = map (map_field {G = Unit {0}} takers_of (λ t. t)) d.fields in
      let take : Taker Value = λ tree. taken_map Values.Record (takers.fields fs tree) in
      let x =
      held_parts Values.Record record_in (writers.fields (map (map_field {G = Unit {0}} writers_of (λ t. t)) d.fields)) records value bytes e in
      let names = keys x.0 in
      let named = all_named names in
      let type = Some (def.Composite d) in
      let own_fields = sym (record_own x.0) ∙ ap has_own_names (sym x.1) ∙ own in
      let shows =
      ap (flat_map event_tokens) (record_typed table type x.0)
      ∙ ap (λ ts. event_tokens (begin_record names (Some d.fields)) ++ ts)
      (flat_map-append event_tokens (placed (field_by table named) (map Some d.fields) x.0) (end_record names (Some d.fields) ∷ [])) in
      subst (λ v. IsShown (tokens_by table type v) take v) (sym x.1)
      (subst (λ ts. IsShown ts take (Values.Record x.0)) (sym shows)
      (shown_map Values.Record _ (takers.fields fs) x.0
      (fields_back table writers_of takers_of back d.fields x.0 bytes x.2 all own_fields)))

  -- items of each type in order are taken back
  members_are_back :
      (place : ℕ) (types : List Id) (values : List Value) (b : List ℕ)
      → writing.in_turn place (map (λ p. item p.value) (map writers_of types)) values ≡ written b → AllByRecursion IsByte b
      → all_own values ≡ true
      → AreShown (placed_tokens table (map (λ t. definition_at table t.id) types) values)
      (in_turn (map (λ p. p.value) (map takers_of types))) values
  members_are_back place [] [] b e all own = none_shown (in_turn []) refl
  members_are_back place [] (v ∷ values) b e all own = cc
  members_are_back place (r ∷ types) [] b e all own = cc
  members_are_back place (r ∷ types) (v ∷ values) b e all own =
      let write = (writers_of r).value in
      let p =
      parted_bytes (item write place v)
      (writing.in_turn (place + 1) (map (λ p. item p.value) (map writers_of types)) values) b e all in
      let o = and_parts (has_own_names v) (all_own values) own in
      one_back table (definition_at table r.id) (map (λ t. definition_at table t.id) types) (takers_of r).value
      (in_turn (map (λ p. p.value) (map takers_of types))) (in_turn (map (λ p. p.value) (map takers_of (r ∷ types)))) v values
      (λ tree trees. refl)
      (items_taken write (tokens_by table (definition_at table r.id)) (takers_of r).value (back r).value place v p.0 p.2 p.4 o.0)
      (members_are_back (place + 1) types values p.1 p.3 p.5 o.1)

  -- a list of items in an array is taken back, by the definitions of the items
  array_of_back :
      (type : Option TypeDef) (types : ℕ → List (Option TypeDef)) (write : Writer (List Value)) (take : List Data → Taken (List Value))
      → ((values : List Value) (b : List ℕ) → write values ≡ written b → AllByRecursion IsByte b → all_own values ≡ true
      → AreShown (placed_tokens table (types (length values)) values) take values)
      → ((values : List Value) → event.events_by table type (Values.List values)
      ≡ list_events false (in_place (value_by table) values (types (length values))))
      → (test : ℕ → Bool) → ((values : List Value) (b : List ℕ) → write values ≡ written b → test (length values) ≡ true)
      → AreTakenBack (held list_in write) (tokens_by table type)
      (λ tree. taken_map Values.List (if_found (items_in tree)
      (λ trees. if test (length trees) then take trees else not_taken mismatch)))
  array_of_back type types write take shown shows test fits value bytes e all own =
      let x = held_parts Values.List list_in write lists value bytes e in
      let whole : Taker Value = λ tree. taken_map Values.List (if_found (items_in tree)
      (λ trees. if test (length trees) then take trees else not_taken mismatch)) in
      let own_items = sym (list_own x.0) ∙ ap has_own_names (sym x.1) ∙ own in
      subst (λ v. IsShown (tokens_by table type v) whole v) (sym x.1)
      (subst (λ es. IsShown (flat_map event_tokens es) whole (Values.List x.0)) (sym (shows x.0))
      (list_back table (types (length x.0)) take x.0 whole
      (λ trees h count.
      ap (λ (t : Bool). taken_map Values.List (if t then take (listed trees) else not_taken mismatch))
      (ap test count ∙ fits x.0 bytes x.2)
      ∙ ap (taken_map Values.List) h)
      (shown x.0 bytes x.2 all own_items)))

  -- a tuple is taken back
  tuple_back :
      (d : _) → AreTakenBack (held list_in (writers.members (map writers_of d.fields))) (tokens_by table (Some (def.Tuple d)))
      (members (map (λ part. part.value) (map takers_of d.fields)))
  tuple_back d =
      array_of_back (Some (def.Tuple d)) (λ n. map (λ t. definition_at table t.id) d.fields) (writers.members (map writers_of d.fields))
      (in_turn (map (λ part. part.value) (map takers_of d.fields))) (members_are_back 0 d.fields)
      (list_typed table (Some (def.Tuple d))) (λ n. true) (λ values b e. refl)

  -- a key and a value are taken back
  pair_back :
      (key value : Id)
      → AreTakenBack (writers.pair (writers_of key) (writers_of value)) (tokens_by table (Some (pair_of key value)))
      (takers.pair (takers_of key) (takers_of value))
  pair_back key value =
      array_of_back (Some (pair_of key value)) (λ n. definition_at table key.id ∷ definition_at table value.id ∷ [])
      (writing.in_turn 0 (item (writers_of key).inner ∷ item (writers_of value).inner ∷ []))
      (in_turn ((takers_of key).inner ∷ (takers_of value).inner ∷ [])) both
      (list_typed table (Some (pair_of key value))) (λ n. true) (λ values b e. refl)
    where
      second :
          (values : List Value) (b : List ℕ) → writing.in_turn 1 (item (writers_of value).inner ∷ []) values ≡ written b
          → AllByRecursion IsByte b → all_own values ≡ true
          → AreShown (placed_tokens table (definition_at table value.id ∷ []) values) (in_turn ((takers_of value).inner ∷ [])) values
      second [] b e all own = cc
      second (v ∷ []) b e all own =
          let write = (writers_of value).inner in
          let p = parted_bytes (item write 1 v) (writing.in_turn {A = Value} 2 [] []) b e all in
          let o = and_parts (has_own_names v) (all_own []) own in
          one_back table (definition_at table value.id) [] (takers_of value).inner (in_turn {A = Value} []) (in_turn ((takers_of value).inner ∷ [])) v []
          (λ tree trees. refl)
          (items_taken write (tokens_by table (definition_at table value.id)) (takers_of value).inner (back value).inner 1 v
          p.0 p.2 p.4 o.0)
          (none_shown (in_turn {A = Value} []) refl)
      second (v ∷ w ∷ values) b e all own =
          let p =
          parted_bytes (item (writers_of value).inner 1 v) (writing.in_turn {A = Value} 2 [] (w ∷ values)) b e all in
          let none = p.3 in cc

      both :
          (values : List Value) (b : List ℕ)
          → writing.in_turn 0 (item (writers_of key).inner ∷ item (writers_of value).inner ∷ []) values ≡ written b
          → AllByRecursion IsByte b → all_own values ≡ true
          → AreShown (placed_tokens table (definition_at table key.id ∷ definition_at table value.id ∷ []) values)
          (in_turn ((takers_of key).inner ∷ (takers_of value).inner ∷ [])) values
      both [] b e all own = cc
      both (v ∷ values) b e all own =
          let write = (writers_of key).inner in
          let p =
          parted_bytes (item write 0 v) (writing.in_turn 1 (item (writers_of value).inner ∷ []) values) b e all in
          let o = and_parts (has_own_names v) (all_own values) own in
          one_back table (definition_at table key.id) (definition_at table value.id ∷ []) (takers_of key).inner
          (in_turn ((takers_of value).inner ∷ [])) (in_turn ((takers_of key).inner ∷ (takers_of value).inner ∷ [])) v values
          (λ tree trees. refl)
          (items_taken write (tokens_by table (definition_at table key.id)) (takers_of key).inner (back key).inner 0 v
          p.0 p.2 p.4 o.0)
          (second values p.1 p.3 p.5 o.1)

  -- a count was written of fewer than 2^32
  counted_fits :
      (write : ℕ → Writer (List Value)) (values : List Value) (b : List ℕ) → writers.counted write values ≡ written b
      → AllByRecursion IsByte b → has_count (length values) ≡ true
  counted_fits write values b e all =
      let p = parted_bytes (count (length values)) (write (length values) values) b e all in
      fitted (nat_lt (length values) (2 ^ 32)) (compact_bytes (length values)) p.0 p.2

  -- a map is taken back
  map_back :
      (d : _) → AreTakenBack (held list_in (writers.counted (λ n. writers.pairs n (writers_of d.key) (writers_of d.value))))
      (tokens_by table (Some (def.Map d))) (takers.pairs (takers_of d.key) (takers_of d.value))
  map_back d value bytes e all own =
      let x = held_parts Values.List list_in (writers.counted (λ n. writers.pairs n (writers_of d.key) (writers_of d.value))) lists value bytes e in
      let p = parted_bytes (count (length x.0)) (writers.pairs (length x.0) (writers_of d.key) (writers_of d.value) x.0) bytes x.2 all in
      let take = takers.pair (takers_of d.key) (takers_of d.value) in
      let fits : has_count (length x.0) ≡ true = fitted (nat_lt (length x.0) (2 ^ 32)) (compact_bytes (length x.0)) p.0 p.2 in
      let own_items = sym (list_own x.0) ∙ ap has_own_names (sym x.1) ∙ own in
      let whole = takers.pairs (takers_of d.key) (takers_of d.value) in
      subst (λ v. IsShown (tokens_by table (Some (def.Map d)) v) whole v) (sym x.1)
      (subst (λ es. IsShown (flat_map event_tokens es) whole (Values.List x.0)) (sym (list_typed table (Some (def.Map d)) x.0))
      (list_back table (replicate (length x.0) (Some (pair_of d.key d.value))) (each take) x.0 whole
      (λ trees h long.
      ap (λ (t : Bool). taken_map Values.List (if t then each take (listed trees) else not_taken mismatch)) (ap has_count long ∙ fits)
      ∙ ap (taken_map Values.List) h)
      (items_back table (Some (pair_of d.key d.value)) (writers.pair (writers_of d.key) (writers_of d.value)) take (pair_back d.key d.value)
      (length x.0) 0 x.0 p.1 p.3 p.5 own_items)))

  -- a sequence is taken back
  sequence_back :
      (d : _) → AreTakenBack (held list_in (writers.counted (λ n. writers.items n (writers_of d.type_param))))
      (tokens_by table (Some (def.Sequence d))) (items has_count (takers_of d.type_param))
  sequence_back d value bytes e all own =
      let r = d.type_param in
      let x = held_parts Values.List list_in (writers.counted (λ n. writers.items n (writers_of r))) lists value bytes e in
      let p = parted_bytes (count (length x.0)) (writers.items (length x.0) (writers_of r) x.0) bytes x.2 all in
      let fits : has_count (length x.0) ≡ true = fitted (nat_lt (length x.0) (2 ^ 32)) (compact_bytes (length x.0)) p.0 p.2 in
      let own_items = sym (list_own x.0) ∙ ap has_own_names (sym x.1) ∙ own in
      let whole = items has_count (takers_of r) in
      subst (λ v. IsShown (tokens_by table (Some (def.Sequence d)) v) whole v) (sym x.1)
      (subst (λ es. IsShown (flat_map event_tokens es) whole (Values.List x.0)) (sym (list_typed table (Some (def.Sequence d)) x.0))
      (typed_list_back table (definition_at table r.id) (writers_of r) (takers_of r) (back r) has_count (length x.0) x.0 p.1 p.3 p.5
      fits own_items))

  -- an array is taken back
  array_back :
      (d : _) → AreTakenBack (held list_in (writers.items d.len (writers_of d.type_param)))
      (tokens_by table (Some (def.Array d))) (items (λ n. n == d.len) (takers_of d.type_param))
  array_back d value bytes e all own =
      let r = d.type_param in
      let x = held_parts Values.List list_in (writers.items d.len (writers_of r)) lists value bytes e in
      let long = as_many d.len 0 (item (writers_of r).value) x.0 bytes x.2 in
      let as_written = ap (λ n. writing.in_turn 0 (replicate n (item (writers_of r).value)) x.0) long ∙ x.2 in
      let own_items = sym (list_own x.0) ∙ ap has_own_names (sym x.1) ∙ own in
      let whole = items (λ n. n == d.len) (takers_of r) in
      subst (λ v. IsShown (tokens_by table (Some (def.Array d)) v) whole v) (sym x.1)
      (subst (λ es. IsShown (flat_map event_tokens es) whole (Values.List x.0)) (sym (list_typed table (Some (def.Array d)) x.0))
      (typed_list_back table (definition_at table r.id) (writers_of r) (takers_of r) (back r) (λ n. n == d.len) (length x.0) x.0 bytes
      as_written all (eq-eqb (length x.0) d.len long) own_items))

  -- a value of each kind of definition is taken back
  pub values_back :
      (d : TypeDef)
      → AreTakenBack (writers.value_by (map_definition {G = Unit {0}} writers_of (λ t. t) d)) (tokens_by table (Some d))
      (takers.value_by (map_definition {G = Unit {0}} takers_of (λ t. t) d))
  values_back (def.Composite d) = composite_back d
  values_back (def.Variant d) = variant_back table writers_of takers_of back d
  values_back (def.Sequence d) = sequence_back d
  values_back (def.Array d) = array_back d
  values_back (def.Tuple d) = tuple_back d
  values_back (def.Primitive p) = primitives_back table (Some (def.Primitive p)) p
  values_back (def.Compact d) = (back d.type_param).compact (Some (def.Compact d))
  values_back (def.BitSequence d) = λ value bytes e all own. cc
  values_back (def.Map d) = map_back d

module _ (table : PortableRegistry) (type : Option TypeDef) (write : Id → Writer Value) (take : Id → Taker Value)
    (back : (r : Id) → AreTakenBack (write r) (tokens_by table type) (take r)) where
  -- a compact integer of the only field is taken back
  field_back :
      (all : List Field)
      → AreTakenBack (writers.compact_field (map (map_field {G = Unit {0}} write (λ t. t)) all)) (tokens_by table type)
      (takers.compact_field (map (map_field {G = Unit {0}} take (λ t. t)) all))
  field_back [] = λ value bytes e all own. cc
  field_back (f ∷ []) = back f.ty
  field_back (f ∷ g ∷ more) = λ value bytes e all own. cc

  -- a compact integer of each kind of definition is taken back
  pub compacts_back :
      (d : TypeDef)
      → AreTakenBack (writers.compact_by (map_definition {G = Unit {0}} write (λ t. t) d)) (tokens_by table type)
      (takers.compact_by (map_definition {G = Unit {0}} take (λ t. t) d))
  compacts_back (def.Composite d) = field_back d.fields
  compacts_back (def.Primitive p) = compact_primitives_back table type p
  compacts_back _ = λ value bytes e all own. cc
