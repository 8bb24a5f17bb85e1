-- Lists that are taken back from the text.
use Rattle.std.proofs.Common.{◌≡◌, ℕ, zero, suc, ◌+◌, ◌<◌, Bool, true, false, List, [], ◌∷◌, ◌++◌, map, length, replicate}
use Rattle.std.proofs.Common.{Option, Some, option_map, refl, ap, sym, ◌∙◌, subst, arith}
use Rattle.std.proofs.lemmas.Bool.{and_parts}
use Rattle.std.proofs.lemmas.Grind.{flat_map-append}
use Rattle.std.proofs.lemmas.List.{length-map}
use Rattle.std.specs.List.{flat_map, AllByRecursion}
use Rattle.std.specs.Prelude.{if◌then◌else◌, codes}
use Rattle.hex.specs.Hex.{encode_lower, IsBytes}
use Rattle.json.specs.Token as token
use Rattle.scale_info_bytes.specs.Encodings.{IsByte}
use Rattle.json.specs.Token.{Token}
use Rattle.serde_json.specs.Data.{Data, array, string, number, unsigned, Items}
use Rattle.scale_info_types.specs.Portable.{TypeDef}
use Rattle.scale_info_table.specs.declared.portable.PortableRegistry.{PortableRegistry}
use Rattle.scale_info_value.specs.declared.value.Value.{Value}
use Rattle.scale_info_value.specs.declared.value.Value.TheVariants as Values
use Rattle.scale_info_value_encode.specs.Writers as writing
use Rattle.scale_info_value_encode.specs.declared.path.Step.TheVariants as step
use Rattle.scale_info_value_encode.specs.Writers.{Writer, written, item}
use Rattle.scale_info_value_encode.specs.DefinitionWriters.{Writers}
use Rattle.scale_info_value_encode.proofs.Inverse.{parted, part_written}
use Rattle.scale_info_value_visit.specs.Events as event
use Rattle.scale_info_value_visit.specs.Events.{Event, definition_at, events_by, list_events, items_events, in_place, joined, integers_in}
use Rattle.scale_info_value_visit.specs.Visits.{placed, value_by}
use Rattle.scale_info_value_visit.proofs.Events.{integers_alone, integers_joined}
use Rattle.scale_info_value_text.specs.ValueTexts.{event_tokens}
use Rattle.scale_info_value_json.specs.Takers.{Taken, Taker, taken, refused, mismatch, taken_map, if_found}
use Rattle.scale_info_value_json.specs.DefinitionTakers.{Takers, each, counted, items}
use Rattle.scale_info_value_json.specs.TreeParts.{listed, list_in}
use Rattle.scale_info_value_json.specs.TreesOfTexts.{has_own_names}
use Rattle.scale_info_value_json.proofs.Leaves.{string_shown, bytes_back}
use Rattle.scale_info_value_json.proofs.OwnNames.{all_own}
use Rattle.scale_info_value_json.proofs.Shown.{IsShown, AreShown, none_shown, one_shown, array_shown}
use Rattle.scale_info_value_json.proofs.ShownParts.{tokens_by, AreTakenBack, PartIsTakenBack, IsByteBack, items_taken, parted_bytes}
use Rattle.scale_info_value_json.proofs.SoFar.{then_more}

module _ (table : PortableRegistry) where
  -- the tokens of items with these definitions
  abbrev pub placed_tokens : List (Option TypeDef) → List Value → List Token
  placed_tokens types values = flat_map event_tokens (placed (value_by table) types values)

  -- the tokens of items of which the first is this
  tokens_of_first :
      (t : Option TypeDef) (types : List (Option TypeDef)) (v : Value) (values : List Value)
      → placed_tokens (t ∷ types) (v ∷ values) ≡ tokens_by table t v ++ placed_tokens types values
  tokens_of_first t types v values = flat_map-append event_tokens (value_by table v t) (placed (value_by table) types values)

  -- one item more is taken back
  pub one_back :
      (t : Option TypeDef) (types : List (Option TypeDef)) (first : Taker Value) (more take : List Data → Taken (List Value))
      (v : Value) (values : List Value)
      → ((tree : Data) (trees : List Data) → take (tree ∷ trees) ≡ then_more (first tree) (more trees))
      → IsShown (tokens_by table t v) first v → AreShown (placed_tokens types values) more values
      → AreShown (placed_tokens (t ∷ types) (v ∷ values)) take (v ∷ values)
  one_back t types first more take v values next s rest =
      subst (λ ts. AreShown ts take (v ∷ values)) (sym (tokens_of_first t types v values))
      (one_shown (tokens_by table t v) (placed_tokens types values) first more take v values next s rest)

  -- items of one type are taken back
  pub items_back :
      (type : Option TypeDef) (write : Writer Value) (take : Taker Value) → AreTakenBack write (tokens_by table type) take
      → (n place : ℕ) (values : List Value) (b : List ℕ)
      → writing.in_turn place (replicate n (item write)) values ≡ written b
      → AllByRecursion IsByte b → all_own values ≡ true → AreShown (placed_tokens (replicate n type) values) (each take) values
  items_back type write take back zero place [] b e all own = none_shown (each take) refl
  items_back type write take back zero place (v ∷ values) b e all own = cc
  items_back type write take back (suc n) place [] b e all own = cc
  items_back type write take back (suc n) place (v ∷ values) b e all own =
      let p =
      parted_bytes (item write place v) (writing.in_turn (place + 1) (replicate n (item write)) values) b e all in
      let o = and_parts (has_own_names v) (all_own values) own in
      one_back type (replicate n type) take (each take) (each take) v values (λ tree trees. refl)
      (items_taken write (tokens_by table type) take back place v p.0 p.2 p.4 o.0)
      (items_back type write take back n (place + 1) values p.1 p.3 p.5 o.1)

  -- a list of items that are no bytes is taken back
  pub list_back :
      (types : List (Option TypeDef)) (take : List Data → Taken (List Value)) (values : List Value) (whole : Taker Value)
      → ((trees : Items) → take (listed trees) ≡ taken values → length (listed trees) ≡ length values
      → whole (array trees) ≡ taken (Values.List values))
      → AreShown (placed_tokens types values) take values
      → IsShown (flat_map event_tokens (list_events false (in_place (value_by table) values types))) whole (Values.List values)
  list_back types take values whole by s =
      subst (λ ts. IsShown (token.begin_array ∷ ts) whole (Values.List values))
      (sym (flat_map-append event_tokens (placed (value_by table) types values) (event.end_list ∷ [])))
      (array_shown (placed_tokens types values) take values whole (Values.List values) by s)

-- values that are bytes
record AreBytes (take : Taker Value) (values : List Value) : Type 0 where
  bytes : List ℕ
  are : values ≡ map Values.Unsigned bytes
  small : IsBytes bytes
  taken_of : each take (map (λ n. number (unsigned n)) bytes) ≡ taken values

-- one byte before others
byte_before : (n : ℕ) (ns : List ℕ) → n < 256 → IsBytes ns → IsBytes (n ∷ ns)
byte_before n ns h all zero = h
byte_before n ns h all (suc i) = all i

-- no bytes
no_bytes : IsBytes []
no_bytes i = omega arith

-- items that are written as bytes are bytes
are_bytes :
    (write : Writer Value) (take : Taker Value) → ((v : Value) (b : List ℕ) → write v ≡ written b → IsByteBack write take v)
    → (n place : ℕ) (values : List Value) (b : List ℕ) → writing.in_turn place (replicate n (item write)) values ≡ written b
    → AreBytes take values
are_bytes write take back zero place [] b e = record { bytes = []; are = refl; small = no_bytes; taken_of = refl }
are_bytes write take back zero place (v ∷ values) b e = cc
are_bytes write take back (suc n) place [] b e = cc
are_bytes write take back (suc n) place (v ∷ values) b e =
    let p = parted (item write place v) (writing.in_turn (place + 1) (replicate n (item write)) values) b e in
    let first = back v p.0 (part_written (step.Index place) (write v) p.0 p.2) in
    let rest = are_bytes write take back n (place + 1) values p.1 p.3 in
    record {
      bytes = first.byte ∷ rest.bytes;
      are = λ i. first.is i ∷ rest.are i;
      small = byte_before first.byte rest.bytes first.small rest.small;
      taken_of =
          ap (λ o. then_more o (each take (map (λ n. number (unsigned n)) rest.bytes))) first.taken_of
          ∙ ap (taken_map (λ vs. v ∷ vs)) rest.taken_of;
    }

module _ (table : PortableRegistry) (type : Option TypeDef) (writers : Writers) (takers : Takers)
    (back : PartIsTakenBack table type writers takers) where
  -- a list of bytes is taken back
  bytes_list_back :
      (test : ℕ → Bool) (n : ℕ) (values : List Value) (b : List ℕ) → event.is_byte type ≡ true
      → writing.in_turn 0 (replicate n (item writers.value)) values ≡ written b → test (length values) ≡ true
      → IsShown (flat_map event_tokens (list_events true (in_place (value_by table) values (replicate n type))))
      (items test takers) (Values.List values)
  bytes_list_back test n values b of_bytes e fits =
      let a = are_bytes writers.value takers.value (back.bytes of_bytes) n 0 values b e in
      let types = replicate n type in
      let trees = map (λ k. number (unsigned k)) a.bytes in
      let all_integers : in_place (value_by table) values types ≡ map (λ k. event.unsigned k ∷ []) a.bytes =
      ap (λ vs. in_place (value_by table) vs types) a.are ∙ integers_alone table a.bytes types in
      let shows : list_events true (in_place (value_by table) values types) ≡ event.bytes a.bytes ∷ [] =
      ap (list_events true) all_integers
      ∙ ap (λ o. joined o (map (λ k. event.unsigned k ∷ []) a.bytes)) (integers_joined a.bytes) in
      let text = codes "0x" ++ encode_lower a.bytes in
      let found : list_in takers.is_byte (string text) ≡ Some trees =
      ap (λ t. list_in t (string text)) (back.is_byte ∙ of_bytes)
      ∙ ap (option_map (map (λ k. number (unsigned k)))) (bytes_back a.bytes a.small) in
      let long : length trees ≡ length values =
      length-map a.bytes (λ k. number (unsigned k))
      ∙ sym (length-map a.bytes Values.Unsigned) ∙ ap length (sym a.are) in
      let whole : items test takers (string text) ≡ taken (Values.List values) =
      ap (λ o. taken_map Values.List (if_found o (counted test takers.value))) found
      ∙ ap (λ (t : Bool). taken_map Values.List (if t then each takers.value trees else refused mismatch)) (ap test long ∙ fits)
      ∙ ap (taken_map Values.List) a.taken_of in
      subst (λ es. IsShown (flat_map event_tokens es) (items test takers) (Values.List values)) (sym shows)
      (string_shown text (items test takers) (Values.List values) whole)

  -- a list of items of one type is taken back
  pub typed_list_back :
      (test : ℕ → Bool) (n : ℕ) (values : List Value) (b : List ℕ)
      → writing.in_turn 0 (replicate n (item writers.value)) values ≡ written b → AllByRecursion IsByte b
      → test (length values) ≡ true → all_own values ≡ true
      → IsShown (flat_map event_tokens (list_events (event.is_byte type) (in_place (value_by table) values (replicate n type))))
      (items test takers) (Values.List values)
  typed_list_back test n values b e all fits own = by_type (event.is_byte type) refl
    where
      by_type :
          (of_bytes : Bool) → event.is_byte type ≡ of_bytes
          → IsShown (flat_map event_tokens (list_events of_bytes (in_place (value_by table) values (replicate n type))))
          (items test takers) (Values.List values)
      by_type true is = bytes_list_back test n values b is e fits
      by_type false is =
          list_back table (replicate n type) (each takers.value) values (items test takers)
          (λ trees h count.
          ap (λ t. taken_map Values.List (if_found (list_in t (array trees)) (counted test takers.value))) (back.is_byte ∙ is)
          ∙ ap (λ (t : Bool). taken_map Values.List (if t then each takers.value (listed trees) else refused mismatch))
          (ap test count ∙ fits)
          ∙ ap (taken_map Values.List) h)
          (items_back table type writers.value takers.value back.value n 0 values b e all own)
