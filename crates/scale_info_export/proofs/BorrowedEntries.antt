-- Entries of tables whose descriptions stay in a catalogue.
use Rattle.std.proofs.Common.{◌≡◌, ◌++◌, ◌∷◌, ◌+◌, ◌<◌, ◌∙◌, ℕ, zero, suc, List, [], Some, Bor}
use Rattle.std.proofs.Common.{ap, arith, get_or, length, map, option_map, refl, slice_get, subst}
use Rattle.std.proofs.Common.{append_assoc, Bool, Err, Ok, OnOk, Option, Result, ◌≤◌, append-nil, drop, sym, take}
use Rattle.std.specs.BTreeMap.{BTreeMap}
use Rattle.std.specs.Prelude.{OnErr}
use Rattle.std.proofs.lemmas.Grind.{flat_map-append}
use Rattle.std.proofs.lemmas.List.{length-map, length-take-le, map-append, take-append-drop, take_more}
use Rattle.std.proofs.lemmas.Option.{get_or_from_slice_get, none-some, same_Some, slice_get-get_or}
use Rattle.std.proofs.lemmas.Option.{slice_get-map, slice_get_within}
use Rattle.std.specs.Option.{option_to_list}
use Rattle.scale_info_bytes.proofs.Steps.{appends_both}
use Rattle.scale_info_bytes.specs.Encodings.{AppendsEncoding, IsPrefix}
use Rattle.scale_info_bytes.specs.Integers.{EncodesCompact}
use Rattle.scale_info_bytes.specs.Parts.{EncodesItems}
use Rattle.scale_info_grammar.specs.Ty.{EncodesPortableType, EncodesTypes}
use Rattle.scale_info_export.specs.BorrowedEntries.{borrowed_entries, new_id, picked, renumbered_entries}
use Rattle.scale_info_identities.specs.declared.type_id.TypeId.{TypeId}
use Rattle.scale_info_numberings.proofs.Places.{at_left, element_at}
use Rattle.scale_info_catalogue.specs.Discoveries.{nodes_of}
use Rattle.scale_info_export.proofs.Exported.{exported}
use Rattle.scale_info_export.specs.Exports.{IsExported, IsRegisteredTable}
use Rattle.scale_info_identities.specs.TypeIds.{Term}
use Rattle.scale_info_numberings.specs.Numberings.{IsNumbering}
use Rattle.scale_info_numberings.specs.Systems.{IsFirstOutside, System}
use Rattle.scale_info_numberings.specs.Tables.{ArePlaces, IsTable}
use Rattle.scale_info_references.proofs.Replaced.{ids_replaced, join_description}
use Rattle.scale_info_references.specs.Conversions.{ids_in, number_of, symbol, with_ids}
use Rattle.scale_info_registry.specs.BorrowedTypes.{id_in, with_ids_in}
use Rattle.scale_info_table.proofs.Interned.{length_numbered, numbered_push}
use Rattle.scale_info_table.specs.BuiltTables.{numbered_from}
use Rattle.scale_info_table.specs.Pruned.{IsChosen, IsPruned, IsRetainError}
use Rattle.scale_info_types.specs.KeptEntries.{kept_entry}
use Rattle.scale_info_types.specs.MetaDescriptions.{MetaDescription}
use Rattle.scale_info_types.specs.Portable as portable
use Rattle.scale_info_types.specs.References.{references}
use Rattle.scale_info_types.specs.declared.form.MetaForm.{MetaForm}
use Rattle.scale_info_types.specs.declared.form.PortableForm.{PortableForm}
use Rattle.scale_info_types.specs.declared.ty.PortableType.{PortableType}
use Rattle.scale_info_walk.specs.Kept.{AreKept}
use Rattle.scale_info_types.specs.Shapes.{Shape}
use Rattle.scale_info_walk.specs.TypeSystems.{entry_of, types_system}
use Rattle.scale_info_walk.specs.Walks.{IsWalkError}
use Rattle.scale_info_walk.specs.declared.walk.RetainError.{RetainError}
use Rattle.scale_info_walk.specs.declared.walk.RetainError.TheVariants as retain

-- the entry of a description
pub numbered_at :
    (first i n : ℕ) (types : List portable.Description) (ty : portable.Description) → n ≡ first + i
    → slice_get types i ≡ Some ty
    → slice_get (numbered_from first types) i ≡ Some (record { id = n; ty = ty })
numbered_at first i n [] ty e at = absurd (none-some ty at)
numbered_at first zero n (t ∷ types) ty e at =
    let same : first ≡ n = omega (arith, e) in
    let is = same_Some t ty at in
    λ j. Some (record { id = same j; ty = is j })
numbered_at first (suc i) n (t ∷ types) ty e at = numbered_at (first + 1) i n types ty (omega (arith, e)) at

-- these indices are below a number
abbrev pub AreWithin : List ℕ → ℕ → Type 0
AreWithin order n = (i k : ℕ) → slice_get order i ≡ Some k → k < n

-- what is picked at indices within a list stands at the place of its index
pub picked_at :
    {A : Type 0} (xs : List A) (order : List ℕ) → AreWithin order (length xs) → (i k : ℕ)
    → slice_get order i ≡ Some k
    → (x : A) × (slice_get xs k ≡ Some x) × (slice_get (picked xs order) i ≡ Some x)
picked_at xs [] within i k e = absurd (none-some k e)
picked_at {A} xs (m ∷ order) within zero k e =
    let same : m ≡ k = same_Some m k e in
    let p = element_at xs m (within 0 m refl) in (
      p.0,
      ap (slice_get xs) (sym same) ∙ p.1,
      ap (λ (o : Option A). slice_get (option_to_list o ++ picked xs order) 0) p.1,
    )
picked_at {A} xs (m ∷ order) within (suc i) k e =
    let p = element_at xs m (within 0 m refl) in
    let later = picked_at xs order (λ i k e. within (suc i) k e) i k e in (
      later.0,
      later.1,
      ap (λ (o : Option A). slice_get (option_to_list o ++ picked xs order) (suc i)) p.1 ∙ later.2,
    )

-- as many elements are picked as there are indices
pub length_picked :
    {A : Type 0} (xs : List A) (order : List ℕ) → AreWithin order (length xs)
    → length (picked xs order) ≡ length order
length_picked xs [] within = refl
length_picked {A} xs (m ∷ order) within =
    let p = element_at xs m (within 0 m refl) in
    ap (λ (o : Option A). length (option_to_list o ++ picked xs order)) p.1
    ∙ ap suc (length_picked xs order (λ i k e. within (suc i) k e))

-- one more element is picked
picked_more :
    {A : Type 0} (xs : List A) (order : List ℕ) (i : ℕ) (x : A) → i < length order
    → slice_get xs (get_or order i 0) ≡ Some x
    → picked xs (take (i + 1) order) ≡ picked xs (take i order) ++ x ∷ []
picked_more {A} xs order i x below at =
    let pick : ℕ → List A = λ k. option_to_list (slice_get xs k) in
    ap (picked xs) (take_more order i 0 below)
    ∙ flat_map-append pick (take i order) (get_or order i 0 ∷ [])
    ∙ ap (λ ys. picked xs (take i order) ++ ys)
    (append-nil (pick (get_or order i 0)) ∙ ap (λ (o : Option A). option_to_list o) at)

-- the first of some indices within a list are within it
first_within : (order : List ℕ) (i n : ℕ) → AreWithin order n → AreWithin (take i order) n
first_within order i n within j k e =
    within j k
    (ap (λ os. slice_get os j) (sym (take-append-drop i order))
    ∙ at_left (take i order) (drop i order) j k e)

-- indices that are within a list, each by its place
pub within_by_place :
    (order : List ℕ) (n : ℕ) → ((i d : ℕ) → i < length order → get_or order i d < n) → AreWithin order n
within_by_place order n all i k e =
    subst (λ m. m < n) (get_or_from_slice_get order i k 0 e) (all i 0 (slice_get_within order i k e))

-- a description with its new ids is that with its ids, renumbered
renumbered_twice :
    (ids : List TypeId) (numbers : List ℕ) (d : MetaDescription) (id n : ℕ)
    → ◌≡◌ {A = PortableType} (record { id = n; ty = with_ids (new_id ids numbers) (λ text. text.now) d })
    (kept_entry (λ r. symbol (number_of numbers r)) n (record { id = id; ty = with_ids_in ids d }))
renumbered_twice ids numbers d id n =
    λ i.
    record {
      id = n;
      ty =
          sym
          (join_description MetaForm PortableForm PortableForm (λ r. symbol (number_of numbers r))
          (λ ty. symbol (id_in ids ty)) (λ ty. symbol (new_id ids numbers ty)) (λ (bytes : List ℕ). bytes)
          (λ (text : Bor (List ℕ)). text.now) (λ text. text.now) (λ _. refl) (λ _. refl) d)
          i;
    }

module _ (ids : List TypeId) (numbers : List ℕ) where
  -- the description that is kept
  abbrev read : Bor MetaDescription → portable.Description
  read d = with_ids (new_id ids numbers) (λ text. text.now) d.now

  -- an entry that is kept
  pub renumbered_at :
      (kept : List (Bor MetaDescription)) (i : ℕ) (d : Bor MetaDescription) → slice_get kept i ≡ Some d
      → slice_get (renumbered_entries ids numbers kept) i ≡ Some (record { id = i; ty = read d })
  renumbered_at kept i d at =
      numbered_at 0 i i (map read kept) (read d) (omega arith) (slice_get-map read kept i ∙ ap (option_map read) at)

  -- the descriptions at these indices become the entries that are kept
  pub are_kept :
      (found : List (Bor MetaDescription)) (order : List ℕ) → AreWithin order (length found)
      → AreKept (borrowed_entries ids found) order (number_of numbers)
      (renumbered_entries ids numbers (picked found order))
  are_kept found order within = (
    length_numbered 0 (map read (picked found order)) ∙ length-map (picked found order) read
        ∙ length_picked found order within,
    λ i k e.
        let p = picked_at found order within i k e in
        let given : Bor MetaDescription → portable.Description = λ d. with_ids_in ids d.now in (
          record { id = k; ty = given p.0 },
          numbered_at 0 k k (map given found) (given p.0) (omega arith)
              (slice_get-map given found k ∙ ap (option_map given) p.1),
          renumbered_at (picked found order) i p.0 p.2 ∙ ap Some (renumbered_twice ids numbers p.0.now k i),
        ),
  )

  -- one more entry
  pub renumbered_more :
      (found : List (Bor MetaDescription)) (order : List ℕ) (i : ℕ) (d : Bor MetaDescription)
      → AreWithin order (length found) → i < length order → slice_get found (get_or order i 0) ≡ Some d
      → renumbered_entries ids numbers (picked found (take (i + 1) order))
      ≡ renumbered_entries ids numbers (picked found (take i order)) ++ record { id = i; ty = read d } ∷ []
  renumbered_more found order i d within below at =
      let before = picked found (take i order) in
      let long =
      length-map before read ∙ length_picked found (take i order) (first_within order i (length found) within)
      ∙ length-take-le i order (omega arith) in
      let next : 0 + length (map read before) ≡ i = omega (arith, long) in
      ap (λ xs. numbered_from 0 (map read xs)) (picked_more found order i d below at)
      ∙ ap (numbered_from 0) (map-append read before (d ∷ []))
      ∙ numbered_push 0 (map read before) (read d)
      ∙ ap (λ n. numbered_from 0 (map read before) ++ record { id = n; ty = read d } ∷ []) next

  -- the entry at an index, as the list has it
  pub renumbered_entry_at :
      (found : List (Bor MetaDescription)) (order : List ℕ) (i : ℕ) (d : Bor MetaDescription)
      → AreWithin order (length found) → i < length order → slice_get found (get_or order i 0) ≡ Some d
      → ◌≡◌ {A = PortableType} (record { id = i; ty = read d })
      (get_or (renumbered_entries ids numbers (picked found order)) i (record { id = i; ty = read d }))
  renumbered_entry_at found order i d within below at =
      let p = picked_at found order within i (get_or order i 0) (slice_get-get_or order i 0 below) in
      let same : p.0 ≡ d = same_Some p.0 d (sym p.1 ∙ at) in
      sym
      (get_or_from_slice_get (renumbered_entries ids numbers (picked found order)) i (record { id = i; ty = read d })
      (record { id = i; ty = read d })
      (renumbered_at (picked found order) i d (p.2 ∙ ap Some same)))

-- as many entries as there are descriptions in the catalogue
pub length_borrowed :
    (ids : List TypeId) (found : List (Bor MetaDescription))
    → length (borrowed_entries ids found) ≡ length found
length_borrowed ids found =
    length_numbered 0 (map (λ d. with_ids_in ids d.now) found) ∙ length-map found (λ d. with_ids_in ids d.now)

-- the ids that an entry refers to are those of its description's types
pub borrowed_references :
    (ids : List TypeId) (d : MetaDescription) → ids_in (with_ids_in ids d) ≡ map (id_in ids) (references d)
borrowed_references ids d = ids_replaced (id_in ids) (λ (text : Bor (List ℕ)). text.now) d

-- the entry at an index, where a description is borrowed
pub borrowed_at :
    (ids : List TypeId) (found : List (Bor MetaDescription)) (i : ℕ) (d : Bor MetaDescription)
    → slice_get found i ≡ Some d
    → slice_get (borrowed_entries ids found) i ≡ Some (record { id = i; ty = with_ids_in ids d.now })
borrowed_at ids found i d at =
    let given : Bor MetaDescription → portable.Description = λ d. with_ids_in ids d.now in
    numbered_at 0 i i (map given found) (given d) (omega arith) (slice_get-map given found i ∙ ap (option_map given) at)

-- why a walk over borrowed entries stops is why nothing is kept of them
pub walk_error :
    {F : Type 0} (step : F → ℕ → Bool → F → Type 0) (first last : F) (types : List PortableType) (count : ℕ)
    (chosen roots : List ℕ) (e : RetainError) → count ≡ length types → IsChosen step first count chosen last
    → roots ≡ chosen → IsWalkError (types_system types) count [] roots e → IsRetainError step first types e
walk_error step first last types count chosen roots (retain.Dangling id) long x same c = (
  chosen,
  last,
  subst (λ n. IsChosen step first n chosen last) long x,
  subst (λ rs. IsFirstOutside (types_system types) [] rs id) same c.0,
  subst (λ n. n ≤ id) long c.1,
)
walk_error step first last types count chosen roots retain.TooManyTypes long x same c =
    subst (λ n. 4294967295 < n) long c
walk_error step first last types count chosen roots retain.Memory long x same c = tt

-- the same ids are chosen, where the count is the same
pub chosen_at :
    {F : Type 0} (step : F → ℕ → Bool → F → Type 0) (first last : F) (n count : ℕ) (chosen : List ℕ) → n ≡ count
    → IsChosen step first n chosen last → IsChosen step first count chosen last
chosen_at step first last n count chosen e x = subst (λ m. IsChosen step first m chosen last) e x

-- as many entries are kept as there are indices
pub length_kept :
    (ids : List TypeId) (numbers : List ℕ) (found : List (Bor MetaDescription)) (order : List ℕ)
    → AreWithin order (length found)
    → length (renumbered_entries ids numbers (picked found order)) ≡ length order
length_kept ids numbers found order within =
    length_numbered 0 (map (read ids numbers) (picked found order))
    ∙ length-map (picked found order) (read ids numbers)
    ∙ length_picked found order within

-- what was appended before an error stands at the end
pub prefix_on_err :
    {S : List ℕ → Type 0} {A E : Type 0} (r : Result A E) {a b c : List ℕ} → AppendsEncoding S a b
    → IsPrefix b c → OnErr r (IsPrefix a c)
prefix_on_err (Ok x) p q = tt
prefix_on_err (Err e) {a} {b} {c} p q = record {
  rest = p.encoding ++ q.rest;
  parts = q.parts ∙ ap (λ t. t ++ q.rest) p.parts ∙ append_assoc a p.encoding q.rest;
}

-- a count and so many entries, appended in turn, append their table
pub appends_table :
    {A E : Type 0} (xs : List PortableType) (n : ℕ) (a b c d : List ℕ) (r written : Result A E)
    → length xs ≡ n → AppendsEncoding (EncodesCompact n) a b
    → OnOk written (AppendsEncoding (EncodesItems EncodesPortableType xs) b c) → r ≡ written → OnOk r (d ≡ c)
    → OnOk r (AppendsEncoding (EncodesTypes xs) a d)
appends_table xs n a b c d (Err e) written long p q same stays = tt
appends_table xs n a b c d (Ok x) written long p q same stays =
    let count : AppendsEncoding (EncodesCompact (length xs)) a b =
    subst (λ m. AppendsEncoding (EncodesCompact m) a b) (sym long) p in
    let entries : AppendsEncoding (EncodesItems EncodesPortableType xs) b c =
    subst (λ t. OnOk t (AppendsEncoding (EncodesItems EncodesPortableType xs) b c)) (sym same) q in
    subst (λ t. AppendsEncoding (EncodesTypes xs) a t) (sym stays) (appends_both count entries)

-- the entries of types that were borrowed are the table of the numbering from these types
pub borrowed_table :
    (S : System Shape Term) (roots : List Term) (ids : List TypeId) (found : List (Bor MetaDescription))
    (given : List ℕ)
    → IsNumbering S roots (nodes_of ids) × IsTable S (nodes_of ids) (map entry_of (borrowed_entries ids found))
    → length found ≡ length ids → length ids ≤ 4294967295 → ArePlaces (nodes_of ids) roots given
    → IsRegisteredTable S roots given (record { types = borrowed_entries ids found })
borrowed_table S roots ids found given made long few places =
    let count = length_borrowed ids found in
    record {
      order = nodes_of ids;
      numbering = made.0;
      places = places;
      entries = made.1;
      few = omega arith;
    }

-- what is kept of the entries of types that were borrowed, as `number_kept` says it
pub borrowed_pruned :
    {F : Type 0} (S : System Shape Term) (roots : List Term) (ids : List TypeId) (found : List (Bor MetaDescription))
    (given order numbers kept_order kept_numbers : List ℕ) (new_ids : BTreeMap ℕ ℕ)
    (step : F → ℕ → Bool → F → Type 0) (filter : F)
    → IsRegisteredTable S roots given (record { types = borrowed_entries ids found })
    → order ≡ kept_order → numbers ≡ kept_numbers
    → ((i d : ℕ) → i < length kept_order → get_or kept_order i d < length found)
    → ((chosen : List ℕ) × (last : F) × IsChosen step filter (length found) chosen last
    × ((kept : List PortableType)
    → AreKept (borrowed_entries ids found) kept_order (number_of kept_numbers) kept
    → IsPruned (borrowed_entries ids found) chosen kept new_ids))
    → IsExported S roots step filter given new_ids
    (record { types = renumbered_entries ids numbers (picked found order) })
borrowed_pruned S roots ids found given order numbers kept_order kept_numbers new_ids step filter table ord num all (chosen, last, asked, prune) =
    let pruned =
    prune (renumbered_entries ids kept_numbers (picked found kept_order))
    (are_kept ids kept_numbers found kept_order (within_by_place kept_order (length found) all)) in
    let made =
    exported S roots given (record { types = borrowed_entries ids found })
    (record { types = renumbered_entries ids kept_numbers (picked found kept_order) }) step filter last chosen new_ids
    table (chosen_at step filter last (length found) (length (borrowed_entries ids found)) chosen (sym (length_borrowed ids found)) asked)
    pruned in
    subst (λ os. IsExported S roots step filter given new_ids (record { types = renumbered_entries ids numbers (picked found os) })) (sym ord)
    (subst (λ ns. IsExported S roots step filter given new_ids (record { types = renumbered_entries ids ns (picked found kept_order) })) (sym num) made)
