-- Tables that are numbered from ids in their order, and compared.
use Rattle.std.proofs.Common.{◌≡◌, ◌↔◌, ℕ, ◌+◌, ◌<◌, ◌≤◌, List, [], ◌∷◌, ◌++◌, length, map}
use Rattle.std.proofs.Common.{Some, All, Contains, Bool, slice_get, get_or, take, drop, ap}
use Rattle.std.proofs.Common.{sym, subst, ◌∙◌, arith, take_all}
use Rattle.std.specs.Prelude.{IsTrue}
use Rattle.std.proofs.lemmas.List.{take_more}
use Rattle.std.proofs.lemmas.List.Elements.{All-get_or, All-push, AllZip-push}
use Rattle.std.proofs.lemmas.List.Elements.{Contains-get_or}
use Rattle.std.proofs.lemmas.Option.{none-some, get_or_from_slice_get}
use Rattle.scale_info_bytes.specs.PartLaws.{list_law}
use Rattle.scale_info_grammar.specs.Ty.{EncodesTypes}
use Rattle.scale_info_grammar.specs.TyLaws.{portable_type_law}
use Rattle.scale_info_numberings.proofs.Matches.{match_exactly}
use Rattle.scale_info_numberings.proofs.Places.{place_of}
use Rattle.scale_info_numberings.proofs.Reached.{reached_exactly}
use Rattle.scale_info_numberings.specs.Numberings.{IsNumbering}
use Rattle.scale_info_numberings.specs.Systems.{root, System}
use Rattle.scale_info_numberings.specs.Tables.{ArePlaces}
use Rattle.scale_info_passes.specs.Visits.{renumbered}
use Rattle.scale_info_types.specs.declared.ty.PortableType.{PortableType}
use Rattle.scale_info_walk.specs.TypeSystems.{entry_of, types_system}
use Rattle.scale_info_walk.specs.Walks.{AreNumbers}
use Rattle.scale_info_table_prune.proofs.AscendingRoots.{split}
use Rattle.scale_info_table_prune.proofs.Pruning.{ids_of_kept, table_of}
use Rattle.scale_info_table_prune.proofs.SameTables.{PartsLaw, same_types}
use Rattle.scale_info_walk.proofs.Inside.{inside}
use Rattle.scale_info_table_prune.specs.declared.prune.PruneError.{PruneError}
use Rattle.scale_info_table_prune.specs.declared.prune.PruneError.TheVariants.{Malformed, Trailing}
use Rattle.scale_info_table_prune.specs.declared.prune.PruneError.TheVariants.{NoSuchType, Dangling}
use Rattle.scale_info_table_prune.specs.declared.prune.PruneError.TheVariants.{Memory}
use Rattle.scale_info_table_prune.specs.Prunes.{IsNumberedFrom, IsRootsNumberingError, IsTableError}
use Rattle.scale_info_table_prune.specs.Roots.{IsNoSuchType}
use Rattle.scale_info_table_prune.specs.SameTypes.{HaveMatch, IsRenumbered, IsRenumberingError}
use Rattle.scale_info_table_prune.specs.SameTypes.{IsTypesRenumberingError, StaysInside}
use Rattle.scale_info_table_prune.specs.TableIndexes.{AppendsKeptTable}

-- the new id of one more id is its place
pub one_more :
    (order numbers ids new_ids : List ℕ) (i number : ℕ) → i < length ids → AreNumbers order numbers
    → All (λ id. Contains order id) ids → number ≡ get_or numbers (get_or ids i 0) (get_or ids i 0)
    → ArePlaces order (take i ids) new_ids → ArePlaces order (take (i + 1) ids) (new_ids ++ number ∷ [])
one_more order numbers ids new_ids i number within dense inside found before =
    let id = get_or ids i 0 in
    let here = place_of order id (All-get_or (λ k. Contains order k) ids i 0 within inside) in
    let there = get_or_from_slice_get numbers id here.0 id (dense.placed here.0 id here.1) in
    let placed : slice_get order number ≡ Some id = subst (λ n. slice_get order n ≡ Some id) (sym (found ∙ there)) here.1 in
    subst (λ (xs : List ℕ). ArePlaces order xs (new_ids ++ number ∷ [])) (sym (take_more ids i 0 within))
    (AllZip-push (λ n p. slice_get order p ≡ Some n) (take i ids) new_ids id number before placed)

-- the first id that is not below the count, where those before it are
pub first_outside :
    (count : ℕ) (ids : List ℕ) (i : ℕ) → All (λ id. id < count) (take i ids) → i < length ids
    → count ≤ get_or ids i 0 → IsNoSuchType count ids (get_or ids i 0)
first_outside count ids i inside within past = record {
  before = take i ids;
  after = drop (i + 1) ids;
  parts = split ids i within;
  inside = inside;
  outside = past;
}

-- one more id is below the count
pub one_inside :
    (count : ℕ) (ids : List ℕ) (i : ℕ) → All (λ id. id < count) (take i ids) → i < length ids
    → get_or ids i 0 < count → All (λ id. id < count) (take (i + 1) ids)
one_inside count ids i inside within below =
    subst (λ (xs : List ℕ). All (λ id. id < count) xs) (sym (take_more ids i 0 within))
    (All-push (λ id. id < count) (take i ids) (get_or ids i 0) inside below)

-- the roots of a numbering are in it
roots_inside :
    {Sh : Type 0} (S : System Sh ℕ) (roots order : List ℕ) → IsNumbering S roots order
    → All (λ id. Contains order id) roots
roots_inside S roots order x k d h =
    (reached_exactly S roots order x (get_or roots k d)).1
    (root (get_or roots k d) (Contains-get_or roots k d h) none)
  where
    none : Contains [] (get_or roots k d) → ⊥
    none c = let p = place_of [] (get_or roots k d) c in none-some (get_or roots k d) p.1

module _ {types : List PortableType} {ids order numbers : List ℕ}
    (z : IsNumberedFrom types ids order numbers) where
  -- what was written of a table that was numbered from the ids, and their places
  pub is_renumbered :
      {bytes new_ids : List ℕ} → AppendsKeptTable types (renumbered numbers) order [] bytes
      → ((order : List ℕ) → AreNumbers order numbers → All (λ id. Contains order id) ids
      → ArePlaces order ids new_ids)
      → IsRenumbered types ids bytes new_ids
  is_renumbered {bytes} k places = record {
    order = order;
    numbering = z.numbering;
    kept = k.kept;
    table = table_of z k.kept k.are_kept;
    ids_are = ids_of_kept z k.kept k.are_kept;
    written = subst (λ b. EncodesTypes k.kept b) (sym k.appends.parts) k.appends.encodes;
    places = places order z.dense (roots_inside (types_system types) ids order z.numbering);
  }

-- where a table was numbered from ids, each id that is reached from them is an index
pub stays_inside :
    {types : List PortableType} {ids bytes new_ids : List ℕ} → IsRenumbered types ids bytes new_ids
    → StaysInside types ids
stays_inside {types} {ids} x = inside types ids x.order x.numbering

-- the tables of two numberings from ids, and the new ids, are equal exactly where a match exists
pub tells_match :
    PartsLaw → {types other_types : List PortableType}
    → {ids others bytes new_ids other_bytes other_ids : List ℕ}
    → IsRenumbered types ids bytes new_ids → IsRenumbered other_types others other_bytes other_ids
    → (same : Bool) → (IsTrue same ↔ ((bytes ≡ other_bytes) × (new_ids ≡ other_ids)))
    → (IsTrue same ↔ HaveMatch types ids other_types others)
tells_match parts_law {types} {other_types} {ids} {others} {bytes} {new_ids} {other_bytes} {other_ids} x y same decides =
    let law = list_law portable_type_law in
    let decided =
    match_exactly (types_system types) ids x.order (types_system other_types) others y.order
    (map entry_of x.kept) (map entry_of y.kept) new_ids other_ids x.numbering y.numbering x.table y.table
    x.places y.places in (
      λ t.
          let equal = decides.0 t in
          let kept = law.prefix_free x.kept y.kept bytes other_bytes [] [] x.written y.written
          (ap (λ b. b ++ []) equal.0) in
          decided.0 (ap (λ ts. map entry_of ts) kept.1, equal.1),
      λ found.
          let equal = decided.1 found in
          let kept = same_types parts_law x.kept y.kept x.ids_are y.ids_are equal.0 in
          decides.1 (
            law.one y.kept bytes other_bytes (subst (λ ts. EncodesTypes ts bytes) kept x.written) y.written,
            equal.1,
          ),
    )

-- what holds of the ids before the end holds of all
pub all_inside :
    (P : ℕ → Type 0) (ids : List ℕ) (i : ℕ) → length ids ≤ i → All P (take i ids) → All P ids
all_inside P ids i past inside = subst (λ (xs : List ℕ). All P xs) (take_all i ids past) inside

-- why a table is not numbered from the ids
pub renumbering_error :
    (types : List PortableType) (ids : List ℕ) (e : PruneError)
    → IsRootsNumberingError types ids e → IsTypesRenumberingError types ids e
renumbering_error types ids Malformed h = absurd h
renumbering_error types ids Trailing h = absurd h
renumbering_error types ids (NoSuchType id) h = absurd h
renumbering_error types ids (Dangling id) h = h
renumbering_error types ids Memory h = h

-- why the input is not found to be one table is also why it is not numbered
pub table_renumbering_error :
    (input ids : List ℕ) (e : PruneError) → IsTableError input e → IsRenumberingError input ids e
table_renumbering_error input ids Malformed x = x
table_renumbering_error input ids Trailing x = x
table_renumbering_error input ids (NoSuchType id) x = absurd x
table_renumbering_error input ids (Dangling id) x = absurd x
table_renumbering_error input ids Memory x = x

-- why the table that the input encodes is not numbered from the ids is why the input is not
pub types_renumbering_error :
    (types : List PortableType) (input ids : List ℕ) (e : PruneError) → EncodesTypes types input
    → IsTypesRenumberingError types ids e → IsRenumberingError input ids e
types_renumbering_error types input ids Malformed x h = absurd h
types_renumbering_error types input ids Trailing x h = absurd h
types_renumbering_error types input ids (NoSuchType id) x h = record { types = types; encodes = x; no_such_type = h }
types_renumbering_error types input ids (Dangling id) x h = record { types = types; encodes = x; leads = h }
types_renumbering_error types input ids Memory x h = h
