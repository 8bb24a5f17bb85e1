-- A registered table, pruned, is the table of what is chosen, registered afresh.
use Rattle.std.proofs.Common.{◌≡◌, ◌<◌, ◌↔◌, ℕ, zero, suc, List, [], ◌∷◌, length, map, true}
use Rattle.std.proofs.Common.{Bool, false, Some, slice_get, ap, sym, ◌∙◌, subst, arith, refl, Contains}
use Rattle.std.proofs.Common.{inl, inr}
use Rattle.std.proofs.lemmas.List.Elements.{Contains-append_cases}
use Rattle.std.proofs.lemmas.Option.{slice_get-map, none-some}
use Rattle.std.specs.BTreeMap.{BTreeMap}
use Rattle.scale_info_identities.specs.TypeIds.{Term}
use Rattle.std.proofs.lemmas.List.{length-map}
use Rattle.scale_info_numberings.specs.Numberings.{AreDistinct, IsNumbering}
use Rattle.scale_info_numberings.proofs.FirstOutside.{outside_reached}
use Rattle.scale_info_numberings.specs.Systems.{Entry, System, IsFirstOutside, IsReached, root, next}
use Rattle.scale_info_numberings.specs.Tables.{ArePlaces, IsTable, table_system}
use Rattle.scale_info_numberings.proofs.Places.{contains_cases, place_of}
use Rattle.scale_info_numberings.proofs.Pruned.{pruned_reading, pruned_numbering, pruned_table}
use Rattle.scale_info_numberings.proofs.Tables.{closed}
use Rattle.scale_info_numberings.proofs.Zip.{zip_right, zip_turned}
use Rattle.scale_info_table.specs.declared.portable.PortableRegistry.{PortableRegistry}
use Rattle.scale_info_types.specs.Shapes.{Shape}
use Rattle.scale_info_types.specs.declared.ty.PortableType.{PortableType}
use Rattle.scale_info_table.specs.Pruned.{IsChosen, IsPruned, IsRetainError}
use Rattle.scale_info_walk.specs.declared.walk.RetainError.{RetainError}
use Rattle.scale_info_walk.specs.declared.walk.RetainError.TheVariants as retain
use Rattle.scale_info_walk.specs.TypeSystems.{entry_of, types_system}
use Rattle.scale_info_bytes.specs.Encodings.{HasNoEncoding, IfTooLong}
use Rattle.scale_info_bytes.specs.declared.error.EncodeError.{EncodeError}
use Rattle.scale_info_bytes.specs.declared.error.EncodeError.TheVariants as encode
use Rattle.scale_info_table.specs.TableEncoding.{EncodesRegistry}
use Rattle.scale_info_export.specs.Exports.{IsExportError, IsExported, IsRegisteredTable}
use Rattle.scale_info_export.specs.Exports.{of_encode}

-- the entries of a table, as a system, are the system of the list of entries
pub one_system : (types : List PortableType) → types_system types ≡ table_system (map entry_of types)
one_system types = λ i index. sym (slice_get-map entry_of types index) i

-- no element of a list is one of the empty list
none_there : {A : Type 0} (x : A) → Contains [] x → ⊥
none_there x k = let p = place_of [] x k in none-some x p.1

-- each chosen id is one of those that the filter was asked for
pub chosen_below :
    {F : Type 0} (step : F → ℕ → Bool → F → Type 0) (first : F) (n : ℕ) (chosen : List ℕ) (last : F)
    → IsChosen step first n chosen last → (id : ℕ) → Contains chosen id → id < n
chosen_below step first zero chosen last (none, same) id k =
    absurd (none_there id (subst (λ xs. Contains xs id) none k))
chosen_below step first (suc n) chosen last (before, state, true, asked, stepped, is) id k =
    elim (Contains-append_cases before (n ∷ []) id (subst (λ xs. Contains xs id) is k)) [
      | inl old ↦ let low = chosen_below step first n before state asked id old in omega arith
      | inr new ↦
          elim (contains_cases n [] id new) [
            | inl here ↦ subst (λ m. m < suc n) here (omega arith)
            | inr there ↦ absurd (none_there id there)
          ]
    ]
chosen_below step first (suc n) chosen last (before, state, false, asked, stepped, is) id k =
    let low = chosen_below step first n before state asked id (subst (λ xs. Contains xs id) is k) in
    omega arith

-- on the table of a numbering nothing is reached but its places
pub reached_below :
    {Sh N : Type 0} (S : System Sh N) (L : List N) (T : List (Entry Sh ℕ)) → IsTable S L T
    → (chosen : List ℕ) → ((id : ℕ) → Contains chosen id → id < length T)
    → (id : ℕ) → IsReached (table_system T) chosen id → id < length T
reached_below S L T table chosen below id (root m k u) = below id k
reached_below S L T table chosen below id (next m n d r at k u) = closed S L T table m d at id k

-- where each node stands at the place beside it, the new place of an old one is that of its node
same_nodes :
    {N : Type 0} (L M : List N) (K : List ℕ) → AreDistinct L → ArePlaces L M K → (old new : ℕ)
    → (slice_get K new ≡ Some old) ↔ ((n : N) × (slice_get L old ≡ Some n) × (slice_get M new ≡ Some n))
same_nodes L M K distinct z old new = (
  λ at.
      let p = zip_right (λ p n. slice_get L p ≡ Some n) K M (zip_turned (λ n p. slice_get L p ≡ Some n) M K z) new old at in
      (p.0, p.2, p.1),
  λ both.
      let p = zip_right (λ n p. slice_get L p ≡ Some n) M K z new both.0 both.2 in
      p.1 ∙ ap Some (distinct p.0 old both.0 p.2 both.1),
)

-- the table of a registry, pruned to what a filter chooses
pub exported :
    (S : System Shape Term) (roots : List Term) (ids : List ℕ) (whole pruned : PortableRegistry)
    {F : Type 0} (step : F → ℕ → Bool → F → Type 0) (filter last : F) (chosen : List ℕ) (new_ids : BTreeMap ℕ ℕ)
    → IsRegisteredTable S roots ids whole → IsChosen step filter (length whole.types) chosen last
    → IsPruned whole.types chosen pruned.types new_ids
    → IsExported S roots step filter ids new_ids pruned
exported S roots ids whole pruned step filter last chosen new_ids r asked p =
    let T = map entry_of whole.types in
    let same = one_system whole.types in
    let numbered : IsNumbering (table_system T) chosen p.order =
    subst (λ s. IsNumbering s chosen p.order) same p.numbering in
    let table : IsTable (table_system T) p.order (map entry_of pruned.types) =
    subst (λ s. IsTable s p.order (map entry_of pruned.types)) same p.table in
    let read = pruned_reading S roots r.order T chosen p.order r.numbering r.entries numbered in
    let count : length whole.types ≡ length r.order = sym (length-map whole.types entry_of) ∙ r.entries.long in
    record {
      order = r.order;
      numbering = r.numbering;
      places = r.places;
      chosen = chosen;
      last = last;
      asked = subst (λ n. IsChosen step filter n chosen last) count asked;
      tops = read.0;
      chosen_types = read.2;
      kept = read.1;
      afresh = pruned_numbering S roots r.order T chosen p.order r.numbering r.entries numbered read.0 read.1 read.2 read.3;
      entries =
          (pruned_table S roots r.order T chosen p.order r.numbering r.entries numbered read.0 read.1 read.2 read.3 (map entry_of pruned.types)).0 table;
      own_ids = p.ids;
      indices = λ old new.
          let nodes = same_nodes r.order read.1 p.order r.numbering.1.order.distinct read.3 old new in
          let at = p.indices old new in
          (λ got. nodes.0 (at.0 got), λ both. at.1 (nodes.1 both));
    }

-- the table of a registry is pruned, unless an allocation fails
pub only_memory :
    (S : System Shape Term) (roots : List Term) (ids : List ℕ) (whole : PortableRegistry)
    {F : Type 0} (step : F → ℕ → Bool → F → Type 0) (filter : F) → IsRegisteredTable S roots ids whole
    → (e : RetainError) → IsRetainError step filter whole.types e → e ≡ retain.Memory
only_memory S roots ids whole step filter r (retain.Dangling id) (chosen, last, asked, first, outside) =
    let T = map entry_of whole.types in
    let count = length-map whole.types entry_of in
    let below : (i : ℕ) → Contains chosen i → i < length T =
    λ i k. subst (λ n. i < n) (sym count) (chosen_below step filter (length whole.types) chosen last asked i k) in
    let inside = reached_below S r.order T r.entries chosen below id
    (outside_reached _ [] chosen id
    (subst (λ s. IsFirstOutside s [] chosen id) (one_system whole.types) first)) in
    absurd (omega (inside, outside, count, arith))
only_memory S roots ids whole step filter r retain.TooManyTypes many = absurd (omega (many, r.few, arith))
only_memory S roots ids whole step filter r retain.Memory c = refl

-- a table that can't be written
pub encode_error :
    (S : System Shape Term) (roots : List Term) (ids : List ℕ) (new_ids : BTreeMap ℕ ℕ) (table : PortableRegistry)
    {F : Type 0} (step : F → ℕ → Bool → F → Type 0) (filter : F) → IsExported S roots step filter ids new_ids table
    → (e : EncodeError) → IfTooLong (HasNoEncoding (EncodesRegistry table)) e
    → IsExportError S roots step filter (of_encode e)
encode_error S roots ids new_ids table step filter x encode.TooLong none = (ids, new_ids, table, x, none)
encode_error S roots ids new_ids table step filter x encode.Memory none = tt
