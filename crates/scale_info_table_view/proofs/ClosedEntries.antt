-- ViewedEntries whose ids are their indices, and whose references are below a count.
use Rattle.std.proofs.Common.{◌≡◌, ◌↔◌, ◌<◌, ◌≤◌, ◌+◌, ◌-◌, ℕ, List, length, get_or}
use Rattle.std.proofs.Common.{take, drop, Some, Bool, IsTrue, true, false, below_more, refl, sym, ap, subst, ◌∙◌, arith, zero-add}
use Rattle.std.proofs.lemmas.List.FromFn.{get_or-enumerate_from, length-enumerate_from}
use Rattle.std.proofs.lemmas.Bool.{false≢true}
use Rattle.std.proofs.lemmas.Option.{slice_get-get_or, slice_get_within, get_or_from_slice_get}
use Rattle.std.proofs.lemmas.Option.{same_Some}
use Rattle.std.proofs.lemmas.Slice.Zip.{AllZip-long}
use Rattle.std.specs.List.{AllZip, enumerate_from, slice_get}
use Rattle.scale_info_bytes.proofs.Steps.{prefix_map, same_prefix, split_prefix}
use Rattle.scale_info_bytes.specs.CompactLaws.{compact_law}
use Rattle.scale_info_bytes.specs.Encodings.{HasNoPrefix, HasPrefix}
use Rattle.scale_info_bytes.specs.Integers.{EncodesCompact}
use Rattle.scale_info_grammar.specs.Ty.{EncodesDescription, EncodesPortableType}
use Rattle.scale_info_grammar.specs.TyLaws.{description_law}
use Rattle.scale_info_table.specs.ClosedTables.{AreBelow, HasIndicesAsIds, HasReferencesBelow}
use Rattle.scale_info_types.specs.Portable.{Description, Id}
use Rattle.scale_info_types.specs.References.{references}
use Rattle.scale_info_types.specs.declared.ty.PortableType.{PortableType}
use Rattle.scale_info_table_view.proofs.Viewed.{entry_at, part_from}
use Rattle.scale_info_table_view.specs.Views.{IsEntryAt}

-- the entry has this id, and each of its references is below the count
abbrev pub IsClosedAt : ℕ → ℕ → PortableType → Type 0
IsClosedAt count index entry = (entry.id ≡ index) × AreBelow count (references entry.ty)

-- an entry after its id is its description
pub after_id :
    (id : ℕ) (bytes description rest : List ℕ) (entry : PortableType)
    → HasPrefix (EncodesCompact id) bytes description
    → HasPrefix (EncodesPortableType entry) bytes rest
    → (entry.id ≡ id) × HasPrefix (EncodesDescription entry.ty) description rest
after_id id bytes description rest entry first whole =
    let h = split_prefix (prefix_map (λ b e. e.both) whole) in
    let same = same_prefix compact_law entry.id id bytes h.0 description h.1 first in
    (same.0, subst (λ t. HasPrefix (EncodesDescription entry.ty) t rest) same.1 h.2)

-- bytes that begin with no id begin with no entry
pub no_id :
    (bytes rest : List ℕ) (entry : PortableType)
    → HasNoPrefix EncodesCompact bytes → HasPrefix (EncodesPortableType entry) bytes rest → ⊥
no_id bytes rest entry none whole =
    let h = split_prefix (prefix_map (λ b e. e.both) whole) in none.none entry.id h.0 h.1

-- where the id is the index, an entry is closed where the references that were visited are below
-- the count
pub closed_by_visit :
    (count index id : ℕ) (bytes description rest passed : List ℕ) (entry : PortableType)
    (ty : Description) (visited : List Id) (answer : Bool)
    → id ≡ index → HasPrefix (EncodesCompact id) bytes description
    → HasPrefix (EncodesPortableType entry) bytes rest
    → HasPrefix (EncodesDescription ty) description passed
    → visited ≡ references ty
    → (IsTrue answer ↔ (IsTrue true × AreBelow count visited))
    → (IsTrue answer ↔ IsClosedAt count index entry)
closed_by_visit count index id bytes description rest passed entry ty visited answer is first whole read refs says =
    let parts = after_id id bytes description rest entry first whole in
    let same : ty ≡ entry.ty =
    (same_prefix description_law ty entry.ty description passed rest read parts.1).0 in
    let all = refs ∙ ap references same in (
      λ yes. (parts.0 ∙ is, subst (AreBelow count) all (says.0 yes).1),
      λ both. says.1 (refl, subst (AreBelow count) (sym all) both.1),
    )

-- each entry is closed exactly where the ids are the indices and the references are below
pub closed_each :
    (count : ℕ) (types : List PortableType)
    → ((k : ℕ) (entry : PortableType) → slice_get types k ≡ Some entry → IsClosedAt count k entry)
    ↔ (HasIndicesAsIds types × HasReferencesBelow count types)
closed_each count types = (
  λ each. (
    λ k d within.
        let inside : k < length types = omega (arith, length-enumerate_from 0 types) in
        let at = each k (get_or types k d.1) (slice_get-get_or types k d.1 inside) in
        let is = get_or-enumerate_from 0 types k d inside in
        subst (λ pair. pair.1.id ≡ pair.0) (sym is) (at.0 ∙ sym (zero-add k)),
    λ k d within. (each k (get_or types k d) (slice_get-get_or types k d within)).1,
  ),
  λ both k entry at.
      let inside : k < length types = slice_get_within types k entry at in
      let is = get_or_from_slice_get types k entry entry at in
      let long : k < length (enumerate_from 0 types) =
      omega (arith, length-enumerate_from 0 types) in
      let pair = get_or-enumerate_from 0 types k (0, entry) inside in
      let id : (get_or types k entry).id ≡ 0 + k =
      subst (λ p. p.1.id ≡ p.0) pair (both.0 k (0, entry) long) in (
        ap (λ e. e.id) (sym is) ∙ id ∙ zero-add k,
        subst (λ e. AreBelow count (references e.ty)) is (both.1 k entry inside),
      ),
)

-- where an answer says whether the entry at an offset is closed, it says so of the entry there
pub answer_at :
    (bytes offsets : List ℕ) (types : List PortableType) (index : ℕ) (answer : Bool)
    → index < length offsets
    → ((entry : PortableType) (rest : List ℕ)
    → HasPrefix (EncodesPortableType entry) (take (length bytes - get_or offsets index 0) (drop (get_or offsets index 0) bytes)) rest
    → (IsTrue answer ↔ IsClosedAt (length offsets) index entry))
    → AllZip (IsEntryAt bytes) types offsets
    → (entry : PortableType) × (slice_get types index ≡ Some entry)
    × (IsTrue answer ↔ IsClosedAt (length offsets) index entry)
answer_at bytes offsets types index answer within says at =
    let offset = get_or offsets index 0 in
    let there =
    entry_at bytes types offsets index offset at (slice_get-get_or offsets index 0 within) in (
      there.0,
      there.1,
      says there.0 there.2.rest
          (subst (λ t. HasPrefix (EncodesPortableType there.0) t there.2.rest) (sym (part_from bytes offset)) there.2.prefix),
    )

-- the entries with indices below the bound are closed, whichever begin at the offsets
abbrev pub AreClosedBelow : List ℕ → List ℕ → ℕ → Type 0
AreClosedBelow bytes offsets bound =
    (types : List PortableType) → AllZip (IsEntryAt bytes) types offsets
    → (k : ℕ) → k < bound → (entry : PortableType) → slice_get types k ≡ Some entry
    → IsClosedAt (length offsets) k entry

-- one more entry is closed
pub one_closed :
    (bytes offsets : List ℕ) (index : ℕ) (answer : Bool)
    → index < length offsets
    → ((entry : PortableType) (rest : List ℕ)
    → HasPrefix (EncodesPortableType entry) (take (length bytes - get_or offsets index 0) (drop (get_or offsets index 0) bytes)) rest
    → (IsTrue answer ↔ IsClosedAt (length offsets) index entry))
    → answer ≡ true → AreClosedBelow bytes offsets index → AreClosedBelow bytes offsets (index + 1)
one_closed bytes offsets index answer within says is below types at =
    let there = answer_at bytes offsets types index answer within says at in
    below_more
    (λ k. (entry : PortableType) → slice_get types k ≡ Some entry → IsClosedAt (length offsets) k entry)
    index (below types at)
    (λ entry found.
    let same : there.0 ≡ entry = same_Some there.0 entry (sym there.1 ∙ found) in
    subst (IsClosedAt (length offsets) index) same (there.2.0 is))

-- where all are closed, the answer that they are is right
pub all_closed :
    (bytes offsets : List ℕ) (bound : ℕ) (types : List PortableType)
    → length offsets ≤ bound → AreClosedBelow bytes offsets bound
    → AllZip (IsEntryAt bytes) types offsets
    → (IsTrue true ↔ (HasIndicesAsIds types × HasReferencesBelow (length types) types))
all_closed bytes offsets bound types past below at =
    let long = AllZip-long (IsEntryAt bytes) types offsets at in (
      λ yes. (closed_each (length types) types).0 (λ k entry found.
          let inside = slice_get_within types k entry found in
          subst (λ n. IsClosedAt n k entry) long (below types at k (omega arith) entry found)),
      λ closed. refl,
    )

-- where one is not closed, the answer that not all are is right
pub one_open :
    (bytes offsets : List ℕ) (index : ℕ) (answer : Bool) (types : List PortableType)
    → index < length offsets
    → ((entry : PortableType) (rest : List ℕ)
    → HasPrefix (EncodesPortableType entry) (take (length bytes - get_or offsets index 0) (drop (get_or offsets index 0) bytes)) rest
    → (IsTrue answer ↔ IsClosedAt (length offsets) index entry))
    → answer ≡ false → AllZip (IsEntryAt bytes) types offsets
    → (IsTrue false ↔ (HasIndicesAsIds types × HasReferencesBelow (length types) types))
one_open bytes offsets index answer types within says is at =
    let long = AllZip-long (IsEntryAt bytes) types offsets at in
    let there = answer_at bytes offsets types index answer within says at in (
      λ yes. absurd (false≢true yes),
      λ closed.
          let each = (closed_each (length types) types).1 closed index there.0 there.1 in
          absurd (false≢true (sym is ∙ there.2.1 (subst (λ n. IsClosedAt n index there.0) (sym long) each))),
    )
