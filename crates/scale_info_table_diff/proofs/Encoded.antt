-- Bytes that encode types, and why they are not compared.
use Rattle.std.proofs.Common.{◌≡◌, ◌∙◌, ◌+◌, ◌<◌, ◌≤◌, ◌++◌, ◌∷◌, ◌⊎◌, inl, inr, ℕ, Bool, true, false, List, []}
use Rattle.std.proofs.Common.{Option, Some, None, All, Contains, length, slice_get, if◌then◌else◌, option_map}
use Rattle.std.proofs.Common.{ap, sym, subst, refl, arith, append-nil, length-append}
use Rattle.std.proofs.lemmas.List.{nil_from_length}
use Rattle.std.proofs.lemmas.List.Elements.{All-append, All-cons, All-contains, All-nil}
use Rattle.std.proofs.lemmas.Option.{none-some, same_Some}
use Rattle.std.specs.List.{flat_map}
use Rattle.scale_info_bytes.specs.Encodings.{HasNoPrefix, IsEncoding}
use Rattle.scale_info_bytes.specs.Integers.{EncodesCompact, in_five, in_four, in_one, in_two}
use Rattle.scale_info_bytes.specs.PartLaws.{list_law}
use Rattle.scale_info_table_describe.specs.PathSearches.{indices_from}
use Rattle.scale_info_grammar.specs.Ty.{EncodesTypes}
use Rattle.scale_info_grammar.specs.TyLaws.{portable_type_law}
use Rattle.scale_info_numberings.proofs.Places.{at_seam, contains_at}
use Rattle.scale_info_numberings.proofs.FirstOutside.{outside_reached}
use Rattle.scale_info_numberings.specs.Systems.{Entry, IsFirstOutside, IsReached, next, root}
use Rattle.scale_info_table_prune.specs.SameTypes.{IsMatchError, IsTypesRenumberingError}
use Rattle.scale_info_table_prune.specs.TableIndexes.{HasTrailing}
use Rattle.scale_info_table_prune.specs.declared.prune.PruneError.{PruneError}
use Rattle.scale_info_table_prune.specs.declared.prune.PruneError.TheVariants.{Dangling, Malformed}
use Rattle.scale_info_table_prune.specs.declared.prune.PruneError.TheVariants.{Memory, NoSuchType}
use Rattle.scale_info_table_prune.specs.declared.prune.PruneError.TheVariants.{Trailing}
use Rattle.scale_info_table.specs.TableEncoding.{EncodesRegistry}
use Rattle.scale_info_types.specs.Portable.{Text}
use Rattle.scale_info_types.specs.Shapes.{Shape}
use Rattle.scale_info_types.specs.declared.ty.PortableType.{PortableType}
use Rattle.scale_info_walk.specs.TypeSystems.{entry_of, types_system}
use Rattle.scale_info_table_diff.specs.TableChanges.{IsCompareError, IsDangling}
use Rattle.scale_info_table_diff.specs.Comparisons.{AreCommonIds, own_ids}
use Rattle.scale_info_table_diff.specs.TypesByPath.{has_path, ids_of}

-- tables have one encoding
pub types_law : IsEncoding EncodesTypes
types_law = list_law portable_type_law

-- bytes encode one list of types
pub one_table :
    (types others : List PortableType) (bytes : List ℕ)
    → EncodesTypes types bytes → EncodesTypes others bytes → types ≡ others
one_table types others bytes x y = (types_law.prefix_free types others bytes bytes [] [] x y refl).1

-- bytes that encode types have a prefix that does
pub has_prefix :
    (types : List PortableType) (bytes : List ℕ)
    → EncodesTypes types bytes → HasNoPrefix EncodesTypes bytes → ⊥
has_prefix types bytes x h =
    h.none types [] (record { encoding = bytes; encodes = x; parts = sym (append-nil bytes) })

-- nothing comes after them
pub nothing_after :
    (types : List PortableType) (bytes encoding rest : List ℕ) (others : List PortableType)
    → EncodesTypes types bytes → EncodesTypes others encoding → bytes ≡ encoding ++ rest → rest ≡ []
nothing_after types bytes encoding rest others x y parts =
    let same =
    types_law.prefix_free types others bytes encoding [] rest x y (append-nil bytes ∙ parts) in
    let sizes = ap length parts ∙ length-append encoding rest in
    let long = ap length same.0 in
    nil_from_length rest (omega arith)

-- bytes that encode a table have no bytes after a table
pub no_trailing :
    (types : List PortableType) (bytes : List ℕ) → EncodesTypes types bytes → HasTrailing bytes → ⊥
no_trailing types bytes x h =
    h.more
    (nothing_after types bytes h.prefix.encoding h.rest h.types x h.prefix.encodes h.prefix.parts)

-- ---- the ids of a path are indices

listed_within :
    (b : Bool) (n bound : ℕ) (rest : List ℕ)
    → n < bound → All (λ id. id < bound) rest → All (λ id. id < bound) (if b then n ∷ rest else rest)
listed_within true n bound rest below all = All-cons (λ id. id < bound) n rest below all
listed_within false n bound rest below all = all

found_within :
    (test : List Text → Bool) (n bound : ℕ) (es : List PortableType)
    → n + length es ≡ bound → All (λ id. id < bound) (indices_from n test es)
found_within test n bound [] long = All-nil (λ id. id < bound)
found_within test n bound (e ∷ es) long =
    listed_within (test e.ty.path.segments) n bound (indices_from (n + 1) test es) (omega arith)
    (found_within test (n + 1) bound es (omega arith))

ids_within : (path : Text) (types : List PortableType) → All (λ id. id < length types) (ids_of path types)
ids_within path types = found_within (has_path path) 0 (length types) types (omega arith)

own_within :
    (bound : ℕ) (others ids : List ℕ)
    → All (λ id. id < bound) ids → All (λ id. id < bound) (own_ids others ids)
own_within bound [] ids all = All-nil (λ id. id < bound)
own_within bound (other ∷ others) ids all = all

joined_within :
    (bound : ℕ) (f : Text → List ℕ) (paths : List Text)
    → ((path : Text) → All (λ id. id < bound) (f path)) → All (λ id. id < bound) (flat_map f paths)
joined_within bound f [] all = All-nil (λ id. id < bound)
joined_within bound f (path ∷ paths) all =
    All-append (λ id. id < bound) (f path) (flat_map f paths) (all path)
    (joined_within bound f paths all)

-- ---- an id that is reached from indices and is none

-- what an option is, from what it is mapped to
pub mapped_some :
    {A B : Type 0} (f : A → B) (found : Option A) (y : B)
    → option_map f found ≡ Some y → (x : A) × (found ≡ Some x) × (f x ≡ y)
mapped_some f None y is = absurd (none-some y is)
mapped_some f (Some x) y is = (x, refl, same_Some (f x) y is)

module _ (types : List PortableType) where
  dangling :
      (ids : List ℕ) → All (λ id. id < length types) ids
      → (id : ℕ) → IsReached (types_system types) ids id → length types ≤ id → IsDangling types id
  dangling ids within _ (root id c k) outside =
      let below = All-contains (λ i. i < length types) ids id within c in absurd (omega arith)
  dangling ids within _ (next m id d h s c k) outside =
      let at = mapped_some entry_of (slice_get types m) d s in
      record {
        index = m;
        entry = at.0;
        found = at.1;
        refers = subst (λ (e : Entry Shape ℕ). Contains e.refs id) (sym at.2) c;
        outside = outside;
      }

-- why a table is not numbered from indices
abbrev IsDanglingError : List PortableType → PruneError → Type 0
IsDanglingError types (Dangling id) = IsDangling types id
IsDanglingError types Memory = Unit {0}
IsDanglingError types error = ⊥

one_error :
    (types : List PortableType) (ids : List ℕ) → All (λ id. id < length types) ids
    → (e : PruneError) → IsTypesRenumberingError types ids e → IsDanglingError types e
one_error types ids within Malformed h = h
one_error types ids within Trailing h = h
one_error types ids within (NoSuchType id) h =
    let there =
    contains_at ids id (length h.before)
    (subst (λ (xs : List ℕ). slice_get xs (length h.before) ≡ Some id) (sym h.parts) (at_seam h.before h.after id)) in
    let below = All-contains (λ i. i < length types) ids id within there in
    let past = h.outside in
    omega arith
one_error types ids within (Dangling id) h =
    dangling types ids within id (outside_reached _ [] ids id h.first) h.outside
one_error types ids within Memory h = h

either_error :
    (types others : List PortableType) (e : PruneError)
    → IsDanglingError types e ⊎ IsDanglingError others e → IsCompareError types others e
either_error types others (Dangling id) h = h
either_error types others Memory h = tt
either_error types others e h = elim h [ inl x ↦ x | inr x ↦ x ]

-- why tables are not compared by the ids that paths have in both
pub compare_error :
    (types others : List PortableType) (paths : List Text) (ids other_ids : List ℕ)
    → AreCommonIds types others paths ids other_ids
    → (e : PruneError) → IsMatchError types ids others other_ids e
    → IsCompareError types others e
compare_error types others paths ids other_ids common e h =
    let own =
    subst (λ (xs : List ℕ). All (λ id. id < length types) xs) (sym common.own)
    (joined_within (length types) (λ path. own_ids (ids_of path others) (ids_of path types)) paths
    (λ path. own_within (length types) (ids_of path others) (ids_of path types) (ids_within path types))) in
    let theirs =
    subst (λ (xs : List ℕ). All (λ id. id < length others) xs) (sym common.theirs)
    (joined_within (length others) (λ path. ids_of path others) paths (λ path. ids_within path others)) in
    either_error types others e
    (elim h [
      | inl a ↦ inl (one_error types ids own e a)
      | inr b ↦ inr (one_error others other_ids theirs e b.1)
    ])

-- where no prefix is a table, none is types
pub no_types : (bytes : List ℕ) → HasNoPrefix EncodesRegistry bytes → HasNoPrefix EncodesTypes bytes
no_types bytes h =
    record { none = λ types rest p. h.none (record { types = types }) rest p }

compact_fits : (n : ℕ) (b : List ℕ) → EncodesCompact n b → n ≤ 4294967295
compact_fits n b (in_one high e) = omega arith
compact_fits n b (in_two low high e) = omega arith
compact_fits n b (in_four low high e) = omega arith
compact_fits n b (in_five low high e) = omega arith

-- there are no more types than ids
pub few_types : (types : List PortableType) (bytes : List ℕ) → EncodesTypes types bytes → length types ≤ 4294967295
few_types types bytes x = compact_fits (length types) x.first x.encodes_first
