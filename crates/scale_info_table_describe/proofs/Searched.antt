-- Lemmas on lists of ids that are found by paths.
use Rattle.std.proofs.Common.{◌≡◌, ◌+◌, ◌++◌, ◌∷◌, ◌<◌, ◌≤◌, ◌∙◌, ℕ, zero, suc, Bool, true, false, ◌||◌, List, [], length}
use Rattle.std.proofs.Common.{get_or, drop, map, ap, sym, refl, arith, append_assoc, append-nil}
use Rattle.std.proofs.lemmas.List.{drop_more, drop_all}
use Rattle.scale_info_segments.specs.TypePaths.{IsPieces, StaticTexts, replaced, texts}
use Rattle.scale_info_types.specs.Portable.{Text}
use Rattle.scale_info_types.specs.declared.ty.PortableType.{PortableType}
use Rattle.scale_info_table_describe.specs.PathSearches.{begins_with, indices_from, stands_in}

-- without pairs that replace them, pieces stay
pub replaced_by_none : (pieces : List Text) → map (replaced []) pieces ≡ pieces
replaced_by_none [] = refl
replaced_by_none (p ∷ ps) = ap (λ qs. p ∷ qs) (replaced_by_none ps)

-- texts that are the pieces, which nothing replaced, are the pieces
pub pieces_are :
    (text : List ℕ) (all : StaticTexts)
    → ((pieces : List Text) × IsPieces text pieces × (texts all ≡ map (replaced []) pieces))
    → IsPieces text (texts all)
pieces_are text all (pieces, is, same) =
    rw (same ∙ replaced_by_none pieces) is

module _ (test : List Text → Bool) (types : List PortableType) (i : ℕ) (e : PortableType)
    (done : List ℕ) (within : i < length types) (here : e ≡ get_or types i e)
    (so_far : done ++ indices_from i test (drop i types) ≡ indices_from 0 test types) where
  opened :
      done ++ indices_from i test (e ∷ drop (i + 1) types) ≡ indices_from 0 test types
  opened =
      ap (λ x. done ++ indices_from i test (x ∷ drop (i + 1) types)) here
      ∙ ap (λ xs. done ++ indices_from i test xs) (sym (drop_more types i e within))
      ∙ so_far

  -- one more entry, whose path passes the test
  pub one_found :
      (longer : List ℕ) → test e.ty.path.segments ≡ true → longer ≡ done ++ i ∷ []
      → longer ++ indices_from (i + 1) test (drop (i + 1) types) ≡ indices_from 0 test types
  one_found longer passes is =
      ap (λ xs. xs ++ indices_from (i + 1) test (drop (i + 1) types)) is
      ∙ append_assoc done (i ∷ []) (indices_from (i + 1) test (drop (i + 1) types))
      ∙ (rw passes at opened)

  -- one more entry, whose path does not
  pub one_other :
      test e.ty.path.segments ≡ false
      → done ++ indices_from (i + 1) test (drop (i + 1) types) ≡ indices_from 0 test types
  one_other fails = rw fails at opened

-- no path without segments begins with one
pub none_begins :
    (segments : StaticTexts) (i : ℕ)
    → i < length segments → begins_with (texts (drop i segments)) [] ≡ false
none_begins [] i within = absurd (omega (arith, within))
none_begins (s ∷ segments) zero within = refl
none_begins (s ∷ segments) (suc i) within = none_begins segments i (omega (arith, within))

-- segments with which the path does not begin from here on stand in it later, if at all
pub one_further :
    (pattern path : List Text) (i : ℕ)
    → i < length path
    → begins_with pattern (drop i path) ≡ false
    → stands_in pattern (drop i path) ≡ stands_in pattern (drop (i + 1) path)
one_further pattern path i within fails =
    let cons = drop_more path i [] within in
    ap (stands_in pattern) cons
    ∙ ap (λ b. b || stands_in pattern (drop (i + 1) path))
    (ap (begins_with pattern) (sym cons) ∙ fails)

-- past the last entry all are found
pub all_found :
    (test : List Text → Bool) (types : List PortableType) (i : ℕ) (done : List ℕ)
    → length types ≤ i
    → done ++ indices_from i test (drop i types) ≡ indices_from 0 test types
    → done ≡ indices_from 0 test types
all_found test types i done past so_far =
    sym (append-nil done) ∙ ap (λ xs. done ++ indices_from i test xs) (sym (drop_all i types past))
    ∙ so_far
