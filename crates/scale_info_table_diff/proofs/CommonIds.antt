-- The ids of paths in both tables, path by path.
use Rattle.std.proofs.Common.{◌≡◌, ◌≢◌, ◌∙◌, ◌++◌, ◌∷◌, ◌<◌, ◌==◌, inl, inr, ℕ, zero, suc, Bool, true, false, List, [], All, Contains, length, map, get_or, drop, ◌+◌}
use Rattle.std.proofs.Common.{ap, sym, subst, refl, arith, append-nil, append_assoc}
use Rattle.std.proofs.lemmas.Bool.{false≢true}
use Rattle.std.proofs.lemmas.Bool.Decides.{eqb_tells}
use Rattle.std.proofs.lemmas.List.{drop_more, nil_from_length}
use Rattle.std.proofs.lemmas.List.Elements.{All-cons, All-nil}
use Rattle.std.proofs.lemmas.Option.{slice_get-get_or}
use Rattle.std.specs.List.{flat_map}
use Rattle.scale_info_numberings.proofs.Places.{contains_head, contains_tail}
use Rattle.scale_info_numberings.proofs.Zip.{zip_at}
use Rattle.scale_info_types.specs.Portable.{Text}
use Rattle.scale_info_types.specs.declared.ty.PortableType.{PortableType}
use Rattle.scale_info_table_diff.proofs.AddedIds.{row_at}
use Rattle.scale_info_table_diff.specs.Comparisons.{AreCommonIds, HasSameCount, own_ids}
use Rattle.scale_info_table_diff.specs.Differing.{unmarked}
use Rattle.scale_info_table_diff.specs.TypesByPath.{AreIdsByPath, ids_of}

module _ (types others : List PortableType) where
  abbrev pub own : Text → List ℕ
  own path = own_ids (ids_of path others) (ids_of path types)

  abbrev pub theirs : Text → List ℕ
  theirs path = ids_of path others

-- the ids so far, followed by those of the paths that are left, are those of all; and each path has
-- as many types in both tables, if those that are left have
pub record IsCommonSoFar (types others : List PortableType) (paths left : List Text)
    (common other_ids : List ℕ) : Type 0 where
  pub counts : All (HasSameCount types others) left → All (HasSameCount types others) paths
  pub own_so_far : common ++ flat_map (own types others) left ≡ flat_map (own types others) paths
  pub theirs_so_far : other_ids ++ flat_map (theirs types others) left ≡ flat_map (theirs types others) paths

-- a path without a mark is one of those
among_unmarked :
    (paths : List Text) (marks : List Bool) (i : ℕ) (p : Text) (m : Bool)
    → i < length paths → length marks ≡ length paths → get_or marks i m ≡ false
    → Contains (unmarked paths marks) (get_or paths i p)
among_unmarked [] marks i p m within long is = absurd (omega (arith, within))
among_unmarked (q ∷ paths) [] i p m within long is = absurd (omega (arith, long))
among_unmarked (q ∷ paths) (true ∷ marks) zero p m within long is = absurd (false≢true (sym is))
among_unmarked (q ∷ paths) (false ∷ marks) zero p m within long is = contains_head q (unmarked paths marks)
among_unmarked (q ∷ paths) (true ∷ marks) (suc i) p m within long is =
    among_unmarked paths marks i p m (omega (arith, within)) (omega (arith, long)) is
among_unmarked (q ∷ paths) (false ∷ marks) (suc i) p m within long is =
    contains_tail q (unmarked paths marks) (get_or paths i p)
    (among_unmarked paths marks i p m (omega (arith, within)) (omega (arith, long)) is)

-- before the first path
pub at_start :
    (types others : List PortableType) (paths : List Text) → IsCommonSoFar types others paths paths [] []
at_start types others paths = record { counts = λ all. all; own_so_far = refl; theirs_so_far = refl }

-- the paths without a mark from a place on, by the path and the mark there
left_at :
    (paths : List Text) (marks : List Bool) (i : ℕ) (p : Text) (m b : Bool)
    → i < length paths → length marks ≡ length paths → get_or marks i m ≡ b
    → unmarked (drop i paths) (drop i marks)
    ≡ unmarked (get_or paths i p ∷ drop (i + 1) paths) (b ∷ drop (i + 1) marks)
left_at paths marks i p m b within long is =
    ap (λ ps. unmarked ps (drop i marks)) (drop_more paths i p within)
    ∙ ap (λ ms. unmarked (get_or paths i p ∷ drop (i + 1) paths) ms) (drop_more marks i m (omega (arith, long)))
    ∙ ap (λ x. unmarked (get_or paths i p ∷ drop (i + 1) paths) (x ∷ drop (i + 1) marks)) is

module _ (types others : List PortableType) (paths : List Text) (marks : List Bool) (i : ℕ) (p : Text) (m : Bool)
    (common other_ids : List ℕ) (within : i < length paths) (long : length marks ≡ length paths)
    (x : IsCommonSoFar types others (unmarked paths marks) (unmarked (drop i paths) (drop i marks)) common other_ids) where
  -- a path with a mark
  pub after_mark :
      get_or marks i m ≡ true
      → IsCommonSoFar types others (unmarked paths marks) (unmarked (drop (i + 1) paths) (drop (i + 1) marks)) common other_ids
  after_mark is =
      subst (λ ps. IsCommonSoFar types others (unmarked paths marks) ps common other_ids) (left_at paths marks i p m true within long is) x

  -- the next path without one, before those after it
  pub at_path :
      get_or marks i m ≡ false
      → IsCommonSoFar types others (unmarked paths marks)
      (get_or paths i p ∷ unmarked (drop (i + 1) paths) (drop (i + 1) marks)) common other_ids
  at_path is =
      subst (λ ps. IsCommonSoFar types others (unmarked paths marks) ps common other_ids) (left_at paths marks i p m false within long is) x

  -- such a path is one of those without one
  pub is_unmarked : get_or marks i m ≡ false → Contains (unmarked paths marks) (get_or paths i p)
  is_unmarked is = among_unmarked paths marks i p m within long is

-- after the last path
pub at_end :
    (types others : List PortableType) (paths left : List Text) (common other_ids : List ℕ)
    → left ≡ [] → IsCommonSoFar types others paths left common other_ids
    → AreCommonIds types others paths common other_ids
at_end types others paths left common other_ids none x =
    let y = subst (λ ps. IsCommonSoFar types others paths ps common other_ids) none x in
    record {
      counts = y.counts (All-nil (HasSameCount types others));
      own = sym (append-nil common) ∙ y.own_so_far;
      theirs = sym (append-nil other_ids) ∙ y.theirs_so_far;
    }

own_none : (ids other_ids : List ℕ) → other_ids ≡ [] → own_ids other_ids ids ≡ []
own_none ids other_ids none = ap (λ is. own_ids is ids) none

-- where the other table has ids of a path, those of the first one count
pub own_some : (ids other_ids : List ℕ) → other_ids ≢ [] → own_ids other_ids ids ≡ ids
own_some ids [] some = absurd (some refl)
own_some ids (i ∷ is) some = refl

module _ (types others : List PortableType) (paths : List Text) (path : Text) (left : List Text)
    (common other_ids : List ℕ)
    (x : IsCommonSoFar types others paths (path ∷ left) common other_ids) where
  -- a path that the new table has not
  pub after_none : ids_of path others ≡ [] → IsCommonSoFar types others paths left common other_ids
  after_none none =
      let mine = own_none (ids_of path types) (ids_of path others) none in
      record {
        counts = λ all.
            x.counts (All-cons (HasSameCount types others) path left (ap length mine ∙ sym (ap length none)) all);
        own_so_far =
            ap (λ is. common ++ (is ++ flat_map (own types others) left)) (sym mine) ∙ x.own_so_far;
        theirs_so_far =
            ap (λ is. other_ids ++ (is ++ flat_map (theirs types others) left)) (sym none) ∙ x.theirs_so_far;
      }

  -- a path that it has as often
  pub after_some :
      (row there common_after other_after : List ℕ)
      → row ≡ ids_of path types → there ≡ ids_of path others → there ≢ []
      → length there ≡ length row
      → common_after ≡ common ++ row → other_after ≡ other_ids ++ there
      → IsCommonSoFar types others paths left common_after other_after
  after_some row there common_after other_after is_row is_there some long is_common is_other =
      let mine : own types others path ≡ row =
      own_some (ids_of path types) (ids_of path others) (λ e. some (is_there ∙ e)) ∙ sym is_row in
      record {
        counts = λ all.
            x.counts
            (All-cons (HasSameCount types others) path left
            (ap length mine ∙ sym long ∙ ap length is_there) all);
        own_so_far =
            ap (λ is. is ++ flat_map (own types others) left) is_common
            ∙ append_assoc common row (flat_map (own types others) left)
            ∙ ap (λ is. common ++ (is ++ flat_map (own types others) left)) (sym mine) ∙ x.own_so_far;
        theirs_so_far =
            ap (λ is. is ++ flat_map (theirs types others) left) is_other
            ∙ append_assoc other_ids there (flat_map (theirs types others) left)
            ∙ ap (λ is. other_ids ++ (is ++ flat_map (theirs types others) left)) is_there ∙ x.theirs_so_far;
      }

  -- a path that it has, but not as often
  pub other_count :
      (row there : List ℕ) → row ≡ ids_of path types → there ≡ ids_of path others → there ≢ []
      → length there ≢ length row → HasSameCount types others path → ⊥
  other_count row there is_row is_there some other same =
      let mine : own types others path ≡ row =
      own_some (ids_of path types) (ids_of path others) (λ e. some (is_there ∙ e)) ∙ sym is_row in
      other (ap length is_there ∙ sym same ∙ ap length mine)

-- ---- lists that are tested for being empty

-- a list whose length is 0 is empty
pub is_none : {A : Type 0} (xs : List A) (b : Bool) → b ≡ (length xs == 0) → b ≡ true → xs ≡ []
is_none xs b is holds =
    elim (eqb_tells (length xs) 0) [
      | inl h ↦ nil_from_length xs h.1
      | inr h ↦ absurd (false≢true (sym h.0 ∙ sym is ∙ holds))
    ]

-- one whose length is another is not
pub is_some : {A : Type 0} (xs : List A) (b : Bool) → b ≡ (length xs == 0) → b ≡ false → xs ≢ []
is_some xs b is fails none =
    elim (eqb_tells (length xs) 0) [
      | inl h ↦ false≢true (sym fails ∙ is ∙ h.0)
      | inr h ↦ h.1 (ap length none)
    ]

-- the ids of a path, among those of all
pub row_of :
    {V : Type 0} (row : V → List ℕ) (types : List PortableType) (paths : List Text) (vs : List V)
    (i : ℕ) (p : Text) (v : V)
    → i < length paths → length vs ≡ length paths → AreIdsByPath types paths (map row vs)
    → row (get_or vs i v) ≡ ids_of (get_or paths i p) types
row_of row types paths vs i p v within long are =
    zip_at (λ path r. r ≡ ids_of path types) paths (map row vs) are i (get_or paths i p) (row (get_or vs i v))
    (slice_get-get_or paths i p within)
    (row_at row vs i (get_or vs i v) (slice_get-get_or vs i v (omega (arith, long))))

-- ids that are passed on
pub given_ids :
    (types others : List PortableType) (paths : List Text) (ids given other_ids other_given : List ℕ)
    → given ≡ ids → other_given ≡ other_ids
    → AreCommonIds types others paths ids other_ids → AreCommonIds types others paths given other_given
given_ids types others paths ids given other_ids other_given is are x =
    subst (λ (xs : List ℕ). AreCommonIds types others paths xs other_given) (sym is)
    (subst (λ (xs : List ℕ). AreCommonIds types others paths ids xs) (sym are) x)
