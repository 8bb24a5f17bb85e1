-- Types of paths, compared all at once.
use Rattle.std.proofs.Common.{◌≡◌, ◌≢◌, ◌↔◌, IsTrue, ◌∙◌, ◌++◌, ◌∷◌, ℕ, Bool, false, List, [], All, Contains, length}
use Rattle.std.proofs.Common.{eqb, ap, sym, subst, arith, append-nil, get_or, inl, inr}
use Rattle.std.proofs.lemmas.Bool.{false≢true}
use Rattle.std.proofs.lemmas.Bool.Decides.{Decides-eqb}
use Rattle.std.proofs.lemmas.List.Elements.{All-cons, All-head, All-nil, All-tail}
use Rattle.std.proofs.lemmas.Option.{none-some}
use Rattle.std.proofs.lemmas.Slice.Zip.{AllZip-long}
use Rattle.std.specs.List.{AllZip, flat_map}
use Rattle.scale_info_numberings.proofs.Places.{contains_cases, place_of}
use Rattle.scale_info_numberings.specs.Matches.{IsMatch, Pairs}
use Rattle.scale_info_table_prune.specs.SameTypes.{HaveMatch}
use Rattle.scale_info_types.specs.Portable.{Text}
use Rattle.scale_info_types.specs.declared.ty.PortableType.{PortableType}
use Rattle.scale_info_walk.specs.TypeSystems.{types_system}
use Rattle.scale_info_table_diff.proofs.CommonIds.{own, own_some, theirs}
use Rattle.scale_info_table_diff.proofs.MatchParts.{match_part}
use Rattle.scale_info_table_diff.specs.TableChanges.{AreSame}
use Rattle.scale_info_table_diff.specs.Comparisons.{AreCommonIds, HasSameCount, HaveOtherCounts, TellsSame}
use Rattle.scale_info_table_diff.specs.TypesByPath.{ids_of}

-- joined lists that are related place by place, the first parts of which are as long
split_zip :
    {A B : Type 0} (P : A → B → Type 0) (xs more : List A) (ys others : List B)
    → length xs ≡ length ys → AllZip P (xs ++ more) (ys ++ others)
    → AllZip P xs ys × AllZip P more others
split_zip P [] more [] others long z = (tt, z)
split_zip P [] more (y ∷ ys) others long z = absurd (omega (arith, long))
split_zip P (x ∷ xs) more [] others long z = absurd (omega (arith, long))
split_zip P (x ∷ xs) more (y ∷ ys) others long z =
    let rest = split_zip P xs more ys others (omega (arith, long)) z.1 in ((z.0, rest.0), rest.1)

-- the same of many
groups :
    {T A B : Type 0} (P : A → B → Type 0) (f : T → List A) (g : T → List B) (ts : List T)
    → All (λ t. length (f t) ≡ length (g t)) ts → AllZip P (flat_map f ts) (flat_map g ts)
    → All (λ t. AllZip P (f t) (g t)) ts
groups P f g [] long z = All-nil (λ t. AllZip P (f t) (g t))
groups P f g (t ∷ ts) long z =
    let parts =
    split_zip P (f t) (flat_map f ts) (g t) (flat_map g ts)
    (All-head (λ t. length (f t) ≡ length (g t)) t ts long) z in
    All-cons (λ t. AllZip P (f t) (g t)) t ts parts.0
    (groups P f g ts (All-tail (λ t. length (f t) ≡ length (g t)) t ts long) parts.1)

module _ (types others : List PortableType) where
  -- no path has changed, where all match at once
  none_changed :
      (paths : List Text) (pairs : List (ℕ × ℕ)) → All (HasSameCount types others) paths
      → IsMatch (types_system types) (flat_map (own types others) paths) (types_system others) (flat_map (theirs types others) paths) pairs
      → All (λ path. ids_of path others ≢ [] → AreSame types others path) paths
  none_changed paths pairs counts m =
      let each = groups (λ n p. Pairs pairs n p) (own types others) (theirs types others) paths counts m.in_order in
      λ k d within some.
      let path = get_or paths k d in
      match_part (types_system types) (flat_map (own types others) paths) (types_system others) (flat_map (theirs types others) paths) pairs m
      (ids_of path types) (ids_of path others)
      (subst (λ xs. AllZip (λ n p. Pairs pairs n p) xs (ids_of path others))
      (own_some (ids_of path types) (ids_of path others) some) (each k d within))
      eqb Decides-eqb

  -- what a comparison of all says
  pub tells_same :
      (paths : List Text) (ids other_ids : List ℕ) (same : Bool)
      → AreCommonIds types others paths ids other_ids
      → (IsTrue same ↔ HaveMatch types ids others other_ids) → TellsSame types others paths same
  tells_same paths ids other_ids same common tells = record {
    all = λ yes.
        let found = tells.0 yes in
        none_changed paths found.0 common.counts
        (subst (λ xs. IsMatch (types_system types) (flat_map (own types others) paths) (types_system others) xs found.0)
        common.theirs
        (subst (λ xs. IsMatch (types_system types) xs (types_system others) other_ids found.0)
        common.own found.1));
    one = λ isnt path only some match.
        let is_own : ids ≡ ids_of path types =
        common.own ∙ ap (flat_map (own types others)) only ∙ append-nil (own types others path)
        ∙ own_some (ids_of path types) (ids_of path others) some in
        let is_theirs : other_ids ≡ ids_of path others =
        common.theirs ∙ ap (flat_map (theirs types others)) only ∙ append-nil (theirs types others path) in
        false≢true (sym isnt ∙ tells.1 (
          match.0,
          subst (λ xs. IsMatch (types_system types) xs (types_system others) other_ids match.0) (sym is_own)
              (subst (λ xs. IsMatch (types_system types) (ids_of path types) (types_system others) xs match.0)
              (sym is_theirs) match.1),
        ));
  }

  -- where one has another number of types, they are not the same
  pub other_counts :
      (paths : List Text) → HaveOtherCounts types others paths → TellsSame types others paths false
  other_counts paths h =
      record {
        all = λ yes. absurd (false≢true yes);
        one = λ isnt path only some match.
            let there : Contains (path ∷ []) h.path =
            subst (λ ps. Contains ps h.path) only h.one in
            elim (contains_cases path [] h.path there) [
              | inl same ↦
                  h.other
                  (subst (HasSameCount types others) same
                  (ap length (own_some (ids_of path types) (ids_of path others) some)
                  ∙ sym (AllZip-long (λ n p. Pairs match.0 n p) (ids_of path types) (ids_of path others) match.1.in_order)))
              | inr more ↦ none-some h.path (place_of [] h.path more).1
            ];
      }
