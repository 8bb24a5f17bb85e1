-- Cycles, a self reference, and a reference that lies outside.
use Rattle.std.proofs.Common.{Contains, List, Some, [], ap, arith, inl, inr, length, refl, rules}
use Rattle.std.proofs.Common.{slice_index, subst, suc, sym, zero, ℕ, ◌∙◌, ◌∷◌, ◌≡◌, ◌⊎◌}
use Rattle.std.proofs.lemmas.Option.{none-some, same_Some}
use Rattle.std.proofs.lemmas.Slice.Zip.{AllZip-long}
use Rattle.std.specs.List.{AllZip}
use Rattle.scale_info_numberings.proofs.Extensions.{one_numbering}
use Rattle.scale_info_numberings.proofs.ByEnumeration.{not_contained, numbering_listed}
use Rattle.scale_info_numberings.proofs.Matches.{match_image, match_numbering}
use Rattle.scale_info_numberings.proofs.Places.{contains_cases, contains_head, contains_tail}
use Rattle.scale_info_numberings.proofs.Reached.{numbering_inside}
use Rattle.scale_info_numberings.specs.NumberingExamples.{cycle_of_three, cycle_of_two, entry}
use Rattle.scale_info_numberings.specs.NumberingExamples.{leads_inside}
use Rattle.scale_info_numberings.specs.NumberingExamples.{leads_outside, self_reference}
use Rattle.scale_info_numberings.specs.Matches.{AreAlike, IsMatch, Pairs}
use Rattle.scale_info_numberings.specs.Numberings.{IsNumbering, IsNumberingWith}
use Rattle.scale_info_numberings.specs.Systems.{Entry, IsFirstOutside, IsReached, after_node, here}
use Rattle.scale_info_numberings.specs.Systems.{next, root}
use Rattle.scale_info_numberings.specs.Unfoldings.{no_trees, node, tree, unfold_to}

-- from 2 on to 0 and 1
pub cycle_numbered : IsNumberingWith cycle_of_three (2 ∷ []) (2 ∷ 0 ∷ 1 ∷ []) (3 ∷ 3 ∷ 3 ∷ [])
cycle_numbered =
    numbering_listed cycle_of_three (2 ∷ 0 ∷ 1 ∷ []) (3 ∷ 3 ∷ 3 ∷ []) (2 ∷ [])
    (search (rules, arith))
    refl
    (search (rules, arith))
    (3, inr (refl, refl), refl) (
      (entry 7 (0 ∷ []), refl, (3, inr (refl, refl), refl)),
      ((entry 7 (1 ∷ []), refl, (3, inr (refl, refl), refl)), ((entry 7 (2 ∷ []), refl, (3, inl (0, omega arith, refl, refl), refl)), tt)),
    )

-- place 0 would hold both 0 and 2
pub cycle_not_ascending : ¬ (IsNumbering cycle_of_three (2 ∷ []) (0 ∷ 1 ∷ 2 ∷ []))
cycle_not_ascending x =
    let e =
    one_numbering cycle_of_three (2 ∷ []) (0 ∷ 1 ∷ 2 ∷ []) (2 ∷ 0 ∷ 1 ∷ []) x
    (3 ∷ 3 ∷ 3 ∷ [], cycle_numbered) in
    let first : ◌≡◌ {A = ℕ} 0 2 = ap (λ (L : List ℕ). slice_index L 0) e in
    omega arith

-- its reference is known when it is looked at
pub self_once : IsNumberingWith self_reference (0 ∷ []) (0 ∷ []) (1 ∷ [])
self_once =
    numbering_listed self_reference (0 ∷ []) (1 ∷ []) (0 ∷ []) (tt, tt) refl
    (λ h. (omega arith, omega arith), tt) (1, inr (refl, refl), refl)
    ((entry 7 (0 ∷ []), refl, (1, inl (0, omega arith, refl, refl), refl)), tt)

-- the second root is known
pub self_twice : IsNumberingWith self_reference (0 ∷ 0 ∷ []) (0 ∷ []) (1 ∷ [])
self_twice =
    numbering_listed self_reference (0 ∷ []) (1 ∷ []) (0 ∷ 0 ∷ []) (tt, tt) refl
    (λ h. (omega arith, omega arith), tt)
    (1, inr (refl, refl), (1, inl (0, omega arith, refl, refl), refl)) ((entry 7 (0 ∷ []), refl, (1, inl (0, omega arith, refl, refl), refl)), tt)

-- without roots there is nothing to number
pub nothing_numbered : IsNumberingWith self_reference [] [] []
nothing_numbered = numbering_listed self_reference [] [] [] tt refl tt refl tt

-- the numbering without roots is empty
pub self_unreached : ¬ (IsNumbering self_reference [] (0 ∷ []))
self_unreached x =
    let e = one_numbering self_reference [] (0 ∷ []) [] x ([], nothing_numbered) in
    let lengths : ◌≡◌ {A = ℕ} 1 0 = ap (λ (L : List ℕ). length L) e in
    omega arith

-- by the reference of 0
pub two_reached : IsReached leads_outside (0 ∷ []) 2
two_reached =
    next 0 2 (entry 7 (2 ∷ [])) (root 0 (contains_head 0 []) (not_contained 0 [] tt)) refl
    (contains_head 2 []) (not_contained 2 [] tt)

-- after 1, which refers to nothing, and 0
pub two_first : IsFirstOutside leads_outside [] (1 ∷ 0 ∷ []) 2
two_first =
    let zero_new : ¬ (Contains (1 ∷ []) 0) = not_contained 0 (1 ∷ []) (zero_apart, tt) in
    let two_new : ¬ (Contains (1 ∷ 0 ∷ []) 2) =
    not_contained 2 (1 ∷ 0 ∷ []) (two_apart, (two_off, tt)) in
    after_node [] (0 ∷ []) 1 2 (entry 7 []) (not_contained 1 [] tt) refl
    (after_node (1 ∷ []) [] 0 2 (entry 7 (2 ∷ [])) zero_new refl
    (here (1 ∷ 0 ∷ []) [] 2 two_new refl))
  where
    zero_apart : ◌≡◌ {A = ℕ} 0 1 → ⊥
    zero_apart e = omega arith

    two_apart : ◌≡◌ {A = ℕ} 2 1 → ⊥
    two_apart e = omega arith

    two_off : ◌≡◌ {A = ℕ} 2 0 → ⊥
    two_off e = omega arith

-- a numbering would have 2 in the system
pub none_from_zero : (L : List ℕ) → ¬ (IsNumbering leads_outside (0 ∷ []) L)
none_from_zero L x =
    let d = numbering_inside leads_outside (0 ∷ []) L x 2 two_reached in none-some d.0 d.1

-- 1 refers to nothing
pub one_numbered : IsNumberingWith leads_outside (1 ∷ []) (1 ∷ []) (1 ∷ [])
one_numbered =
    numbering_listed leads_outside (1 ∷ []) (1 ∷ []) (1 ∷ []) (tt, tt) refl
    (λ h. (omega arith, omega arith), tt) (1, inr (refl, refl), refl)
    ((entry 7 [], refl, refl), tt)

-- the self reference and the cycle of two

two_numbered : IsNumberingWith cycle_of_two (0 ∷ []) (0 ∷ 1 ∷ []) (2 ∷ 2 ∷ [])
two_numbered =
    numbering_listed cycle_of_two (0 ∷ 1 ∷ []) (2 ∷ 2 ∷ []) (0 ∷ [])
    ((λ e. omega arith, tt), (tt, tt)) refl
    (search (rules, arith)) (2, inr (refl, refl), refl)
    ((entry 7 (1 ∷ []), refl, (2, inr (refl, refl), refl)), ((entry 7 (0 ∷ []), refl, (2, inl (0, omega arith, refl, refl), refl)), tt))

two_unfold :
    (depth : ℕ)
    → (unfold_to depth self_reference 0 ≡ unfold_to depth cycle_of_two 0)
    × (unfold_to depth self_reference 0 ≡ unfold_to depth cycle_of_two 1)
two_unfold zero = (refl, refl)
two_unfold (suc depth) =
    let below = two_unfold depth in
    (ap (λ t. node 7 (tree t no_trees)) below.1, ap (λ t. node 7 (tree t no_trees)) below.0)

-- neither shows how many nodes there are
pub unfold_alike : (depth : ℕ) → unfold_to depth self_reference 0 ≡ unfold_to depth cycle_of_two 0
unfold_alike depth = (two_unfold depth).0

-- a match would take a list of one node to one of two
pub no_match_of_loops :
    ¬ ((pairs : List (ℕ × ℕ)) × IsMatch self_reference (0 ∷ []) cycle_of_two (0 ∷ []) pairs)
no_match_of_loops m =
    let image =
    match_image self_reference (0 ∷ []) cycle_of_two (0 ∷ []) m.0 (0 ∷ []) m.1
    (1 ∷ [], self_once) in
    let moved =
    match_numbering self_reference (0 ∷ []) cycle_of_two (0 ∷ []) m.0 (0 ∷ []) image.0 m.1
    (1 ∷ [], self_once) image.1 in
    let e =
    one_numbering cycle_of_two (0 ∷ []) image.0 (0 ∷ 1 ∷ []) moved (2 ∷ 2 ∷ [], two_numbered) in
    let long : ◌≡◌ {A = ℕ} 1 2 =
    sym (AllZip-long (λ (n p : ℕ). Pairs m.0 n p) (0 ∷ []) image.0 image.1)
    ∙ ap (λ (L : List ℕ). length L) e in
    omega arith

-- matches where a name lies outside

zero_or_two : (n : ℕ) → IsReached leads_outside (0 ∷ []) n → (0 ≡ n) ⊎ (2 ≡ n)
zero_or_two n (root m c u) = elim (contains_cases 0 [] n c) [ inl e ↦ inl e | inr k ↦ absurd (not_contained n [] tt k) ]
zero_or_two n (next m k d h s c u) =
    elim (zero_or_two m h) [
      | inl e ↦
          let same : entry 7 (2 ∷ []) ≡ d =
          same_Some (entry 7 (2 ∷ [])) d (subst (λ z. leads_outside z ≡ Some d) (sym e) s) in
          let k : Contains (2 ∷ []) n = subst (λ (z : Entry ℕ ℕ). Contains z.refs n) (sym same) c in
          elim (contains_cases 2 [] n k) [ inl q ↦ inr q | inr k ↦ absurd (not_contained n [] tt k) ]
      | inr e ↦ absurd (none-some d (subst (λ z. leads_outside z ≡ Some d) (sym e) s))
    ]

abbrev to_itself : List (ℕ × ℕ)
to_itself = (0, 0) ∷ (2, 2) ∷ []

-- a pair takes 0 to 0 or 2 to 2
to_same : (n p : ℕ) → Pairs to_itself n p → ((0 ≡ n) × (0 ≡ p)) ⊎ ((2 ≡ n) × (2 ≡ p))
to_same n p c =
    elim (contains_cases {A = ℕ × ℕ} (0, 0) ((2, 2) ∷ []) (n, p) c) [
      | inl e ↦ inl (ap (λ (q : ℕ × ℕ). q.0) e, ap (λ (q : ℕ × ℕ). q.1) e)
      | inr k ↦
          elim (contains_cases {A = ℕ × ℕ} (2, 2) [] (n, p) k) [
            | inl e ↦ inr (ap (λ (q : ℕ × ℕ). q.0) e, ap (λ (q : ℕ × ℕ). q.1) e)
            | inr k ↦ absurd (not_contained {A = ℕ × ℕ} (n, p) [] tt k)
          ]
    ]

zero_paired : Pairs to_itself 0 0
zero_paired = contains_head {A = ℕ × ℕ} (0, 0) ((2, 2) ∷ [])

two_paired : Pairs to_itself 2 2
two_paired =
    contains_tail {A = ℕ × ℕ} (0, 0) ((2, 2) ∷ []) (2, 2) (contains_head {A = ℕ × ℕ} (2, 2) [])

paired_with_itself :
    (n : ℕ)
    → IsReached leads_outside (0 ∷ []) n → (p : ℕ) × Pairs to_itself n p × Pairs to_itself p n
paired_with_itself n h =
    elim (zero_or_two n h) [
      | inl e ↦ subst (λ m. (p : ℕ) × Pairs to_itself m p × Pairs to_itself p m) e (0, zero_paired, zero_paired)
      | inr e ↦ subst (λ m. (p : ℕ) × Pairs to_itself m p × Pairs to_itself p m) e (2, two_paired, two_paired)
    ]

zero_reached : IsReached leads_outside (0 ∷ []) 0
zero_reached = root 0 (contains_head 0 []) (not_contained 0 [] tt)

-- each name is taken to itself
pub match_outside : IsMatch leads_outside (0 ∷ []) leads_outside (0 ∷ []) to_itself
match_outside =
    record {
      reached = λ n p c.
          elim (to_same n p c) [
            | inl e ↦
                (subst (λ z. IsReached leads_outside (0 ∷ []) z) e.0 zero_reached, subst (λ z. IsReached leads_outside (0 ∷ []) z) e.1 zero_reached)
            | inr e ↦
                (subst (λ z. IsReached leads_outside (0 ∷ []) z) e.0 two_reached, subst (λ z. IsReached leads_outside (0 ∷ []) z) e.1 two_reached)
          ];
      all_left = λ n h. let p = paired_with_itself n h in (p.0, p.1);
      all_right = λ p h. let n = paired_with_itself p h in (n.0, n.2);
      one_right =
          λ n p q a b.
          let x : n ≡ p = alike_places n p (to_same n p a) in let y : n ≡ q = alike_places n q (to_same n q b) in omega arith;
      one_left =
          λ n m p a b.
          let x : n ≡ p = alike_places n p (to_same n p a) in let y : m ≡ p = alike_places m p (to_same m p b) in omega arith;
      alike = λ n p c.
          elim (to_same n p c) [
            | inl e ↦
                inr (
                subst (λ m. AreAlike leads_outside leads_outside to_itself m p) e.0
                (subst (λ m. AreAlike leads_outside leads_outside to_itself 0 m) e.1
                (entry 7 (2 ∷ []), entry 7 (2 ∷ []), refl, refl, refl, (two_paired, tt)))
                )
            | inr e ↦ inl (sym (ap (λ z. leads_outside z) e.0), sym (ap (λ z. leads_outside z) e.1))
          ];
      in_order = (zero_paired, tt);
    }
  where
    alike_places : (n p : ℕ) → ((0 ≡ n) × (0 ≡ p)) ⊎ ((2 ≡ n) × (2 ≡ p)) → n ≡ p
    alike_places n p s = elim s [ inl e ↦ omega arith | inr e ↦ omega arith ]

-- 2 would be taken to 1, which lies inside
pub no_match_inside :
    ¬ ((pairs : List (ℕ × ℕ)) × IsMatch leads_outside (0 ∷ []) leads_inside (0 ∷ []) pairs)
no_match_inside m =
    elim (m.1.alike 0 0 m.1.in_order.0) [
      | inl o ↦ none-some (entry 7 (2 ∷ [])) (sym o.0)
      | inr a ↦
          let d : a.0 ≡ entry 7 (2 ∷ []) = sym (same_Some (entry 7 (2 ∷ [])) a.0 a.2) in
          let e : a.1 ≡ entry 7 (1 ∷ []) = sym (same_Some (entry 7 (1 ∷ [])) a.1 a.3) in
          let refs : AllZip (λ (r q : ℕ). Pairs m.0 r q) (2 ∷ []) (1 ∷ []) =
          subst (λ (z : Entry ℕ ℕ). AllZip (λ (r q : ℕ). Pairs m.0 r q) (2 ∷ []) z.refs) e
          (subst (λ (z : Entry ℕ ℕ). AllZip (λ (r q : ℕ). Pairs m.0 r q) z.refs a.1.refs) d a.5) in
          elim (m.1.alike 2 1 refs.0) [ inl o ↦ none-some (entry 7 []) (sym o.1) | inr b ↦ none-some b.0 b.2 ]
    ]
