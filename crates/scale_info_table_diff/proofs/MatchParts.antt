-- A match of what many roots reach has a part for what some of them reach.
use Rattle.std.proofs.Common.{◌≡◌, ◌∙◌, ◌∷◌, ◌↔◌, ◌⊎◌, inl, inr, Bool, List, [], Contains, ap, map, option_map, sym, subst}
use Rattle.std.proofs.lemmas.Map.Made.{is_member-Decides}
use Rattle.std.proofs.lemmas.Option.{none-some, same_Some, slice_get-map}
use Rattle.std.specs.Bool.{Decides}
use Rattle.std.specs.List.{AllZip}
use Rattle.scale_info_table_diff.proofs.Reaches.{not_in_none, reached_list, decided}
use Rattle.scale_info_numberings.proofs.Places.{contains_at, contains_cases, contains_head, contains_tail, place_of}
use Rattle.scale_info_numberings.proofs.Zip.{zip_right, zip_turned, zip_weaker}
use Rattle.scale_info_numberings.specs.Matches.{IsMatch, Pairs}
use Rattle.scale_info_numberings.specs.Systems.{Entry, IsReached, System, next, root}

-- the elements of a list of which something holds
abbrev AreChosen : {A : Type 0} → (A → Type 0) → List A → List A → Type 0
AreChosen {A} Q xs ys = (x : A) → Contains ys x ↔ (Contains xs x × Q x)

none_chosen : {A : Type 0} (Q : A → Type 0) → AreChosen Q [] []
none_chosen Q x = (
  λ c. absurd (not_in_none x c),
  λ c. absurd (not_in_none x c.0),
)

one_more_chosen :
    {A : Type 0} (Q : A → Type 0) (x : A) (xs ys : List A)
    → AreChosen Q xs ys → Q x → AreChosen Q (x ∷ xs) (x ∷ ys)
one_more_chosen Q x xs ys are q y = (
  λ c.
      elim (contains_cases x ys y c) [
        | inl e ↦ (subst (λ z. Contains (x ∷ xs) z) e (contains_head x xs), subst Q e q)
        | inr d ↦ let found = (are y).0 d in (contains_tail x xs y found.0, found.1)
      ],
  λ c.
      elim (contains_cases x xs y c.0) [
        | inl e ↦ subst (λ z. Contains (x ∷ ys) z) e (contains_head x ys)
        | inr d ↦ contains_tail x ys y ((are y).1 (d, c.1))
      ],
)

one_less_chosen :
    {A : Type 0} (Q : A → Type 0) (x : A) (xs ys : List A)
    → AreChosen Q xs ys → ¬ (Q x) → AreChosen Q (x ∷ xs) ys
one_less_chosen Q x xs ys are never y = (
  λ c. let found = (are y).0 c in (contains_tail x xs y found.0, found.1),
  λ c.
      elim (contains_cases x xs y c.0) [
        | inl e ↦ absurd (never (subst Q (sym e) c.1))
        | inr d ↦ (are y).1 (d, c.1)
      ],
)

-- there is a list of them, where it is decided which they are
chosen :
    {A : Type 0} (Q : A → Type 0) → ((x : A) → Q x ⊎ (Q x → ⊥)) → (xs : List A)
    → (ys : List A) × AreChosen Q xs ys
chosen Q tell [] = ([], none_chosen Q)
chosen Q tell (x ∷ xs) =
    let rest = chosen Q tell xs in
    elim (tell x) [
      | inl q ↦ (x ∷ rest.0, one_more_chosen Q x xs rest.0 rest.1 q)
      | inr never ↦ (rest.0, one_less_chosen Q x xs rest.0 rest.1 never)
    ]

-- the first of a pair is among the firsts
among_firsts :
    {A B : Type 0} (pairs : List (A × B)) (a : A) (b : B)
    → Contains pairs (a, b) → Contains (map (λ (pair : A × B). pair.0) pairs) a
among_firsts pairs a b c =
    let at = place_of pairs (a, b) c in
    contains_at (map (λ pair. pair.0) pairs) a at.0
    (slice_get-map (λ pair. pair.0) pairs at.0 ∙ ap (option_map (λ pair. pair.0)) at.1)

-- where one is in the first list, its partner is in the second
partner :
    {A B : Type 0} (P : A → B → Type 0) (xs : List A) (ys : List B)
    → AllZip P xs ys → (x : A) → Contains xs x → (y : B) × Contains ys y × P x y
partner P xs ys zip x c =
    let at = place_of xs x c in
    let y = zip_right P xs ys zip at.0 x at.1 in
    (y.0, contains_at ys y.0 at.0 y.1, y.2)

module _ {Sh N P : Type 0} (S : System Sh N) (R : List N) (U : System Sh P) (tops : List P)
    (pairs : List (N × P)) (m : IsMatch S R U tops pairs) (fewer : List N) (others : List P)
    (z : AllZip (λ n p. Pairs pairs n p) fewer others) where
  -- what is reached from fewer roots has a partner that is reached from their partners
  to_right : (n : N) → IsReached S fewer n → (p : P) × Pairs pairs n p × IsReached U others p
  to_right _ (root n c k) =
      let p = partner (λ n p. Pairs pairs n p) fewer others z n c in
      (p.0, p.2, root p.0 p.1 (not_in_none p.0))
  to_right _ (next a n d h s c k) =
      let q = to_right a h in
      elim (m.alike a q.0 q.1) [
        | inl o ↦ absurd (none-some d (sym o.0 ∙ s))
        | inr x ↦
            let same = same_Some x.0 d (sym x.2 ∙ s) in
            let p =
            partner (λ n p. Pairs pairs n p) x.0.refs x.1.refs x.5 n
            (subst (λ (e : Entry Sh N). Contains e.refs n) (sym same) c) in
            (p.0, p.2, next q.0 p.0 x.1 q.2 x.3 p.1 (not_in_none p.0))
      ]

  to_left : (p : P) → IsReached U others p → (n : N) × Pairs pairs n p × IsReached S fewer n
  to_left _ (root p c k) =
      let n = partner (λ p n. Pairs pairs n p) others fewer (zip_turned (λ n p. Pairs pairs n p) fewer others z) p c in
      (n.0, n.2, root n.0 n.1 (not_in_none n.0))
  to_left _ (next b p d h s c k) =
      let q = to_left b h in
      elim (m.alike q.0 b q.1) [
        | inl o ↦ absurd (none-some d (sym o.1 ∙ s))
        | inr x ↦
            let same = same_Some x.1 d (sym x.3 ∙ s) in
            let n =
            partner (λ p n. Pairs pairs n p) x.1.refs x.0.refs
            (zip_turned (λ n p. Pairs pairs n p) x.0.refs x.1.refs x.5) p
            (subst (λ (e : Entry Sh P). Contains e.refs p) (sym same) c) in
            (n.0, n.2, next q.0 n.0 x.0 q.2 x.2 n.1 (not_in_none n.0))
      ]

  -- the pairs of what is reached
  part :
      (some : List (N × P)) → AreChosen (λ (pair : N × P). IsReached S fewer pair.0) pairs some
      → IsMatch S fewer U others some
  part some are =
      record {
        reached = λ n p c.
            let found = (are (n, p)).0 c in
            let q = to_right n found.1 in
            (found.1, subst (λ x. IsReached U others x) (m.one_right n q.0 p q.1 found.0) q.2);
        all_left = λ n h. let p = to_right n h in (p.0, (are (n, p.0)).1 (p.1, h));
        all_right = λ p h. let n = to_left p h in (n.0, (are (n.0, p)).1 (n.1, n.2));
        one_right = λ n p q a b. m.one_right n p q ((are (n, p)).0 a).0 ((are (n, q)).0 b).0;
        one_left = λ n o p a b. m.one_left n o p ((are (n, p)).0 a).0 ((are (o, p)).0 b).0;
        alike = λ n p c.
            let found = (are (n, p)).0 c in
            elim (m.alike n p found.0) [
              | inl o ↦ inl o
              | inr x ↦
                  inr (
                    x.0,
                    x.1,
                    x.2,
                    x.3,
                    x.4,
                    zip_weaker (λ r q. Pairs pairs r q) (λ r q. Pairs some r q) x.0.refs x.1.refs
                        (λ r q c d pair. (are (r, q)).1 (pair, next n r x.0 found.1 x.2 c (not_in_none r)))
                        x.5,
                  )
            ];
        in_order =
            zip_weaker (λ n p. Pairs pairs n p) (λ n p. Pairs some n p) fewer others
            (λ n p c d pair. (are (n, p)).1 (pair, root n c (not_in_none n))) z;
      }

  -- there is a match of what the fewer roots reach
  pub match_part :
      (equal : N → N → Bool) → ((n o : N) → Decides (equal n o) (n ≡ o))
      → (some : List (N × P)) × IsMatch S fewer U others some
  match_part equal decides =
      let all =
      reached_list S fewer equal decides (map (λ pair. pair.0) pairs)
      (λ n h. let p = to_right n h in among_firsts pairs n p.0 p.1) in
      let found =
      chosen (λ (pair : N × P). IsReached S fewer pair.0)
      (λ pair.
      elim (decided _ (is_member-Decides decides all.0 pair.0)) [
        | inl c ↦ inl ((all.1 pair.0).0 c)
        | inr never ↦ inr (λ h. never ((all.1 pair.0).1 h))
      ])
      pairs in
      (found.0, part found.0 found.1)
