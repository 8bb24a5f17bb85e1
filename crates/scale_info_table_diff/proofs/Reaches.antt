-- What is reached in a system, listed, where it is among finitely many nodes whose equality is decided.
use Rattle.std.proofs.Common.{◌≡◌, ◌++◌, ◌∷◌, ◌↔◌, ◌⊎◌, inl, inr, ℕ, zero, suc, Bool, true, false, List, [], Contains, Option, Some, None, length, arith, ap, sym, subst, refl}
use Rattle.std.proofs.lemmas.Bool.{false≢true}
use Rattle.std.proofs.lemmas.List.Elements.{Contains-append_cases, Contains-append_left}
use Rattle.std.proofs.lemmas.List.Elements.{Contains-append_right}
use Rattle.std.proofs.lemmas.Map.Made.{is_member-Decides}
use Rattle.std.proofs.lemmas.Option.{none-some}
use Rattle.std.specs.Bool.{Decides}
use Rattle.std.specs.List.{flat_map}
use Rattle.scale_info_numberings.proofs.Places.{contains_cases, contains_head, contains_tail, place_of}
use Rattle.scale_info_numberings.specs.Systems.{Entry, IsReached, System, next, refs_in, root}

-- what a test decides holds, or it does not
pub decided : {P : Type 0} (b : Bool) → Decides b P → P ⊎ (P → ⊥)
decided true d = inl (d.0 refl)
decided false d = inr (λ p. false≢true (d.1 p))

-- where it does not hold the test is false
pub refuted : {P : Type 0} (b : Bool) → Decides b P → (P → ⊥) → b ≡ false
refuted true d never = absurd (never (d.0 refl))
refuted false d never = refl

-- the empty list has no element
pub not_in_none : {A : Type 0} (x : A) → Contains [] x → ⊥
not_in_none x c = none-some x (place_of [] x c).1

-- what one of the parts has
into_flat_map :
    {A B : Type 0} (f : A → List B) (xs : List A) (x : A) (y : B)
    → Contains xs x → Contains (f x) y → Contains (flat_map f xs) y
into_flat_map f [] x y c d = absurd (not_in_none x c)
into_flat_map f (z ∷ xs) x y c d =
    elim (contains_cases z xs x c) [
      | inl same ↦ Contains-append_left (f z) (flat_map f xs) y (subst (λ w. Contains (f w) y) (sym same) d)
      | inr later ↦ Contains-append_right (f z) (flat_map f xs) y (into_flat_map f xs x y later d)
    ]

out_of_flat_map :
    {A B : Type 0} (f : A → List B) (xs : List A) (y : B)
    → Contains (flat_map f xs) y → (x : A) × Contains xs x × Contains (f x) y
out_of_flat_map f [] y c = absurd (not_in_none y c)
out_of_flat_map f (z ∷ xs) y c =
    elim (Contains-append_cases (f z) (flat_map f xs) y c) [
      | inl here ↦ (z, contains_head z xs, here)
      | inr later ↦ let found = out_of_flat_map f xs y later in (found.0, contains_tail z xs found.0 found.1, found.2)
    ]

module _ {Sh N : Type 0} (S : System Sh N) (roots : List N) (equal : N → N → Bool)
    (decides : (m n : N) → Decides (equal m n) (m ≡ n)) where
  -- the roots, and what these nodes refer to
  abbrev near : List N → List N
  near nodes = roots ++ flat_map (λ m. refs_in (S m)) nodes

  entry_with :
      (m n : N) (found : Option (Entry Sh N)) → S m ≡ found → Contains (refs_in found) n
      → (d : Entry Sh N) × (S m ≡ Some d) × Contains d.refs n
  entry_with m n None is c = absurd (not_in_none n c)
  entry_with m n (Some d) is c = (d, is, c)

  -- one of these nodes that is near, and the others; or none is near
  pick :
      (nearby left : List N)
      → ((n : N) × (rest : List N) × Contains nearby n × (length left ≡ suc (length rest))
      × ((m : N) → Contains left m → (n ≡ m) ⊎ Contains rest m))
      ⊎ ((m : N) → Contains left m → Contains nearby m → ⊥)
  pick nearby [] = inr (λ m c d. not_in_none m c)
  pick nearby (n ∷ left) =
      elim (decided _ (is_member-Decides decides nearby n)) [
        | inl c ↦ inl (n, left, c, refl, λ m d. contains_cases n left m d)
        | inr isnt ↦
            elim (pick nearby left) [
              | inl p ↦
                  inl (
                    p.0,
                    n ∷ p.1,
                    p.2,
                    ap suc p.3,
                    λ m d.
                        elim (contains_cases n left m d) [
                          | inl same ↦ inr (subst (λ x. Contains (n ∷ p.1) x) same (contains_head n p.1))
                          | inr later ↦
                              elim (p.4 m later) [
                                | inl is ↦ inl is
                                | inr other ↦ inr (contains_tail n p.1 m other)
                              ]
                        ],
                  )
              | inr none ↦
                  inr (λ m d c.
                  elim (contains_cases n left m d) [
                    | inl same ↦ isnt (subst (λ x. Contains nearby x) (sym same) c)
                    | inr later ↦ none m later c
                  ])
            ]
      ]

  -- nodes that are reached, and nodes among which the others are that are
  record IsSoFar (nodes left : List N) : Type 0 where
    reached : (n : N) → Contains nodes n → IsReached S roots n
    listed : (n : N) → IsReached S roots n → Contains nodes n ⊎ Contains left n

  from_near : (nodes : List N) → ((n : N) → Contains nodes n → IsReached S roots n)
      → (n : N) → Contains (near nodes) n → IsReached S roots n
  from_near nodes reached n c =
      elim (Contains-append_cases roots (flat_map (λ m. refs_in (S m)) nodes) n c) [
        | inl here ↦ root n here (not_in_none n)
        | inr there ↦
            let m = out_of_flat_map (λ m. refs_in (S m)) nodes n there in
            let d = entry_with m.0 n (S m.0) refl m.2 in
            next m.0 n d.0 (reached m.0 m.1) d.1 d.2 (not_in_none n)
      ]

  -- where none of the others is near, there are no others
  all_listed :
      (nodes left : List N) → IsSoFar nodes left
      → ((m : N) → Contains left m → Contains (near nodes) m → ⊥)
      → (n : N) → IsReached S roots n → Contains nodes n
  all_listed nodes left x none _ (root n c k) =
      elim (x.listed n (root n c k)) [
        | inl a ↦ a
        | inr b ↦ absurd (none n b (Contains-append_left roots (flat_map (λ m. refs_in (S m)) nodes) n c))
      ]
  all_listed nodes left x none _ (next m n d h s c k) =
      elim (x.listed n (next m n d h s c k)) [
        | inl a ↦ a
        | inr b ↦
            absurd (none n b
            (Contains-append_right roots (flat_map (λ m. refs_in (S m)) nodes) n
            (into_flat_map (λ m. refs_in (S m)) nodes m n (all_listed nodes left x none m h)
            (subst (λ (o : Option (Entry Sh N)). Contains (refs_in o) n) (sym s) c))))
      ]

  -- one of the others that is near is one of these nodes
  after :
      (nodes left rest : List N) (n : N) → Contains (near nodes) n
      → ((m : N) → Contains left m → (n ≡ m) ⊎ Contains rest m)
      → IsSoFar nodes left → IsSoFar (n ∷ nodes) rest
  after nodes left rest n c others x =
      record {
        reached = λ m d.
            elim (contains_cases n nodes m d) [
              | inl same ↦ subst (λ o. IsReached S roots o) same (from_near nodes x.reached n c)
              | inr later ↦ x.reached m later
            ];
        listed = λ m h.
            elim (x.listed m h) [
              | inl a ↦ inl (contains_tail n nodes m a)
              | inr b ↦
                  elim (others m b) [
                    | inl same ↦ inl (subst (λ o. Contains (n ∷ nodes) o) same (contains_head n nodes))
                    | inr other ↦ inr other
                  ]
            ];
      }

  -- as many steps as there are others list all
  close :
      (steps : ℕ) (nodes left : List N) → length left ≡ steps → IsSoFar nodes left
      → (all : List N) × ((n : N) → Contains all n ↔ IsReached S roots n)
  close zero nodes left long x =
      elim (pick (near nodes) left) [
        | inl p ↦ absurd (omega (arith, long, p.3))
        | inr none ↦ (nodes, λ n. (x.reached n, all_listed nodes left x none n))
      ]
  close (suc steps) nodes left long x =
      elim (pick (near nodes) left) [
        | inl p ↦ close steps (p.0 ∷ nodes) p.1 (omega (arith, long, p.3)) (after nodes left p.1 p.0 p.2 p.4 x)
        | inr none ↦ (nodes, λ n. (x.reached n, all_listed nodes left x none n))
      ]

  -- all that is reached, where it is among these
  pub reached_list :
      (among : List N) → ((n : N) → IsReached S roots n → Contains among n)
      → (all : List N) × ((n : N) → Contains all n ↔ IsReached S roots n)
  reached_list among inside =
      close (length among) [] among refl
      (record { reached = λ n c. absurd (not_in_none n c); listed = λ n h. inr (inside n h) })
