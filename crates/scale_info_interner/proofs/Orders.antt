-- Indices in the elements' order: what a place found says, and what an edit at a place keeps.
use Rattle.std.proofs.Common.{◌≡◌, ◌≢◌, ◌<◌, ◌≤◌, ◌+◌, ◌⊎◌, ℕ, zero, suc, Bool, IsTrue, List, []}
use Rattle.std.proofs.Common.{◌∷◌, ◌++◌, Option, Some, None, length, take, drop, slice_get, inl}
use Rattle.std.proofs.Common.{inr}
use Rattle.std.proofs.Common.{refl, sym, ap, subst, ◌∙◌, Contains, append_assoc, arith, rules}
use Rattle.std.specs.List.{All, concat}
use Rattle.std.specs.Option.{option_map, unwrap_or}
use Rattle.std.specs.Cmp.{IsTotalOrder}
use Rattle.std.specs.Ordering.{is_eq, ordering_reverse}
use Rattle.std.specs.declared.cmp.Ordering.{Ordering}
use Rattle.std.specs.declared.cmp.Ordering.TheVariants.{Less, Equal, Greater}
use Rattle.std.proofs.lemmas.Cmp.{tied_back, tied_itself}
use Rattle.std.proofs.lemmas.Option.{slice_get_within, same_Some, slice_get-get_or}
use Rattle.std.proofs.lemmas.List.{take-append-drop, length-append}
use Rattle.std.proofs.lemmas.Bool.{cases_lt}
use Rattle.std.proofs.lemmas.Grind.{common_steps}
use Rattle.std.proofs.Common.{get_or}
use Rattle.std.proofs.lemmas.List.Elements.{All-contains, All-nil, All-head, All-tail}
use Rattle.std.proofs.lemmas.List.Elements.{All-same, Contains-append_left, Contains-append_right}
use Rattle.std.proofs.lemmas.List.Elements.{Contains-append_cases, Contains-push_cases}
use Rattle.scale_info_interner.specs.Interned.{IsIndexOf, IsKnown, AreDistinctBy}
use Rattle.scale_info_interner.specs.ElementOrders.{against, IsBelow, AreOrdered, IsElementOrder}
use Rattle.scale_info_interner.specs.ElementOrders.{before, after}
use Rattle.scale_info_interner.specs.ElementOrders.{first_against, IsGapFor}
use Rattle.scale_info_interner.proofs.LastElement.{at_end, kept_at, last_at}
use Rattle.scale_info_interner.proofs.Ordered.{none_in, head_or_tail, head_in, tail_in}
use Rattle.scale_info_interner.proofs.Ordered.{all_from_contained}
use Rattle.scale_info_interner.proofs.Ordered.{ordered_left, ordered_right}
use Rattle.scale_info_interner.proofs.Ordered.{ordered_across, ordered_append, ordered_weaker}

-- ---- places

-- what stands before a place and what stands from it on are all
pub before_after :
    (chunks : List (List ℕ)) (c at : ℕ) → before chunks c at ++ after chunks c at ≡ concat chunks
before_after [] c at = refl
before_after (chunk ∷ chunks) zero at =
    sym (append_assoc (take at chunk) (drop at chunk) (concat chunks))
    ∙ ap (λ t. t ++ concat chunks) (take-append-drop at chunk)
before_after (chunk ∷ chunks) (suc c) at =
    append_assoc chunk (before chunks c at) (after chunks c at)
    ∙ ap (λ t. chunk ++ t) (before_after chunks c at)

-- the element at i stands first past the first i
pub drop_at : {X : Type 0} (xs : List X) (i : ℕ) (x : X) → slice_get xs i ≡ Some x → drop i xs ≡ x ∷ drop (suc i) xs
drop_at [] i x h = cc
drop_at (y ∷ ys) zero x h = ap (λ z. z ∷ ys) (same_Some y x h)
drop_at (y ∷ ys) (suc i) x h = drop_at ys i x h

take_at : {X : Type 0} (xs : List X) (i : ℕ) (x : X) → slice_get xs i ≡ Some x → take (suc i) xs ≡ take i xs ++ x ∷ []
take_at [] i x h = cc
take_at (y ∷ ys) zero x h = ap (λ z. z ∷ []) (same_Some y x h)
take_at (y ∷ ys) (suc i) x h = ap (λ t. y ∷ t) (take_at ys i x h)

drop_past : {X : Type 0} (xs : List X) (i : ℕ) → slice_get xs i ≡ None → drop i xs ≡ []
drop_past [] zero h = refl
drop_past [] (suc i) h = refl
drop_past (y ∷ ys) zero h = cc
drop_past (y ∷ ys) (suc i) h = drop_past ys i h

-- the index at a place stands first from it on
pub after_at :
    (chunks : List (List ℕ)) (c at index : ℕ) (chunk : List ℕ) → slice_get chunks c ≡ Some chunk
    → slice_get chunk at ≡ Some index
    → after chunks c at ≡ index ∷ after chunks c (suc at)
after_at [] c at index chunk p q = cc
after_at (first ∷ chunks) zero at index chunk p q =
    ap (λ t. t ++ concat chunks)
    (drop_at first at index (subst (λ v. slice_get v at ≡ Some index) (sym (same_Some first chunk p)) q))
after_at (first ∷ chunks) (suc c) at index chunk p q = after_at chunks c at index chunk p q

-- the index at a place stands last before the next
before_at :
    (chunks : List (List ℕ)) (c at index : ℕ) (chunk : List ℕ) → slice_get chunks c ≡ Some chunk
    → slice_get chunk at ≡ Some index
    → before chunks c (suc at) ≡ before chunks c at ++ index ∷ []
before_at [] c at index chunk p q = cc
before_at (first ∷ chunks) zero at index chunk p q =
    take_at first at index (subst (λ v. slice_get v at ≡ Some index) (sym (same_Some first chunk p)) q)
before_at (first ∷ chunks) (suc c) at index chunk p q =
    ap (λ t. first ++ t) (before_at chunks c at index chunk p q)
    ∙ sym (append_assoc first (before chunks c at) (index ∷ []))

-- what stands first from a place on: the index there, or the first of the next chunk
data IsFirst (chunks : List (List ℕ)) (c at index : ℕ) : Type 0 where
  here : (chunk : List ℕ) → slice_get chunks c ≡ Some chunk → slice_get chunk at ≡ Some index
      → IsFirst chunks c at index
  next : (chunk : List ℕ) → slice_get chunks (suc c) ≡ Some chunk → slice_get chunk 0 ≡ Some index
      → IsFirst chunks c at index

first_joined :
    (chunks : List (List ℕ)) (index : ℕ) (rest : List ℕ) → All (λ c. c ≢ []) chunks
    → concat chunks ≡ index ∷ rest
    → (chunk : List ℕ) × (slice_get chunks 0 ≡ Some chunk) × (slice_get chunk 0 ≡ Some index)
first_joined [] index rest filled e = cc
first_joined ([] ∷ chunks) index rest filled e =
    absurd (All-head (λ c. c ≢ []) [] chunks filled refl)
first_joined ((i ∷ chunk) ∷ chunks) index rest filled e = (i ∷ chunk, refl, cc)

first_after :
    (chunks : List (List ℕ)) (c at index : ℕ) (rest : List ℕ) → All (λ c. c ≢ []) chunks
    → after chunks c at ≡ index ∷ rest
    → IsFirst chunks c at index
first_after [] c at index rest filled e = cc
first_after (chunk ∷ chunks) zero at index rest filled e =
    let split : (r : Option ℕ) → slice_get chunk at ≡ r → IsFirst (chunk ∷ chunks) zero at index =
    λ r. elim r as (λ v. slice_get chunk at ≡ v → IsFirst (chunk ∷ chunks) zero at index) [
      | None ↦ λ p.
          let gone : concat chunks ≡ index ∷ rest =
          ap (λ t. t ++ concat chunks) (sym (drop_past chunk at p)) ∙ e in
          let found = first_joined chunks index rest (All-tail (λ c. c ≢ []) chunk chunks filled) gone in
          next found.0 found.1 found.2
      | Some i ↦ λ p.
          let same : i ∷ (drop (suc at) chunk ++ concat chunks) ≡ index ∷ rest =
          ap (λ t. t ++ concat chunks) (sym (drop_at chunk at i p)) ∙ e in
          here chunk refl (p ∙ ap Some cc)
    ] in
    split (slice_get chunk at) refl
first_after (chunk ∷ chunks) (suc c) at index rest filled e =
    elim (first_after chunks c at index rest (All-tail (λ c. c ≢ []) chunk chunks filled) e) [
      | here found p q ↦ here found p q
      | next found p q ↦ next found p q
    ]

all_at : {X : Type 0} (P : X → Type 0) (xs : List X) (i : ℕ) (x : X) → All P xs → slice_get xs i ≡ Some x → P x
all_at P [] i x h e = cc
all_at P (y ∷ ys) zero x h e = subst P (same_Some y x e) (All-head P y ys h)
all_at P (y ∷ ys) (suc i) x h e = all_at P ys i x (All-tail P y ys h) e

less_is_not_equal : ◌≡◌ {A = Ordering} Less Equal → ⊥
less_is_not_equal h = cc

greater_is_not_equal : ◌≡◌ {A = Ordering} Greater Equal → ⊥
greater_is_not_equal h = cc

greater_is_not_less : ◌≡◌ {A = Ordering} Greater Less → ⊥
greater_is_not_less h = cc

-- an ordering that says equal is Equal
equal_is : (r : Ordering) → IsTrue (is_eq r) → r ≡ Equal
equal_is Less h = cc
equal_is Equal h = refl
equal_is Greater h = cc

more_room : {T : Type 0} (xs : List T) (x : T) (i : ℕ) → i < length xs → i < length (xs ++ x ∷ [])
more_room xs x i h = let e : length (xs ++ x ∷ []) ≡ length xs + 1 = length-append xs (x ∷ []) in omega (arith, e, h)

among_more : {T : Type 0} (xs : List T) (x : T) (i : ℕ) → i < length (xs ++ x ∷ []) → (i < length xs) ⊎ (i ≡ length xs)
among_more xs x i h = let e : length (xs ++ x ∷ []) ≡ length xs + 1 = length-append xs (x ∷ []) in
    elim (cases_lt i (length xs)) [ inl l ↦ inl l | inr g ↦ inr (omega (arith, e, g, h)) ]

-- ---- elements

module _ {T : Type 0} {cmp : T → T → Ordering} (o : IsTotalOrder cmp) where
  against_at :
      (xs : List T) (x y : T) (i : ℕ) → slice_get xs i ≡ Some y → against cmp xs x i ≡ cmp y x
  against_at xs x y i p = ap (λ v. unwrap_or (option_map (λ z. cmp z x) v) Greater) p

  less_down :
      (xs : List T) (x : T) (i j : ℕ) → IsBelow cmp xs i j → against cmp xs x j ≡ Less
      → against cmp xs x i ≡ Less
  less_down xs x i j (a, b, p, q, l) h =
      against_at xs x a i p ∙ o.trans a b x l (sym (against_at xs x b j q) ∙ h)

  greater_up :
      (xs : List T) (x : T) (i j : ℕ) → IsBelow cmp xs i j → against cmp xs x i ≡ Greater
      → against cmp xs x j ≡ Greater
  greater_up xs x i j (a, b, p, q, l) h =
      let under : cmp x a ≡ Less =
      o.antisymm x a ∙ ap ordering_reverse (sym (against_at xs x a i p) ∙ h) in
      against_at xs x b j q ∙ o.antisymm b x ∙ ap ordering_reverse (o.trans x a b under l)

  less_before :
      (xs : List T) (x : T) (front : List ℕ) (last : ℕ)
      → AreOrdered (IsBelow cmp xs) (front ++ last ∷ [])
      → against cmp xs x last ≡ Less
      → All (λ i. against cmp xs x i ≡ Less) (front ++ last ∷ [])
  less_before xs x front last up l =
      all_from_contained (λ i. against cmp xs x i ≡ Less) (front ++ last ∷ []) (λ i p.
      elim (Contains-push_cases front last i p) [
        | inl q ↦
            less_down xs x i last
            (ordered_across (IsBelow cmp xs) front (last ∷ []) up i last q (head_in last [])) l
        | inr e ↦ subst (λ j. against cmp xs x j ≡ Less) e l
      ])

  greater_after :
      (xs : List T) (x : T) (order : List ℕ) → AreOrdered (IsBelow cmp xs) order
      → ((index : ℕ) (rest : List ℕ) → order ≡ index ∷ rest → against cmp xs x index ≡ Greater)
      → All (λ i. against cmp xs x i ≡ Greater) order
  greater_after xs x [] up g = All-nil (λ i. against cmp xs x i ≡ Greater)
  greater_after xs x (first ∷ rest) up g =
      all_from_contained (λ i. against cmp xs x i ≡ Greater) (first ∷ rest) (λ i p.
      elim (head_or_tail first i rest p) [
        | inl e ↦ subst (λ j. against cmp xs x j ≡ Greater) e (g first rest refl)
        | inr q ↦
            greater_up xs x first i (All-contains (IsBelow cmp xs first) rest i up.0 q)
            (g first rest refl)
      ])

  first_is :
      (xs : List T) (x : T) (chunk : List ℕ) (index : ℕ) → slice_get chunk 0 ≡ Some index
      → first_against cmp xs x chunk ≡ against cmp xs x index
  first_is xs x chunk index p =
      ap (λ v. unwrap_or (option_map (λ i. against cmp xs x i) v) Greater) p

  parts_ordered :
      (xs : List T) (chunks : List (List ℕ)) (c at : ℕ) → IsElementOrder cmp xs chunks
      → AreOrdered (IsBelow cmp xs) (before chunks c at ++ after chunks c at)
  parts_ordered xs chunks c at order =
      subst (AreOrdered (IsBelow cmp xs)) (sym (before_after chunks c at)) order.ascending

  -- where the first chunk starts above x, x goes before all
  pub gap_first :
      (xs : List T) (chunks : List (List ℕ)) (x : T) → IsElementOrder cmp xs chunks
      → ((chunk : List ℕ) → slice_get chunks 0 ≡ Some chunk → first_against cmp xs x chunk ≡ Greater)
      → IsGapFor cmp xs chunks x 0 0
  gap_first xs [] x order past = record {
    within = λ chunk p. omega arith;
    less = All-nil (λ i. against cmp xs x i ≡ Less);
    greater = All-nil (λ i. against cmp xs x i ≡ Greater);
  }
  gap_first xs (chunk ∷ chunks) x order past = record {
    within = λ found p. omega arith;
    less = All-nil (λ i. against cmp xs x i ≡ Less);
    greater = greater_after xs x (chunk ++ concat chunks) order.ascending (λ index rest e.
        let found = first_joined (chunk ∷ chunks) index rest order.filled e in
        sym (first_is xs x found.0 index found.2) ∙ past found.0 found.1);
  }

  -- where the index before the place is less than x, so are all before it
  less_inside :
      (xs : List T) (chunks : List (List ℕ)) (x : T) (c i : ℕ) (chunk : List ℕ)
      → IsElementOrder cmp xs chunks
      → slice_get chunks c ≡ Some chunk
      → suc i ≤ length chunk
      → ((index : ℕ) → slice_get chunk i ≡ Some index → against cmp xs x index ≡ Less)
      → All (λ j. against cmp xs x j ≡ Less) (before chunks c (suc i))
  less_inside xs chunks x c i chunk order there bound less =
      let index = get_or chunk i 0 in
      let here : slice_get chunk i ≡ Some index = slice_get-get_or chunk i 0 (omega (arith, bound)) in
      let split = before_at chunks c i index chunk there here in
      let up : AreOrdered (IsBelow cmp xs) (before chunks c i ++ index ∷ []) =
      subst (AreOrdered (IsBelow cmp xs)) split
      (ordered_left (IsBelow cmp xs) (before chunks c (suc i)) (after chunks c (suc i))
      (parts_ordered xs chunks c (suc i) order)) in
      All-same (λ j. against cmp xs x j ≡ Less) (before chunks c (suc i))
      (before chunks c i ++ index ∷ []) split
      (less_before xs x (before chunks c i) index up (less index here))

  less_part :
      (xs : List T) (chunks : List (List ℕ)) (x : T) (c at : ℕ) (chunk : List ℕ)
      → IsElementOrder cmp xs chunks
      → slice_get chunks c ≡ Some chunk
      → first_against cmp xs x chunk ≢ Greater
      → at ≤ length chunk
      → ((i index : ℕ) → at ≡ i + 1 → slice_get chunk i ≡ Some index
      → against cmp xs x index ≡ Less)
      → ((index : ℕ) → slice_get chunk at ≡ Some index → against cmp xs x index ≡ Greater)
      → All (λ i. against cmp xs x i ≡ Less) (before chunks c at)
  less_part xs chunks x c zero [] order there upto bound less greater =
      absurd (all_at (λ v. v ≢ []) chunks c [] order.filled there refl)
  less_part xs chunks x c zero (i ∷ chunk) order there upto bound less greater =
      absurd (upto (first_is xs x (i ∷ chunk) i refl ∙ greater i refl))
  less_part xs chunks x c (suc i) chunk order there upto bound less greater =
      less_inside xs chunks x c i chunk order there bound (λ index p. less i index (omega arith) p)

  front_part :
      (xs : List T) (chunks : List (List ℕ)) (x : T) (c at : ℕ) (chunk : List ℕ)
      → IsElementOrder cmp xs chunks
      → slice_get chunks c ≡ Some chunk
      → ((i : ℕ) → c ≡ suc i → 0 < at)
      → at ≤ length chunk
      → ((i index : ℕ) → at ≡ i + 1 → slice_get chunk i ≡ Some index
      → against cmp xs x index ≡ Less)
      → All (λ i. against cmp xs x i ≡ Less) (before chunks c at)
  front_part xs [] x c at chunk order there inside bound less = cc
  front_part xs (first ∷ chunks) x zero zero chunk order there inside bound less =
      All-nil (λ i. against cmp xs x i ≡ Less)
  front_part xs (first ∷ chunks) x (suc c) zero chunk order there inside bound less =
      let l = inside c refl in absurd (omega (arith, l))
  front_part xs (first ∷ chunks) x c (suc i) chunk order there inside bound less =
      less_inside xs (first ∷ chunks) x c i chunk order there bound
      (λ index p. less i index (omega arith) p)

  -- x goes where a search in a chunk says
  module _ (xs : List T) (chunks : List (List ℕ)) (x : T) (c at : ℕ) (chunk : List ℕ)
      (order : IsElementOrder cmp xs chunks) (there : slice_get chunks c ≡ Some chunk)
      (bound : at ≤ length chunk)
      (less : (i index : ℕ) → at ≡ i + 1 → slice_get chunk i ≡ Some index
      → against cmp xs x index ≡ Less)
      (greater : (index : ℕ) → slice_get chunk at ≡ Some index
      → against cmp xs x index ≡ Greater) where
    gap_of :
        All (λ i. against cmp xs x i ≡ Less) (before chunks c at)
        → ((index : ℕ) (rest : List ℕ) → after chunks c at ≡ index ∷ rest
        → against cmp xs x index ≡ Greater)
        → IsGapFor cmp xs chunks x c at
    gap_of all_less next_greater = record {
      within = λ found p. subst (λ v. at ≤ length v) (same_Some chunk found (sym there ∙ p)) bound;
      less = all_less;
      greater =
          greater_after xs x (after chunks c at)
          (ordered_right (IsBelow cmp xs) (before chunks c at) (after chunks c at)
          (parts_ordered xs chunks c at order))
          next_greater;
    }

    -- the chunk does not start above x, and the next does
    pub gap_within :
        first_against cmp xs x chunk ≢ Greater
        → ((next : List ℕ) → slice_get chunks (suc c) ≡ Some next
        → first_against cmp xs x next ≡ Greater)
        → IsGapFor cmp xs chunks x c at
    gap_within upto past =
        gap_of (less_part xs chunks x c at chunk order there upto bound less greater)
        (λ index rest e. elim (first_after chunks c at index rest order.filled e) [
          | here found p q ↦
              greater index (subst (λ v. slice_get v at ≡ Some index)
              (same_Some found chunk (sym p ∙ there)) q)
          | next found p q ↦ sym (first_is xs x found index q) ∙ past found p
        ])

    -- an index of the chunk stands before the place or no chunk does, and one stands after it or the
    -- next chunk starts above x
    pub gap_here :
        ((i : ℕ) → c ≡ suc i → 0 < at)
        → ((next : List ℕ) → length chunk ≤ at → slice_get chunks (suc c) ≡ Some next
        → first_against cmp xs x next ≡ Greater)
        → IsGapFor cmp xs chunks x c at
    gap_here inside past =
        gap_of (front_part xs chunks x c at chunk order there inside bound less)
        (λ index rest e. elim (cases_lt at (length chunk)) [
          | inl l ↦
              let j = get_or chunk at 0 in
              let here : slice_get chunk at ≡ Some j = slice_get-get_or chunk at 0 l in
              let split : j ∷ after chunks c (suc at) ≡ index ∷ rest =
              sym (after_at chunks c at j chunk there here) ∙ e in
              let same : j ≡ index = cc in
              subst (λ k. against cmp xs x k ≡ Greater) same (greater j here)
          | inr g ↦ elim (first_after chunks c at index rest order.filled e) [
            | here found p q ↦
                greater index (subst (λ v. slice_get v at ≡ Some index)
                (same_Some found chunk (sym p ∙ there)) q)
            | next found p q ↦ sym (first_is xs x found index q) ∙ past found g p
          ]
        ])

  not_below :
      (xs : List T) (i j : ℕ) (x y : T) → IsBelow cmp xs i j → slice_get xs i ≡ Some x
      → slice_get xs j ≡ Some y
      → cmp x y ≡ Equal
      → ⊥
  not_below xs i j x y (a, b, p, q, l) u v e =
      let first : a ≡ x = same_Some a x (sym p ∙ u) in
      let second : b ≡ y = same_Some b y (sym q ∙ v) in
      let less : cmp x y ≡ Less = subst (λ z. cmp x z ≡ Less) second (subst (λ z. cmp z b ≡ Less) first l) in
      less_is_not_equal (sym less ∙ e)

  not_below_itself : (xs : List T) (i : ℕ) → IsBelow cmp xs i i → ⊥
  not_below_itself xs i (a, b, p, q, l) =
      not_below xs i i a a (a, b, p, q, l) p p (tied_itself o a)

  -- ---- what an order says

  module _ (eq : T → T → Bool) (ties : (x y : T) → eq x y ≡ is_eq (cmp x y)) where
    tied : (x y : T) → IsTrue (eq x y) → cmp x y ≡ Equal
    tied x y h = equal_is (cmp x y) (sym (ties x y) ∙ h)

    -- two indices of an order with equal elements are one
    same_index :
        (xs : List T) (order : List ℕ) → AreOrdered (IsBelow cmp xs) order → (i j : ℕ) (x y : T)
        → Contains order i → Contains order j → slice_get xs i ≡ Some x → slice_get xs j ≡ Some y
        → cmp x y ≡ Equal
        → i ≡ j
    same_index xs [] up i j x y p q a b e = absurd (none_in i p)
    same_index xs (k ∷ order) up i j x y p q a b e = elim (head_or_tail k i order p) [
      | inl ki ↦ elim (head_or_tail k j order q) [
        | inl kj ↦ sym ki ∙ kj
        | inr more ↦
            absurd (not_below xs k j x y (All-contains (IsBelow cmp xs k) order j up.0 more)
            (subst (λ v. slice_get xs v ≡ Some x) (sym ki) a) b e)
      ]
      | inr left ↦ elim (head_or_tail k j order q) [
        | inl kj ↦
            absurd (not_below xs k i y x (All-contains (IsBelow cmp xs k) order i up.0 left)
            (subst (λ v. slice_get xs v ≡ Some y) (sym kj) b) a (tied_back o x y e))
        | inr more ↦ same_index xs order up.1 i j x y left more a b e
      ]
    ]

    -- the elements of an order are distinct
    pub order_distinct :
        (xs : List T) (chunks : List (List ℕ)) → IsElementOrder cmp xs chunks → AreDistinctBy eq xs
    order_distinct xs chunks order i j x y p q e =
        same_index xs (concat chunks) order.ascending i j x y
        (order.complete i (slice_get_within xs i x p)) (order.complete j (slice_get_within xs j y q))
        p q (tied x y e)

    -- an index whose element compares equal is that of the value
    pub equal_index :
        (xs : List T) (x : T) (i : ℕ) → against cmp xs x i ≡ Equal → IsIndexOf eq xs x i
    equal_index xs x i h =
        let at : (r : Option T) → slice_get xs i ≡ r → IsIndexOf eq xs x i =
        λ r. elim r as (λ v. slice_get xs i ≡ v → IsIndexOf eq xs x i) [
          | None ↦ λ p.
              absurd (greater_is_not_equal (sym (ap (λ v. unwrap_or (option_map (λ z. cmp z x) v) Greater) p) ∙ h))
          | Some y ↦ λ p.
              let turned : cmp x y ≡ Equal = tied_back o y x (sym (against_at xs x y i p) ∙ h) in
              (y, p, ties x y ∙ ap is_eq turned)
        ] in
        at (slice_get xs i) refl

    -- a value has one index at most
    pub one_index :
        (xs : List T) (chunks : List (List ℕ)) (x : T) (i j : ℕ) → IsElementOrder cmp xs chunks
        → IsIndexOf eq xs x i → IsIndexOf eq xs x j → i ≡ j
    one_index xs chunks x i j order (y, p, a) (z, q, b) =
        order_distinct xs chunks order i j y z p q
        (ties y z ∙ ap is_eq (sym (o.congr x y z (tied x y a)) ∙ tied x z b))

    -- a value with a gap in the order equals no element
    pub gap_new :
        (xs : List T) (chunks : List (List ℕ)) (x : T) (c at : ℕ) → IsElementOrder cmp xs chunks
        → IsGapFor cmp xs chunks x c at
        → IsKnown eq xs x → ⊥
    gap_new xs chunks x c at order gap (i, (y, p, e)) =
        let among : Contains (before chunks c at ++ after chunks c at) i =
        subst (λ v. Contains v i) (sym (before_after chunks c at))
        (order.complete i (slice_get_within xs i y p)) in
        let equal : against cmp xs x i ≡ Equal = against_at xs x y i p ∙ tied_back o x y (tied x y e) in
        elim (Contains-append_cases (before chunks c at) (after chunks c at) i among) [
          | inl q ↦
              absurd (less_is_not_equal
              (sym (All-contains (λ j. against cmp xs x j ≡ Less) (before chunks c at) i gap.less q) ∙ equal))
          | inr q ↦
              absurd (greater_is_not_equal
              (sym (All-contains (λ j. against cmp xs x j ≡ Greater) (after chunks c at) i gap.greater q) ∙ equal))
        ]

    -- the same, of lists that are equal
    pub gap_absent :
        (xs elements now : List T) (rows chunks : List (List ℕ)) (x : T) (c at : ℕ) → xs ≡ elements
        → elements ≡ now
        → rows ≡ chunks
        → IsElementOrder cmp elements chunks
        → IsGapFor cmp xs rows x c at
        → IsKnown eq now x
        → ⊥
    gap_absent xs elements now rows chunks x c at e f h order gap k =
        gap_new elements chunks x c at order
        (subst (λ v. IsGapFor cmp elements v x c at) h (subst (λ v. IsGapFor cmp v rows x c at) e gap))
        (subst (λ v. IsKnown eq v x) (sym f) k)

    -- the index after all others is that of an element put at the end
    pub last_index : (xs : List T) (x : T) → IsIndexOf eq (xs ++ x ∷ []) x (length xs)
    last_index xs x = (x, last_at xs x, ties x x ∙ ap is_eq (tied_itself o x))

  -- ---- edits

  smaller :
      (xs : List T) (x : T) (i : ℕ) → i < length (xs ++ x ∷ [])
      → IsBelow cmp (xs ++ x ∷ []) i (length xs) ⊎ IsBelow cmp (xs ++ x ∷ []) (length xs) i
      → i < length xs
  smaller xs x i within below = elim (among_more xs x i within) [
    | inl l ↦ l
    | inr e ↦ elim below [
      | inl b ↦
          absurd (not_below_itself (xs ++ x ∷ []) (length xs)
          (subst (λ j. IsBelow cmp (xs ++ x ∷ []) j (length xs)) e b))
      | inr b ↦
          absurd (not_below_itself (xs ++ x ∷ []) (length xs)
          (subst (λ j. IsBelow cmp (xs ++ x ∷ []) (length xs) j) e b))
    ]
  ]

  old_at :
      (xs : List T) (x y : T) (i : ℕ) → i < length xs → slice_get (xs ++ x ∷ []) i ≡ Some y
      → slice_get xs i ≡ Some y
  old_at xs x y i within p = elim (at_end xs x i y p) [
    | inl q ↦ q
    | inr q ↦ let e = q.0 in absurd (omega (arith, within, e))
  ]

  below_back :
      (xs : List T) (x : T) (i j : ℕ) → i < length xs → j < length xs
      → IsBelow cmp (xs ++ x ∷ []) i j
      → IsBelow cmp xs i j
  below_back xs x i j r s (a, b, p, q, l) = (a, b, old_at xs x a i r p, old_at xs x b j s q, l)

  below_kept :
      (xs : List T) (x : T) (i j : ℕ) → IsBelow cmp xs i j → IsBelow cmp (xs ++ x ∷ []) i j
  below_kept xs x i j (a, b, p, q, l) = (a, b, kept_at xs x i a p, kept_at xs x j b q, l)

  less_below :
      (xs : List T) (x : T) (i : ℕ) → against cmp xs x i ≡ Less
      → IsBelow cmp (xs ++ x ∷ []) i (length xs)
  less_below xs x i h =
      let at : (r : Option T) → slice_get xs i ≡ r → IsBelow cmp (xs ++ x ∷ []) i (length xs) =
      λ r. elim r as (λ v. slice_get xs i ≡ v → IsBelow cmp (xs ++ x ∷ []) i (length xs)) [
        | None ↦ λ p.
            absurd (greater_is_not_less (sym (ap (λ v. unwrap_or (option_map (λ z. cmp z x) v) Greater) p) ∙ h))
        | Some y ↦ λ p. (y, x, kept_at xs x i y p, last_at xs x, sym (against_at xs x y i p) ∙ h)
      ] in
      at (slice_get xs i) refl

  greater_above :
      (xs : List T) (x : T) (i : ℕ) → i < length xs → against cmp xs x i ≡ Greater
      → IsBelow cmp (xs ++ x ∷ []) (length xs) i
  greater_above xs x i within h =
      let y = get_or xs i x in
      let p : slice_get xs i ≡ Some y = slice_get-get_or xs i x within in (
        x,
        y,
        last_at xs x,
        kept_at xs x i y p,
        o.antisymm x y ∙ ap ordering_reverse (sym (against_at xs x y i p) ∙ h),
      )

  -- a new element at the end and its index in the gap for it
  pub order_push :
      (xs : List T) (x : T) (chunks made : List (List ℕ)) (c at : ℕ) → IsElementOrder cmp xs chunks
      → IsGapFor cmp xs chunks x c at
      → All (λ v. v ≢ []) made
      → concat made ≡ before chunks c at ++ length xs ∷ after chunks c at
      → IsElementOrder cmp (xs ++ x ∷ []) made
  order_push xs x chunks made c at order gap filled joined =
      let front = before chunks c at in
      let back = after chunks c at in
      let n = length xs in
      let more = xs ++ x ∷ [] in
      let old = parts_ordered xs chunks c at order in
      let kept : AreOrdered (IsBelow cmp more) (front ++ back) =
      ordered_weaker (IsBelow cmp xs) (IsBelow cmp more) (front ++ back)
      (λ i j p q b. below_kept xs x i j b) old in
      let sound : All (λ i. i < length xs) (front ++ back) =
      subst (All (λ i. i < length xs)) (sym (before_after chunks c at)) order.sound in
      let over : All (IsBelow cmp more n) back =
      all_from_contained (IsBelow cmp more n) back (λ j q.
      greater_above xs x j
      (All-contains (λ i. i < length xs) (front ++ back) j sound (Contains-append_right front back j q))
      (All-contains (λ i. against cmp xs x i ≡ Greater) back j gap.greater q)) in
      let up : AreOrdered (IsBelow cmp more) (front ++ n ∷ back) =
      ordered_append (IsBelow cmp more) front (n ∷ back)
      (ordered_left (IsBelow cmp more) front back kept)
      (over, ordered_right (IsBelow cmp more) front back kept)
      (λ i j p q. elim (head_or_tail n j back q) [
        | inl e ↦ subst (IsBelow cmp more i) e
            (less_below xs x i (All-contains (λ k. against cmp xs x k ≡ Less) front i gap.less p))
        | inr r ↦ ordered_across (IsBelow cmp more) front back kept i j p r
      ]) in
      let long : length more ≡ suc n = grind (arith, rules, common_steps) in
      record {
        filled = filled;
        ascending = subst (AreOrdered (IsBelow cmp more)) (sym joined) up;
        sound =
            subst (All (λ i. i < length more)) (sym joined)
            (all_from_contained (λ i. i < length more) (front ++ n ∷ back) (λ i p.
            elim (Contains-append_cases front (n ∷ back) i p) [
              | inl q ↦ more_room xs x i (All-contains (λ j. j < length xs) (front ++ back) i sound
                  (Contains-append_left front back i q))
              | inr q ↦ elim (head_or_tail n i back q) [
                | inl e ↦ subst (λ j. j < length more) e (omega (arith, long))
                | inr r ↦ more_room xs x i (All-contains (λ j. j < length xs) (front ++ back) i sound
                    (Contains-append_right front back i r))
              ]
            ]));
        complete = λ i within. subst (λ v. Contains v i) (sym joined)
            (elim (among_more xs x i within) [
              | inl old_one ↦ elim (Contains-append_cases front back i
                  (subst (λ v. Contains v i) (sym (before_after chunks c at)) (order.complete i old_one))) [
                    | inl q ↦ Contains-append_left front (n ∷ back) i q
                    | inr q ↦ Contains-append_right front (n ∷ back) i (tail_in n i back q)
                  ]
              | inr e ↦ Contains-append_right front (n ∷ back) i
                  (subst (Contains (n ∷ back)) (sym e) (head_in n back))
            ]);
      }

  -- the last element and its index taken out
  pub order_pop :
      (xs : List T) (x : T) (chunks made : List (List ℕ)) (c at : ℕ) (rest : List ℕ)
      → IsElementOrder cmp (xs ++ x ∷ []) chunks
      → after chunks c at ≡ length xs ∷ rest
      → All (λ v. v ≢ []) made
      → concat made ≡ before chunks c at ++ rest
      → IsElementOrder cmp xs made
  order_pop xs x chunks made c at rest order first filled joined =
      let front = before chunks c at in
      let n = length xs in
      let more = xs ++ x ∷ [] in
      let whole : front ++ n ∷ rest ≡ concat chunks =
      ap (λ t. front ++ t) (sym first) ∙ before_after chunks c at in
      let old : AreOrdered (IsBelow cmp more) (front ++ n ∷ rest) =
      subst (AreOrdered (IsBelow cmp more)) (sym whole) order.ascending in
      let sound : All (λ i. i < length more) (front ++ n ∷ rest) =
      subst (All (λ i. i < length more)) (sym whole) order.sound in
      let tail = ordered_right (IsBelow cmp more) front (n ∷ rest) old in
      -- no other index is the last
      let other_front : (i : ℕ) → Contains front i → i < n = λ i p.
      smaller xs x i
      (All-contains (λ j. j < length more) (front ++ n ∷ rest) i sound
      (Contains-append_left front (n ∷ rest) i p))
      (inl (ordered_across (IsBelow cmp more) front (n ∷ rest) old i n p (head_in n rest))) in
      let other_rest : (i : ℕ) → Contains rest i → i < n = λ i p.
      smaller xs x i
      (All-contains (λ j. j < length more) (front ++ n ∷ rest) i sound
      (Contains-append_right front (n ∷ rest) i (tail_in n i rest p)))
      (inr (All-contains (IsBelow cmp more n) rest i tail.0 p)) in
      let small : (i : ℕ) → Contains (front ++ rest) i → i < n = λ i p.
      elim (Contains-append_cases front rest i p)
      [ inl q ↦ other_front i q | inr q ↦ other_rest i q ] in
      let without : AreOrdered (IsBelow cmp more) (front ++ rest) =
      ordered_append (IsBelow cmp more) front rest
      (ordered_left (IsBelow cmp more) front (n ∷ rest) old) tail.1
      (λ i j p q.
      ordered_across (IsBelow cmp more) front (n ∷ rest) old i j p (tail_in n j rest q)) in
      record {
        filled = filled;
        ascending =
            subst (AreOrdered (IsBelow cmp xs)) (sym joined)
            (ordered_weaker (IsBelow cmp more) (IsBelow cmp xs) (front ++ rest)
            (λ i j p q b. below_back xs x i j (small i p) (small j q) b) without);
        sound =
            subst (All (λ i. i < length xs)) (sym joined)
            (all_from_contained (λ i. i < length xs) (front ++ rest) small);
        complete = λ i within. subst (λ v. Contains v i) (sym joined)
            (elim (Contains-append_cases front (n ∷ rest) i
            (subst (λ v. Contains v i) (sym whole) (order.complete i (more_room xs x i within)))) [
              | inl q ↦ Contains-append_left front rest i q
              | inr q ↦ elim (head_or_tail n i rest q) [
                | inl e ↦ absurd (omega (arith, within, e))
                | inr r ↦ Contains-append_right front rest i r
              ]
            ]);
      }
