-- A walk, reference by reference.
use Rattle.std.proofs.Common.{◌≡◌, ◌≢◌, set, ℕ, ◌+◌, ◌-◌, ◌^◌, ◌<◌, ◌≤◌, List, [], ◌∷◌, ◌++◌}
use Rattle.std.proofs.Common.{length, Some, None}
use Rattle.std.proofs.Common.{slice_get, get_or, sum_by, refl, ap, sym, ◌∙◌, subst, arith, ◌⊎◌, inl}
use Rattle.std.proofs.Common.{inr}
use Rattle.std.proofs.Common.{Contains, drop, length-append, suc, take, take_all}
use Rattle.std.proofs.lemmas.Bool.{cases_lt}
use Rattle.std.proofs.lemmas.List.{length_push, length-set, get_or-set_same, get_or-set_other}
use Rattle.std.proofs.lemmas.List.{take_more, take-append-drop}
use Rattle.std.proofs.lemmas.List.FromFn.{length-range_with_len}
use Rattle.std.proofs.lemmas.List.Sums.{sum_by_push, sum_by-cons}
use Rattle.std.proofs.lemmas.Option.{slice_get-get_or, same_Some, none-some, slice_get_within}
use Rattle.std.proofs.lemmas.Option.{slice_get_past}
use Rattle.std.specs.List.{range_with_len}
use Rattle.scale_info_numberings.proofs.ExtensionOfExtension.{extension_composes}
use Rattle.scale_info_numberings.proofs.Extensions.{numbering_of_extension}
use Rattle.scale_info_numberings.proofs.FirstOutside.{first_after, first_of_more}
use Rattle.scale_info_numberings.proofs.FirstReference.{extends_by_none}
use Rattle.scale_info_numberings.proofs.Places.{place_of, contains_at, contains_head, contains_tail}
use Rattle.scale_info_numberings.proofs.Places.{contains_cases}
use Rattle.scale_info_numberings.proofs.Places.{at_range, at_seam, from_left, at_left}
use Rattle.scale_info_numberings.proofs.Reached.{extension_holds}
use Rattle.scale_info_numberings.specs.Extensions.{IsExtension}
use Rattle.scale_info_numberings.specs.Numberings.{AreDistinct, IsNumbering}
use Rattle.scale_info_numberings.specs.Systems.{Entry, System, IsReachedPast, root, next, looks}
use Rattle.scale_info_numberings.specs.Systems.{refs_in, IsFirstOutside}
use Rattle.scale_info_numberings.proofs.WorkLists.{IsWalking, walk_adds, walk_passes, walk_starts}
use Rattle.scale_info_numberings.proofs.Weights.{weight, weight_in, distinct_sums}
use Rattle.scale_info_walk.specs.Walks.{AreNumbers, IsWalkError, IsLook, IsNextOf, IsWalk}
use Rattle.scale_info_walk.specs.declared.walk.RetainError.{RetainError}
use Rattle.scale_info_walk.specs.declared.walk.RetainError.TheVariants.{Dangling, TooManyTypes}
use Rattle.scale_info_walk.specs.declared.walk.RetainError.TheVariants.{Memory}

-- ---- the references that are left

-- where r is the next reference, the list is r and those left, and one more is counted
pub next_some :
    (xs left : List ℕ) (r before after : ℕ) → IsNextOf xs (Some r) left before after
    → (xs ≡ r ∷ left) × (after ≡ before + 1)
next_some [] left r before after h = absurd (none-some r (sym h.0))
next_some (x ∷ xs) left r before after h = ((λ i. same_Some x r (sym h.0) i ∷ sym h.1 i), h.2)

-- where there is no next reference, the list is empty, and nothing more is counted
pub next_none :
    (xs left : List ℕ) (before after : ℕ) → IsNextOf xs None left before after
    → (xs ≡ []) × (left ≡ []) × (after ≡ before)
next_none [] left before after h = (refl, h.1, h.2)
next_none (x ∷ xs) left before after h = absurd (none-some x h.0)

-- what comes before is no longer than the whole
pub short_before :
    (refs left all : List ℕ) → all ≡ refs ++ left → length all < 2 ^ 63 → length refs < 2 ^ 63
short_before refs left all e h =
    let long : length all ≡ length refs + length left = ap length e ∙ length-append refs left in omega arith

-- ---- dense lists

count : List ℕ → ℕ
count L = sum_by (λ _. 1) L

counted : (L : List ℕ) → count L ≡ length L
unfolding count
counted [] = refl
counted (x ∷ L) = let r = counted L in let c = sum_by-cons (λ (_ : ℕ). 1) x L in omega arith

-- distinct numbers below n are at most n
pub fits :
    (L : List ℕ) (n : ℕ) → AreDistinct L → ((k : ℕ) → Contains L k → k < n) → length L ≤ n
unfolding count
fits L n distinct all =
    let h =
    distinct_sums (λ _. 1) L (range_with_len 0 n) distinct
    (λ k c. inr (contains_at (range_with_len 0 n) k k (at_range n k (all k c)))) in
    let a = counted L in
    let b = counted (range_with_len 0 n) in
    let e : length (range_with_len 0 n) ≡ n = length-range_with_len 0 n in
    omega arith

module _ (order numbers : List ℕ) (x : AreNumbers order numbers) where
  -- no index stands in the order twice
  pub numbers_distinct : AreDistinct order
  numbers_distinct i j n e h = same_Some i j (sym (x.placed i n e) ∙ x.placed j n h)

  -- each index in the order is one of the dense list
  pub numbers_within : (k : ℕ) → Contains order k → k < length numbers
  numbers_within k c =
      let p = place_of order k c in slice_get_within numbers k p.0 (x.placed p.0 k p.1)

  -- the order is no longer than the dense list
  pub numbers_long : length order ≤ length numbers
  numbers_long = fits order (length numbers) numbers_distinct numbers_within

  -- an index with a number stands in the order
  pub known : (k n : ℕ) → slice_get numbers k ≡ Some n → n ≢ 4294967295 → Contains order k
  known k n e h = contains_at order k n (x.numbered k n e h)

  -- one without a number does not
  pub unknown :
      (k : ℕ) → slice_get numbers k ≡ Some 4294967295 → length numbers ≤ 4294967295
      → ¬ (Contains order k)
  unknown k e few c =
      let p = place_of order k c in
      let same : p.0 ≡ 4294967295 = same_Some p.0 4294967295 (sym (x.placed p.0 k p.1) ∙ e) in
      let within = slice_get_within order p.0 k p.1 in
      let long = numbers_long in
      omega arith

-- the element that was written stands at its index, and the others stay
pub set_at :
    {A : Type 0} (xs : List A) (i : ℕ) (v : A) → i < length xs → slice_get (set xs i v) i ≡ Some v
set_at xs i v h =
    let l = length-set xs i v in
    slice_get-get_or (set xs i v) i v (omega arith) ∙ ap Some (get_or-set_same xs i v v h)

-- setting the element at one place leaves those at other places as they were
pub set_other :
    {A : Type 0} (xs : List A) (i j : ℕ) (v : A) → j ≢ i
    → slice_get (set xs i v) j ≡ slice_get xs j
set_other xs i j v ne =
    let l = length-set xs i v in
    elim (cases_lt j (length xs)) [
      | inl h ↦
          slice_get-get_or (set xs i v) j v (omega arith)
          ∙ (ap Some (get_or-set_other xs i j v v ne) ∙ sym (slice_get-get_or xs j v h))
      | inr h ↦ slice_get_past (set xs i v) j (omega arith) ∙ sym (slice_get_past xs j h)
    ]

-- two natural numbers are equal, or they are not
pub same_or_not : (i j : ℕ) → (i ≡ j) ⊎ (i ≢ j)
same_or_not i j =
    elim (cases_lt i j) [
      | inl h ↦ inr (λ e. omega arith)
      | inr h ↦
          elim (cases_lt j i) [
            | inl k ↦ inr (λ e. omega arith)
            | inr k ↦ inl (omega arith)
          ]
    ]

-- an index without a number gets the next one
pub numbers_more :
    (order numbers : List ℕ) (k : ℕ) → AreNumbers order numbers
    → slice_get numbers k ≡ Some 4294967295 → length numbers ≤ 4294967295
    → AreNumbers (order ++ k ∷ []) (set numbers k (length order))
numbers_more order numbers k x e few =
    let long = numbers_long order numbers x in
    let push : length (order ++ k ∷ []) ≡ length order + 1 = length_push order k in
    record {
      numbered = λ j n h ne.
          elim (same_or_not j k) [
            | inl same ↦
                let is : n ≡ length order =
                same_Some n (length order)
                (sym h ∙ (ap (λ z. slice_get (set numbers k (length order)) z) same
                ∙ set_at numbers k (length order) (slice_get_within numbers k 4294967295 e))) in
                ap (λ z. slice_get (order ++ k ∷ []) z) is ∙ (at_seam order [] k ∙ ap Some (sym same))
            | inr other ↦
                at_left order (k ∷ []) n j
                (x.numbered j n (sym (set_other numbers k j (length order) other) ∙ h) ne)
          ];
      placed = λ n j h.
          let within : n < length (order ++ k ∷ []) = slice_get_within (order ++ k ∷ []) n j h in
          elim (cases_lt n (length order)) [
            | inl low ↦
                let at = x.placed n j (from_left order (k ∷ []) n j low h) in
                set_other numbers k j (length order)
                (λ same.
                let is : n ≡ 4294967295 =
                same_Some n 4294967295 (sym at ∙ (ap (λ z. slice_get numbers z) same ∙ e)) in
                omega arith)
                ∙ at
            | inr high ↦
                let here : n ≡ length order = omega arith in
                let same : k ≡ j =
                same_Some k j (sym (at_seam order [] k) ∙ (ap (λ z. slice_get (order ++ k ∷ []) z) (sym here) ∙ h)) in
                ap (λ z. slice_get (set numbers k (length order)) z) (sym same)
                ∙ (set_at numbers k (length order) (slice_get_within numbers k 4294967295 e) ∙ ap Some (sym here))
          ];
    }

-- ---- one look

-- the work that is left: what all indices weigh, but for those in the order, and what is pending
abbrev pub work_left : {Sh : Type 0} → System Sh ℕ → ℕ → List ℕ → ℕ → ℕ
work_left S n order pending =
    (sum_by (weight S) (range_with_len 0 n) - sum_by (weight S) order) + pending

module _ {Sh : Type 0} (S : System Sh ℕ) where
  -- an index added to the order adds as many looks as it has references
  pub looks_more :
      (order : List ℕ) (id : ℕ) (d : Entry Sh ℕ) → S id ≡ Some d
      → looks S (order ++ id ∷ []) ≡ looks S order + length d.refs
  looks_more order id d s =
      sum_by_push (λ (n : ℕ). length (refs_in (S n))) order id
      ∙ ap (λ o. looks S order + length (refs_in o)) s

  -- an index that is numbered is in the order
  pub walk_more :
      (n : ℕ) (order numbers : List ℕ) (steps id : ℕ) (d : Entry Sh ℕ) → IsWalk S n order numbers steps
      → slice_get numbers id ≡ Some 4294967295 → S id ≡ Some d → length d.refs < 2 ^ 63
      → IsWalk S n (order ++ id ∷ []) (set numbers id (length order)) steps
  walk_more n order numbers steps id d x e s few =
      let more = looks_more order id d s in
      let push : length (order ++ id ∷ []) ≡ length order + 1 = length_push order id in
      let long = x.long in
      let small = x.few in
      let counted = x.counted in
      let bounded = x.bounded in
      record {
        dense = numbers_more order numbers id x.dense e (omega arith);
        long = length-set numbers id (length order) ∙ x.long;
        few = x.few;
        counted = omega arith;
        bounded = omega arith;
      }

  -- the indices of the order are indices
  pub walk_inside :
      (n : ℕ) (order numbers : List ℕ) (steps : ℕ) → IsWalk S n order numbers steps
      → (k : ℕ) → Contains order k → k < n
  walk_inside n order numbers steps x k c =
      let h = numbers_within order numbers x.dense k c in let l = x.long in omega arith

  -- more steps, as long as there are so many references
  pub walk_steps :
      (n : ℕ) (order numbers : List ℕ) (steps more : ℕ) → IsWalk S n order numbers steps
      → more ≤ looks S order → IsWalk S n order numbers more
  walk_steps n order numbers steps more x h =
      record { dense = x.dense; long = x.long; few = x.few; counted = h; bounded = x.bounded }

  -- no order is longer than there are indices
  pub walk_long :
      (n : ℕ) (order numbers : List ℕ) (steps : ℕ) → IsWalk S n order numbers steps
      → length order ≤ n
  walk_long n order numbers steps x =
      let h = numbers_long order numbers x.dense in let l = x.long in omega arith

  -- a look keeps what a walk keeps
  pub walk_looks :
      (old roots order left after left_after : List ℕ) (id : ℕ)
      → IsLook S id order left after left_after → IsWalking S old roots order (id ∷ left)
      → IsWalking S old roots after left_after
  walk_looks old roots order left after left_after id (inl h) x =
      rw (h.1, h.2) (walk_passes S old roots order left id h.0 x)
  walk_looks old roots order left after left_after id (inr h) x =
      rw (h.3, h.4) (walk_adds S old roots order left id h.0 h.2 h.1 x)

  -- each reference is looked at once
  pub look_counts :
      (order left after left_after : List ℕ) (id : ℕ)
      → IsLook S id order left after left_after
      → length left_after + looks S order ≡ length left + looks S after
  look_counts order left after left_after id (inl h) = rw (h.1, h.2) refl
  look_counts order left after left_after id (inr h) =
      let more = looks_more order id h.0 h.1 in
      rw (h.3, h.4) (rw (length-append h.0.refs left) (omega (arith, more)))

  -- a look leaves less work
  pub look_shrinks :
      (n : ℕ) (order left after left_after : List ℕ) (id : ℕ)
      → AreDistinct after → ((k : ℕ) → Contains after k → k < n)
      → IsLook S id order left after left_after
      → work_left S n after (length left_after) < work_left S n order (suc (length left))
  look_shrinks n order left after left_after id distinct inside (inl h) = rw (h.1, h.2) (omega arith)
  look_shrinks n order left after left_after id distinct inside (inr h) =
      let w = weight S in
      let all = range_with_len 0 n in
      let heavy : w id ≡ length h.0.refs + 1 = ap weight_in h.1 in
      let grown : sum_by w after ≡ sum_by w order + w id = ap (sum_by w) h.3 ∙ sum_by_push w order id in
      let room : sum_by w after ≤ sum_by w all =
      distinct_sums w after all distinct (λ k c. inr (contains_at all k k (at_range n k (inside k c)))) in
      let long : length left_after ≡ length h.0.refs + length left = ap length h.4 ∙ length-append h.0.refs left in
      omega arith

  -- the order is no shorter after a look, and longer where references were added
  pub look_grows :
      (order after left_after : List ℕ) (id : ℕ)
      → IsLook S id order [] after left_after
      → 0 < length left_after → length order < length after
  look_grows order after left_after id (inl h) some = absurd (let e : length left_after ≡ 0 = ap length h.2 in omega arith)
  look_grows order after left_after id (inr h) some =
      let long : length after ≡ length order + 1 = ap length h.3 ∙ length_push order id in omega arith

  -- what is reached from the next reference is reached from the roots
  pub reached_through :
      (old roots order rest : List ℕ) (n : ℕ) → IsWalking S old roots order (n ∷ rest)
      → (m : ℕ) → IsReachedPast S order (n ∷ []) m → IsReachedPast S old roots m
  reached_through old roots order rest n x m (root p c u) =
      elim (contains_cases n [] p c) [
        | inl e ↦
            subst (λ z. IsReachedPast S old roots z) e
            (x.reached n (contains_head n rest) (λ k. u (subst (λ z. Contains order z) e (x.grown n k))))
        | inr k ↦ absurd (let q = place_of [] p k in none-some p q.1)
      ]
  reached_through old roots order rest n x m (next p q d h s c u) =
      next p q d (reached_through old roots order rest n x p h) s c (λ k. u (x.grown q k))

  -- why the look at the next reference stops is why the walk stops
  pub cause_through :
      (n : ℕ) (old roots order rest : List ℕ) (id : ℕ) (e : RetainError)
      → IsWalking S old roots order (id ∷ rest)
      → IsWalkError S n order (id ∷ []) e → IsWalkError S n old roots e
  cause_through n old roots order rest id (Dangling k) x c =
      (x.first k (first_of_more S order (id ∷ []) rest k c.0), c.1)
  cause_through n old roots order rest id TooManyTypes x c = c
  cause_through n old roots order rest id Memory x c = tt

  -- the next reference has been visited
  pub walk_visits :
      (old roots order new rest : List ℕ) (id : ℕ) → IsWalking S old roots order (id ∷ rest)
      → IsExtension S order (id ∷ []) new → IsWalking S old roots new rest
  walk_visits old roots order new rest id x y =
      let held = extension_holds S order (id ∷ []) new y in
      record {
        distinct = y.1.distinct;
        then = λ M z. x.then M (extension_composes S order (id ∷ []) new rest M y z);
        grown = λ m c. (held m).1 (inl (x.grown m c));
        held = λ m c.
            elim ((held m).0 c) [
              | inl k ↦ x.held m k
              | inr r ↦ inr (reached_through old roots order rest id x m r)
            ];
        reached = λ m c u. x.reached m (contains_tail id rest m c) u;
        first = λ m f. x.first m (first_after S order (id ∷ []) new rest m y f);
      }

  -- what holds at each reference of a walk from one root, which began with the order `old`, after
  -- `before` steps
  abbrev pub WalksFrom : ℕ → List ℕ → ℕ → ℕ → List ℕ → List ℕ → ℕ → List ℕ → Type 0
  WalksFrom n old before id order numbers steps left =
      IsWalking S old (id ∷ []) order left
      × IsWalk S n order numbers steps
      × (steps + length left + looks S old ≡ before + looks S order)

  -- the look at the root, before which nothing is left
  pub first_look :
      (old left order left_after : List ℕ) (id : ℕ) → left ≡ []
      → IsLook S id old left order left_after → IsLook S id old [] order left_after
  first_look old left order left_after id none look =
      subst (λ (ls : List ℕ). IsLook S id old ls order left_after) none look

  -- so it is after the look at the root
  pub walk_begins :
      (n : ℕ) (old olds order numbers left : List ℕ) (before id steps : ℕ)
      → AreNumbers old olds → IsLook S id old [] order left → IsWalk S n order numbers steps
      → steps ≡ before → WalksFrom n old before id order numbers steps left
  walk_begins n old olds order numbers left before id steps dense look walk same =
      let counts = look_counts old [] order left id look in (
        walk_looks old (id ∷ []) old [] order left id look
            (walk_starts S old (id ∷ []) (numbers_distinct old olds dense)),
        walk,
        omega (arith, counts, same),
      )

-- ---- the walk of a list of roots, root by root

module _ {Sh : Type 0} (S : System Sh ℕ) where
  -- the empty order extends nothing by no roots
  pub roots_none : (order : List ℕ) → order ≡ [] → IsExtension S [] [] order
  roots_none order e =
      rw e (extends_by_none S [] (λ i j n p q. absurd (none-some n p)))

  -- what holds before the first root
  pub roots_begin :
      (n : ℕ) (order numbers : List ℕ) (steps : ℕ) → order ≡ [] → IsWalk S n order numbers steps
      → steps ≡ 0
      → IsExtension S [] [] order × IsWalk S n order numbers steps × (steps ≡ looks S order)
  roots_begin n order numbers steps none walk zero =
      (roots_none order none, walk, zero ∙ ap (looks S) (sym none))

  -- an extension by the first i roots, extended by the next root, is one by the first i + 1
  pub roots_more :
      (roots order new : List ℕ) (i d : ℕ) → i < length roots
      → IsExtension S [] (take i roots) order
      → IsExtension S order (get_or roots i d ∷ []) new → IsExtension S [] (take (i + 1) roots) new
  roots_more roots order new i d h x y =
      subst (λ qs. IsExtension S [] qs new) (sym (take_more roots i d h))
      (extension_composes S [] (take i roots) order (get_or roots i d ∷ []) new x y)

  -- an extension of nothing by all roots is a numbering from them
  pub roots_all :
      (roots order : List ℕ) (i : ℕ) → length roots ≤ i → IsExtension S [] (take i roots) order
      → IsNumbering S roots order
  roots_all roots order i h x =
      numbering_of_extension S roots order
      (subst (λ rs. IsExtension S [] rs order) (take_all i roots h) x)

  -- a cause at the next root, past what the first i roots reach, is one for all of them, with
  -- nothing known
  pub cause_at_root :
      (n : ℕ) (order roots : List ℕ) (i d : ℕ) (e : RetainError) → i < length roots
      → IsExtension S [] (take i roots) order
      → IsWalkError S n order (get_or roots i d ∷ []) e → IsWalkError S n [] roots e
  cause_at_root n order roots i d (Dangling id) h x c =
      let so_far =
      first_after S [] (take i roots) order (get_or roots i d ∷ []) id x c.0 in (
        subst (λ rs. IsFirstOutside S [] rs id) (take-append-drop (i + 1) roots)
            (first_of_more S [] (take (i + 1) roots) (drop (i + 1) roots) id
            (subst (λ rs. IsFirstOutside S [] rs id) (sym (take_more roots i d h)) so_far)),
        c.1,
      )
  cause_at_root n order roots i d TooManyTypes h x c = c
  cause_at_root n order roots i d Memory h x c = c

  nothing_outside : (m : ℕ) → IsFirstOutside S [] [] m → ⊥
  nothing_outside m x = elim x [ ]

  -- what stops before the first root stops for these roots too
  pub cause_before :
      (n : ℕ) (roots : List ℕ) (e : RetainError) → IsWalkError S n [] [] e → IsWalkError S n [] roots e
  cause_before n roots (Dangling id) c = absurd (nothing_outside id c.0)
  cause_before n roots TooManyTypes c = c
  cause_before n roots Memory c = tt
