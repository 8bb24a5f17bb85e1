-- Numbers that are taken back from a dense list, one by one in the order.
use Rattle.std.proofs.Common.{◌≡◌, ◌≢◌, set, ℕ, ◌+◌, ◌<◌, ◌≤◌, List, [], length, Some, slice_get}
use Rattle.std.proofs.Common.{get_or, sym, ap, ◌∙◌, subst, arith, inl, inr}
use Rattle.std.proofs.lemmas.Option.{none-some, same_Some, slice_get_past, slice_get_within}
use Rattle.std.proofs.lemmas.Option.{slice_get-get_or}
use Rattle.scale_info_walk.proofs.Visiting.{same_or_not, set_at, set_other}
use Rattle.scale_info_walk.specs.Walks.{AreNumbers}

-- the numbers that are left are places of the order, from i on
abbrev pub AreLeftFrom : List ℕ → ℕ → List ℕ → Type 0
AreLeftFrom order i numbers =
    (k n : ℕ) → slice_get numbers k ≡ Some n → n ≢ 4294967295
    → (slice_get order n ≡ Some k) × (i ≤ n)

-- the element that is read of a list, which is the order
pub read_of :
    (xs order : List ℕ) (i : ℕ) → xs ≡ order → i < length xs → slice_get order i ≡ Some (get_or xs i 0)
read_of xs order i is within =
    subst (λ (ys : List ℕ). slice_get ys i ≡ Some (get_or xs i 0)) is (slice_get-get_or xs i 0 within)

-- the place of another index is another one
later :
    (order : List ℕ) (i id k n : ℕ) → slice_get order i ≡ Some id → k ≢ id
    → slice_get order n ≡ Some k → i ≤ n → i + 1 ≤ n
later order i id k n at other e h =
    elim (same_or_not n i) [
      | inl same ↦ absurd (other (same_Some k id (sym e ∙ (ap (λ z. slice_get order z) same ∙ at))))
      | inr ne ↦ omega (arith, h, ne)
    ]

-- at first all are left
pub left_first : (order numbers : List ℕ) → AreNumbers order numbers → AreLeftFrom order 0 numbers
left_first order numbers x = λ k n e ne. (x.numbered k n e ne, omega arith)

-- the number of the next index is taken back
pub left_next :
    (order numbers : List ℕ) (i id : ℕ) → slice_get order i ≡ Some id → id < length numbers
    → AreLeftFrom order i numbers → AreLeftFrom order (i + 1) (set numbers id 4294967295)
left_next order numbers i id at within x = λ k n e ne.
    elim (same_or_not k id) [
      | inl same ↦
          absurd (ne (same_Some n 4294967295
          (sym e ∙ (ap (λ z. slice_get (set numbers id 4294967295) z) same ∙ set_at numbers id 4294967295 within))))
      | inr other ↦
          let h = x k n (sym (set_other numbers id k 4294967295 other) ∙ e) ne in
          (h.0, later order i id k n at other h.0 h.1)
    ]

-- the next index is none of the list
pub left_past :
    (order numbers : List ℕ) (i id : ℕ) → slice_get order i ≡ Some id → length numbers ≤ id
    → AreLeftFrom order i numbers → AreLeftFrom order (i + 1) numbers
left_past order numbers i id at past x = λ k n e ne.
    let h = x k n e ne in
    let within = slice_get_within numbers k n e in
    (h.0, later order i id k n at (λ same. omega (arith, within, past, same)) h.0 h.1)

-- at last none is left
pub left_last : (order numbers : List ℕ) → AreLeftFrom order (length order) numbers → AreNumbers [] numbers
left_last order numbers x =
    record {
      numbered = λ k n e ne.
          let h = x k n e ne in absurd (none-some k (sym (slice_get_past order n h.1) ∙ h.0));
      placed = λ n k e. absurd (none-some k e);
    }
