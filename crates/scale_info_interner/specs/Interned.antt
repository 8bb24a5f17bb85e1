-- Lists of distinct elements, in which an element is known by its index.
use Rattle.std.specs.Prelude.{◌≡◌, ℕ, Bool, IsTrue, List, Some, slice_get}

-- the element at index i equals x
abbrev pub IsIndexOf : {T : Type 0} → (T → T → Bool) → List T → T → ℕ → Type 0
IsIndexOf {T} eq xs x i = (y : T) × (slice_get xs i ≡ Some y) × IsTrue (eq x y)

-- x equals one of the elements
abbrev pub IsKnown : {T : Type 0} → (T → T → Bool) → List T → T → Type 0
IsKnown eq xs x = (i : ℕ) × IsIndexOf eq xs x i

-- x equals none of the elements
abbrev pub IsNew : {T : Type 0} → (T → T → Bool) → List T → T → Type 0
IsNew eq xs x = IsKnown eq xs x → ⊥

-- no two elements are equal
abbrev pub AreDistinctBy : {T : Type 0} → (T → T → Bool) → List T → Type 0
AreDistinctBy {T} eq xs =
    (i j : ℕ) (x y : T) → slice_get xs i ≡ Some x → slice_get xs j ≡ Some y → IsTrue (eq x y)
    → i ≡ j
