-- Tests of equality.
use Rattle.std.specs.Prelude.{◌≡◌, ◌↔◌, Bool, IsTrue}

-- the test is true exactly where both are one value
abbrev pub DecidesValues : {A : Type 0} → (A → A → Bool) → Type 0
DecidesValues {A} eq = (a b : A) → IsTrue (eq a b) ↔ (a ≡ b)
