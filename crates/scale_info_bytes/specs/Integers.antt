-- Encodings of integers.
use Rattle.std.specs.Prelude.{◌≡◌, ℕ, ◌<◌, ◌≤◌, ◌+◌, ◌*◌, ◌^◌, List, [], ◌∷◌}
use Rattle.std.specs.Int.{w16, w32, to_le_bytes}

-- a byte encodes itself
pub record EncodesU8 (n : ℕ) (b : List ℕ) : Type 0 where
  pub fits : n < 256
  pub is : b ≡ n ∷ []

-- four bytes, the lowest first
pub record EncodesU32 (n : ℕ) (b : List ℕ) : Type 0 where
  pub fits : n < 2 ^ 32
  pub is : b ≡ to_le_bytes w32 n

-- A compact integer takes as few as it needs of one, two, four or five bytes, the lowest first. The
-- two low bits of the first byte say how many.
pub data EncodesCompact : ℕ → List ℕ → Type 0 where
  in_one : {n : ℕ} {b : List ℕ} → n < 64 → b ≡ 4 * n ∷ [] → EncodesCompact n b
  in_two :
      {n : ℕ} {b : List ℕ} → 64 ≤ n → n < 16384 → b ≡ to_le_bytes w16 (4 * n + 1)
      → EncodesCompact n b
  in_four :
      {n : ℕ} {b : List ℕ} → 16384 ≤ n → n < 1073741824 → b ≡ to_le_bytes w32 (4 * n + 2)
      → EncodesCompact n b
  in_five :
      {n : ℕ} {b : List ℕ} → 1073741824 ≤ n → n < 2 ^ 32 → b ≡ 3 ∷ to_le_bytes w32 n
      → EncodesCompact n b
