-- Why the functions that go over a value end.
use Rattle.std.proofs.Common.{ℕ, ◌*◌, ◌-◌}

-- The measure of one of them, where `left` levels are left for a value: of the `width` calls that a level takes at
-- most, so many were made before.
abbrev pub calls_left : ℕ → ℕ → ℕ → ℕ
calls_left width made left = width * left - made
