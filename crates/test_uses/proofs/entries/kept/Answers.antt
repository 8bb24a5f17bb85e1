use Rattle.std.proofs.Common.{◌<◌, ◌≤◌, ℕ, zero, suc, length, arith, get_or, [], ◌∷◌}
use Rattle.test_uses.proofs.entries.kept.Goals as goal

-- the indices of the test are below six
below_six : (n : ℕ) → 6 ≤ n → (k d : ℕ) → k < 5 → get_or (1 ∷ 2 ∷ 3 ∷ 4 ∷ 0 ∷ []) k d < n
below_six n six zero d l = omega arith
below_six n six (suc zero) d l = omega arith
below_six n six (suc (suc zero)) d l = omega arith
below_six n six (suc (suc (suc zero))) d l = omega arith
below_six n six (suc (suc (suc (suc zero)))) d l = omega arith
below_six n six (suc (suc (suc (suc (suc k))))) d l = absurd (omega arith)

pub renumber_entries-requires-clause-within : goal.renumber_entries-requires-clause-within
renumber_entries-requires-clause-within c = below_six (length c.as_slice-offsets.result.now) (omega arith)
