-- Trees that are read as numbers.
use Rattle.std.proofs.Common.{◌≡◌, ℕ, Some, sym, ap, option_and_then}
use Rattle.serde_json.specs.Data.{Data, null, boolean, number, string, array, object}
use Rattle.serde_json.specs.Data.{unsigned, negative, float}
use Rattle.serde_json.specs.Find.{as_number, as_u64}

-- a tree that is read as an integer which isn't negative is that number
pub unsigned_of :
    (d : Data) (n : ℕ) → Some n ≡ option_and_then as_u64 (as_number d) → d ≡ number (unsigned n)
unsigned_of null n e = absurd cc
unsigned_of (boolean b) n e = absurd cc
unsigned_of (number (unsigned m)) n e = let same : n ≡ m = cc in ap (λ k. number (unsigned k)) (sym same)
unsigned_of (number (negative z)) n e = absurd cc
unsigned_of (number (float x)) n e = absurd cc
unsigned_of (string s) n e = absurd cc
unsigned_of (array ds) n e = absurd cc
unsigned_of (object ms) n e = absurd cc
