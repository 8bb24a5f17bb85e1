-- What a proof knows of bytes that a function borrows, as the laws of values ask for it.
use Rattle.std.specs.Prelude.{ℕ, List, [], ◌∷◌, slice_index_or}
use Rattle.std.specs.List.{AllByRecursion}
use Rattle.std.proofs.Common.{Fits, arith, suc, w8}
use Rattle.scale_info_bytes.specs.Encodings.{IsByte}

-- elements that fit eight bits are bytes: so those of a parameter `input: &[u8]` are, of which the
-- check gives `c.type_inv.input`
pub are_bytes :
    (xs : List ℕ) → ((i : ℕ) → Fits w8 (slice_index_or xs i 0)) → AllByRecursion IsByte xs
are_bytes [] h = tt
are_bytes (x ∷ xs) h =
    let first : Fits w8 x = h 0 in (omega arith, are_bytes xs (λ i. h (suc i)))
