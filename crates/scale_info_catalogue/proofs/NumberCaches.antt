-- A number that was put into a cache is in it.
use Rattle.std.proofs.Common.{◌≡◌, ◌≢◌, ℕ, ◌-◌, ◌<◌, List, [], ◌∷◌, Contains, length, sym, subst}
use Rattle.std.proofs.Common.{arith}
use Rattle.std.proofs.Common.{slice_set}
use Rattle.std.proofs.lemmas.Nat.{and_le_r}
use Rattle.std.proofs.lemmas.List.{get_or-set_same, length-set}
use Rattle.scale_info_catalogue.specs.NumberCaches.{slot_of}

-- slots after a number was put into that of a hash have it, if there are slots
pub put_in_slots :
    (xs ys : List ℕ) (hash n : ℕ) → ys ≡ slice_set xs (slot_of xs hash) n → ys ≢ []
    → Contains ys n
put_in_slots [] ys hash n e some = absurd (some e)
put_in_slots (x ∷ xs) ys hash n e some =
    let i = slot_of (x ∷ xs) hash in
    let within : i < length (x ∷ xs) = omega (arith, and_le_r hash (length (x ∷ xs) - 1)) in
    let long = length-set (x ∷ xs) i n in
    subst (λ zs. Contains zs n) (sym e)
    (i, omega (arith, within, long), get_or-set_same (x ∷ xs) i n n within)
