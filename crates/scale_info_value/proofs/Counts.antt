-- Counts are the compact integers of the grammar of tables.
use Rattle.std.proofs.Common.{◌≡◌, ℕ, ◌+◌, ◌*◌, ◌/◌, ◌%◌, ◌^◌, ◌<◌, ◌≤◌, ◌==◌, List, ◌∷◌, ◌++◌}
use Rattle.std.proofs.Common.{true, false, ap, ◌∙◌, arith}
use Rattle.std.proofs.lemmas.Grind.{common_steps}
use Rattle.scale_info_bytes.specs.Integers.{EncodesCompact, in_one, in_two, in_four, in_five}
use Rattle.scale_info_value.specs.Outcomes.{decoded, and_then}
use Rattle.scale_info_value.specs.IntegerDecoders.{at_least, below, compact_after, count}

mode_is : (a b : ℕ) → a ≡ b → (a == b) ≡ true
mode_is a b e = grind (arith, common_steps)

mode_is_not : (a b : ℕ) → (a ≡ b → ⊥) → (a == b) ≡ false
mode_is_not a b e = grind (arith, common_steps)

yes_below : (limit n : ℕ) (rest : List ℕ) → n < limit → below limit n rest ≡ decoded n rest
yes_below limit n rest h = grind (arith, common_steps)

yes_at_least : (least n : ℕ) (rest : List ℕ) → least ≤ n → at_least least n rest ≡ decoded n rest
yes_at_least least n rest h = grind (arith, common_steps)

behind_one : (mode high : ℕ) (rest : List ℕ) → mode ≡ 0 → compact_after mode high rest ≡ decoded high rest
behind_one mode high rest e = grind (arith, common_steps)

behind_two :
    (mode high x : ℕ) (rest : List ℕ) → mode ≡ 1 → 64 ≤ high + 64 * x → compact_after mode high (x ∷ rest)
    ≡ decoded (high + 64 * x) rest
behind_two mode high x rest e h = grind (arith, common_steps)

behind_four :
    (mode high x y z : ℕ) (rest : List ℕ) → mode ≡ 2 → 16384 ≤ high + 64 * (x + 256 * (y + 256 * z))
    → compact_after mode high (x ∷ y ∷ z ∷ rest) ≡ decoded (high + 64 * (x + 256 * (y + 256 * z))) rest
behind_four mode high x y z rest e h = grind (arith, common_steps)

behind_five :
    (x y z w : ℕ) (rest : List ℕ) → 1073741824 ≤ x + 256 * (y + 256 * (z + 256 * w))
    → compact_after 3 0 (x ∷ y ∷ z ∷ w ∷ rest) ≡ decoded (x + 256 * (y + 256 * (z + 256 * w))) rest
behind_five x y z w rest h = grind (arith, common_steps)

counted :
    (n m first : ℕ) (tail rest : List ℕ) → compact_after (first % 4) (first / 4) tail ≡ decoded m rest → m ≡ n
    → n < 2 ^ 32 → count (first ∷ tail) ≡ decoded n rest
counted n m first tail rest e f h =
    ap (λ o. and_then o (λ k after. below (2 ^ 32) k after)) e ∙ ap (λ k. below (2 ^ 32) k rest) f
    ∙ yes_below (2 ^ 32) n rest h

-- each encoding of a count is decoded, whatever follows it
pub encoded : (n : ℕ) (b rest : List ℕ) → EncodesCompact n b → count (b ++ rest) ≡ decoded n rest
encoded n b rest (in_one p e) = rw e (counted n (4 * n / 4) (4 * n) rest rest
    (behind_one (4 * n % 4) (4 * n / 4) rest (omega arith)) (omega arith) (omega arith))
encoded n b rest (in_two p q e) =
    let first = (4 * n + 1) % 256 in
    let x = (4 * n + 1) / 256 % 256 in
    rw e (counted n (first / 4 + 64 * x) first (x ∷ rest) rest
    (behind_two (first % 4) (first / 4) x rest (omega arith) (omega arith)) (omega arith) (omega arith))
encoded n b rest (in_four p q e) =
    let first = (4 * n + 2) % 256 in
    let x = (4 * n + 2) / 256 % 256 in
    let y = (4 * n + 2) / 65536 % 256 in
    let z = (4 * n + 2) / 16777216 % 256 in
    rw e (counted n (first / 4 + 64 * (x + 256 * (y + 256 * z))) first (x ∷ y ∷ z ∷ rest) rest
    (behind_four (first % 4) (first / 4) x y z rest (omega arith) (omega arith)) (omega arith) (omega arith))
encoded n b rest (in_five p q e) =
    let x = n % 256 in
    let y = n / 256 % 256 in
    let z = n / 65536 % 256 in
    let w = n / 16777216 % 256 in
    rw e (counted n (x + 256 * (y + 256 * (z + 256 * w))) 3 (x ∷ y ∷ z ∷ w ∷ rest) rest
    (behind_five x y z w rest (omega arith)) (omega arith) q)
