-- What is decoded as a count is an encoding of it.
use Rattle.std.proofs.Common.{◌≡◌, ℕ, zero, suc, ◌+◌, ◌*◌, ◌/◌, ◌%◌, ◌^◌, ◌<◌, ◌≤◌, List, [], ◌∷◌}
use Rattle.std.proofs.Common.{length, refl, ap, sym, ◌∙◌, subst}
use Rattle.std.proofs.Common.{arith}
use Rattle.std.proofs.lemmas.Grind.{common_steps}
use Rattle.std.proofs.Math.Nat.{pow-le-pow_right}
use Rattle.std.specs.List.{AllByRecursion}
use Rattle.scale_info_bytes.specs.Encodings.{IsByte, HasPrefix}
use Rattle.scale_info_bytes.specs.Integers.{EncodesCompact, in_one, in_two, in_four, in_five}
use Rattle.scale_info_value.specs.Outcomes.{Outcome, decoded, failed, and_then}
use Rattle.scale_info_value.specs.IntegerDecoders.{below}
use Rattle.scale_info_value.specs.IntegerDecoders.{compact_after, count}

-- what a count is made of
from_below : (limit n m : ℕ) (r s : List ℕ) → below limit n r ≡ decoded m s → (n < limit) × (n ≡ m) × (r ≡ s)
from_below limit n m r s e = grind (arith, common_steps)

from_parts :
    (o : Outcome ℕ) (limit n : ℕ) (s : List ℕ) → and_then o (λ k after. below limit k after) ≡ decoded n s
    → (o ≡ decoded n s) × (n < limit)
from_parts (decoded k r) limit n s e =
    let h = from_below limit k n r s e in
    (λ i. decoded (h.1 i) (h.2 i), subst (λ t. t < limit) h.1 h.0)
from_parts (failed why) limit n s e = cc

from_one :
    (mode high n : ℕ) (tail s : List ℕ) → mode ≡ 0 → compact_after mode high tail ≡ decoded n s
    → (n ≡ high) × (s ≡ tail)
from_one mode high n tail s e h = grind (arith, common_steps)

from_two :
    (mode high n x : ℕ) (more s : List ℕ) → mode ≡ 1 → compact_after mode high (x ∷ more) ≡ decoded n s
    → (64 ≤ n) × (n ≡ high + 64 * x) × (s ≡ more)
from_two mode high n x more s e h = grind (arith, common_steps)

from_two_short : (mode high n : ℕ) (s : List ℕ) → mode ≡ 1 → compact_after mode high [] ≡ decoded n s → ⊥
from_two_short mode high n s e h = grind (arith, common_steps)

from_four :
    (mode high n x y z : ℕ) (more s : List ℕ) → mode ≡ 2 → compact_after mode high (x ∷ y ∷ z ∷ more) ≡ decoded n s
    → (16384 ≤ n) × (n ≡ high + 64 * (x + 256 * (y + 256 * z))) × (s ≡ more)
from_four mode high n x y z more s e h = grind (arith, common_steps)

from_four_short :
    (mode high n : ℕ) (tail s : List ℕ) → mode ≡ 2 → length tail < 3 → compact_after mode high tail ≡ decoded n s → ⊥
from_four_short mode high n tail s e short h = grind (arith, common_steps)

from_more :
    (mode high n : ℕ) (tail s : List ℕ) → 3 ≤ mode → compact_after mode high tail ≡ decoded n s → 256 ^ (high + 3) ≤ n
from_more mode high n tail s e h = grind (arith, common_steps)

from_five :
    (n x y z w : ℕ) (more s : List ℕ) → compact_after 3 0 (x ∷ y ∷ z ∷ w ∷ more) ≡ decoded n s
    → (1073741824 ≤ n) × (n ≡ x + 256 * (y + 256 * (z + 256 * w))) × (s ≡ more)
from_five n x y z w more s h = grind (arith, common_steps)

from_five_short : (n : ℕ) (tail s : List ℕ) → length tail < 4 → compact_after 3 0 tail ≡ decoded n s → ⊥
from_five_short n tail s short h = grind (arith, common_steps)

five_alone :
    (first q n : ℕ) (tail s : List ℕ) → first / 4 ≡ q → 3 ≤ first % 4
    → compact_after (first % 4) (first / 4) tail ≡ decoded n s → n < 2 ^ 32 → first / 4 ≡ 0
five_alone first zero n tail s e m h l = e
five_alone first (suc k) n tail s e m h l =
    let least = from_more (first % 4) (first / 4) n tail s m h in
    let four : 4 ≤ first / 4 + 3 = omega arith in
    let more : 256 ^ 4 ≤ 256 ^ (first / 4 + 3) = pow-le-pow_right (omega arith) four in
    absurd (omega arith)

encoded_five :
    (first n : ℕ) (tail s : List ℕ) → first ≡ 3 → AllByRecursion IsByte tail → compact_after 3 0 tail ≡ decoded n s
    → n < 2 ^ 32
    → HasPrefix (EncodesCompact n) (first ∷ tail) s
encoded_five first n [] s e b h l = absurd (from_five_short n [] s (omega arith) h)
encoded_five first n (x ∷ []) s e b h l = absurd (from_five_short n (x ∷ []) s (omega arith) h)
encoded_five first n (x ∷ y ∷ []) s e b h l = absurd (from_five_short n (x ∷ y ∷ []) s (omega arith) h)
encoded_five first n (x ∷ y ∷ z ∷ []) s e b h l = absurd (from_five_short n (x ∷ y ∷ z ∷ []) s (omega arith) h)
encoded_five first n (x ∷ y ∷ z ∷ w ∷ more) s e b h l =
    let k = from_five n x y z w more s h in
    let p : x ≡ n % 256 = omega arith in
    let q : y ≡ n / 256 % 256 = omega arith in
    let r : z ≡ n / 65536 % 256 = omega arith in
    let t : w ≡ n / 16777216 % 256 = omega arith in
    record {
      encoding = first ∷ x ∷ y ∷ z ∷ w ∷ [];
      encodes = in_five k.0 l (λ i. e i ∷ p i ∷ q i ∷ r i ∷ t i ∷ []);
      parts = λ i. first ∷ x ∷ y ∷ z ∷ w ∷ sym k.2 i;
    }

by_mode :
    (m first n : ℕ) (tail s : List ℕ) → first % 4 ≡ m → first < 256 → AllByRecursion IsByte tail
    → compact_after (first % 4) (first / 4) tail ≡ decoded n s → n < 2 ^ 32
    → HasPrefix (EncodesCompact n) (first ∷ tail) s
by_mode zero first n tail s m f b h l =
    let k = from_one (first % 4) (first / 4) n tail s m h in
    let p : first ≡ 4 * n = omega arith in
    record { encoding = first ∷ []; encodes = in_one (omega arith) (λ i. p i ∷ []); parts = λ i. first ∷ sym k.1 i }
by_mode (suc zero) first n [] s m f b h l = absurd (from_two_short (first % 4) (first / 4) n s m h)
by_mode (suc zero) first n (x ∷ more) s m f b h l =
    let k = from_two (first % 4) (first / 4) n x more s m h in
    let p : first ≡ (4 * n + 1) % 256 = omega arith in
    let q : x ≡ (4 * n + 1) / 256 % 256 = omega arith in
    record {
      encoding = first ∷ x ∷ [];
      encodes = in_two k.0 (omega arith) (λ i. p i ∷ q i ∷ []);
      parts = λ i. first ∷
          x ∷ sym k.2 i;
    }
by_mode (suc (suc zero)) first n [] s m f b h l = absurd
    (from_four_short (first % 4) (first / 4) n [] s m (omega arith) h)
by_mode (suc (suc zero)) first n (x ∷ []) s m f b h l = absurd
    (from_four_short (first % 4) (first / 4) n (x ∷ []) s m (omega arith) h)
by_mode (suc (suc zero)) first n (x ∷ y ∷ []) s m f b h l = absurd
    (from_four_short (first % 4) (first / 4) n (x ∷ y ∷ []) s m (omega arith) h)
by_mode (suc (suc zero)) first n (x ∷ y ∷ z ∷ more) s m f b h l =
    let k = from_four (first % 4) (first / 4) n x y z more s m h in
    let p : first ≡ (4 * n + 2) % 256 = omega arith in
    let q : x ≡ (4 * n + 2) / 256 % 256 = omega arith in
    let r : y ≡ (4 * n + 2) / 65536 % 256 = omega arith in
    let t : z ≡ (4 * n + 2) / 16777216 % 256 = omega arith in
    record {
      encoding = first ∷ x ∷ y ∷ z ∷ [];
      encodes = in_four k.0 (omega arith) (λ i. p i ∷ q i ∷ r i ∷ t i ∷ []);
      parts = λ i. first ∷ x ∷ y ∷ z ∷ sym k.2 i;
    }
by_mode (suc (suc (suc j))) first n tail s m f b h l =
    let none = five_alone first (first / 4) n tail s refl (omega arith) h l in
    let three : first % 4 ≡ 3 = omega arith in
    encoded_five first n tail s (omega arith) b (ap (λ d. compact_after d 0 tail) (sym three)
    ∙ ap (λ d. compact_after (first % 4) d tail) (sym none) ∙ h) l

-- what is decoded as a count is an encoding of it
pub counted :
    (input s : List ℕ) (n : ℕ) → AllByRecursion IsByte input → count input ≡ decoded n s
    → HasPrefix (EncodesCompact n) input s
counted [] s n b e = cc
counted (first ∷ tail) s n b e =
    let h = from_parts (compact_after (first % 4) (first / 4) tail) (2 ^ 32) n s e in
    by_mode (first % 4) first n tail s refl b.0 b.1 h.0 h.1
