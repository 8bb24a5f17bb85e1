-- Integers by their bytes.
use Rattle.std.proofs.Common.{◌≡◌, ℕ, zero, suc, ◌+◌, ◌*◌, ◌/◌, ◌%◌, ◌<◌, ◌^◌, List, []}
use Rattle.std.proofs.Common.{◌∷◌, length, refl, ap, sym, ◌∙◌, arith}
use Rattle.std.proofs.Math.Nat.{pow-succ', div-div-eq-div-mul}
use Rattle.std.specs.Int.{bytes_low_first, byte_at}
use Rattle.std.specs.List.{AllByRecursion}
use Rattle.scale_info_bytes.specs.Encodings.{IsByte}
use Rattle.scale_info_value.specs.IntegerDecoders.{little_endian}
use Rattle.scale_info_value_encode.specs.IntegerWriters.{integer_bytes}

-- a byte of an integer is one lower in the integer without its lowest byte
one_lower : (i n : ℕ) → byte_at (suc i) n ≡ byte_at i (n / 256)
one_lower zero n = omega arith
one_lower (suc i) n =
    ap (λ p. n / p % 256) (pow-succ' 256 (suc i))
    ∙ sym (ap (λ q. q % 256) (div-div-eq-div-mul n 256 (256 ^ suc i)))

-- and so are all its bytes from one on
all_lower : (k i n : ℕ) → bytes_low_first (suc i) k n ≡ bytes_low_first i k (n / 256)
all_lower zero i n = refl
all_lower (suc k) i n = λ j. one_lower i n j ∷ all_lower k (suc i) n j

-- the lowest byte, and the others
pub lowest_first : (k n : ℕ) → integer_bytes (suc k) n ≡ n % 256 ∷ integer_bytes k (n / 256)
lowest_first k n = ap (λ bs. n % 256 ∷ bs) (all_lower k 0 n)

-- they are so many
pub length_is : (k i n : ℕ) → length (bytes_low_first i k n) ≡ k
length_is zero i n = refl
length_is (suc k) i n = ap suc (length_is k (suc i) n)

-- an integer that fits so many bytes is the one of these bytes
pub back_again : (k n : ℕ) → n < 256 ^ k → little_endian (integer_bytes k n) ≡ n
back_again zero n h = omega arith
back_again (suc k) n h =
    let power : 256 ^ suc k ≡ 256 * 256 ^ k = pow-succ' 256 k in
    let less : n / 256 < 256 ^ k = omega arith in
    let whole : n % 256 + 256 * (n / 256) ≡ n = omega arith in
    ap little_endian (lowest_first k n) ∙ ap (λ m. n % 256 + 256 * m) (back_again k (n / 256) less) ∙ whole

-- bytes are those of their integer
pub forth_again : (bs : List ℕ) → AllByRecursion IsByte bs → integer_bytes (length bs) (little_endian bs) ≡ bs
forth_again [] all = refl
forth_again (b ∷ bs) all =
    let byte : b < 256 = all.0 in
    let high = little_endian bs in
    let low_is : (b + 256 * high) % 256 ≡ b = omega arith in
    let high_is : (b + 256 * high) / 256 ≡ high = omega arith in
    lowest_first (length bs) (b + 256 * high)
    ∙ (λ i. low_is i ∷ integer_bytes (length bs) (high_is i))
    ∙ ap (λ rest. b ∷ rest) (forth_again bs all.1)

-- and it fits them
pub bound : (bs : List ℕ) → AllByRecursion IsByte bs → little_endian bs < 256 ^ length bs
bound [] all = omega arith
bound (b ∷ bs) all =
    let byte : b < 256 = all.0 in
    let power : 256 ^ suc (length bs) ≡ 256 * 256 ^ length bs = pow-succ' 256 (length bs) in
    let less = bound bs all.1 in
    omega arith
