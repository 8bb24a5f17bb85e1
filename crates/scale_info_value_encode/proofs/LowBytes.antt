-- The low bytes of an integer.
use Rattle.std.proofs.Common.{◌≡◌, ℕ, ℤ, zero, suc, ◌+◌, ◌-◌, ◌*◌, ◌/◌, ◌%◌, ◌<◌, ◌≤◌, ◌^◌, Bool, true, false}
use Rattle.std.proofs.Common.{inl, inr, List, ◌∷◌, length, take, refl, ap, sym, ◌∙◌, arith, subst}
use Rattle.std.proofs.lemmas.Bool.{cases_lt}
use Rattle.std.proofs.lemmas.Int.{to_z-of_z, of_z-to_z}
use Rattle.std.proofs.Math.Nat.{pow-succ', div-div-eq-div-mul, div-eq_of_lt, lt-mul-div-succ}
use Rattle.std.specs.Prelude.{FitsSigned, pos, negsuc}
use Rattle.std.specs.Int.{Width, w8, w16, w32, w64, w128, byte_len, bytes_low_first, byte_at, to_le_bytes}
use Rattle.std.specs.Int.{cast_signed, cast_unsigned}
use Rattle.std.specs.List.{AllByRecursion}
use Rattle.scale_info_bytes.specs.Encodings.{IsByte}
use Rattle.scale_info_value.specs.IntegerDecoders.{little_endian}
use Rattle.scale_info_value_encode.specs.Writers.{written, refused, mismatch, if_fits}
use Rattle.scale_info_value_encode.specs.IntegerWriters.{integer_bytes, first_width, is_signed_of}
use Rattle.scale_info_value_encode.specs.DefinitionWriters.{unsigned, signed}
use Rattle.scale_info_value_encode.proofs.Compacts.{width_is, more_is, power_rises}
use Rattle.scale_info_value_encode.proofs.IntegerBytes.{lowest_first, length_is, back_again, forth_again, bound}
use Rattle.scale_info_value_encode.proofs.Widths.{fits_of, fits_is, less_is, unsigned_fits, bytes_are_bits}
use mir.Val.{bits, hbits}

-- the first of the bytes from one on are fewer bytes from there on
pub take_low : (k m i n : ℕ) → k ≤ m → take k (bytes_low_first i m n) ≡ bytes_low_first i k n
take_low zero m i n h = refl
take_low (suc k) zero i n h = absurd (omega arith)
take_low (suc k) (suc m) i n h = ap (λ bs. byte_at i n ∷ bs) (take_low k m (suc i) n (omega arith))

-- a byte of an integer is a byte
byte_is : (i n : ℕ) → byte_at i n < 256
byte_is zero n = omega arith
byte_is (suc i) n = omega arith

-- the bytes of an integer are bytes
all_bytes : (k i n : ℕ) → AllByRecursion IsByte (bytes_low_first i k n)
all_bytes zero i n = tt
all_bytes (suc k) i n = (byte_is i n, all_bytes k (suc i) n)

-- what is above so many bytes changes none of them
low_of_sum : (k n more : ℕ) → integer_bytes k (n + 256 ^ k * more) ≡ integer_bytes k n
low_of_sum zero n more = refl
low_of_sum (suc k) n more =
    let power : 256 ^ suc k ≡ 256 * 256 ^ k = pow-succ' 256 k in
    let product = assoc (256 ^ k) more in
    let whole : n + 256 ^ suc k * more ≡ n + 256 * (256 ^ k * more) = ap (λ p. n + p * more) power ∙ ap (λ p. n + p) product in
    let low : (n + 256 * (256 ^ k * more)) % 256 ≡ n % 256 = omega arith in
    let high : (n + 256 * (256 ^ k * more)) / 256 ≡ n / 256 + 256 ^ k * more = omega arith in
    lowest_first k (n + 256 ^ suc k * more)
    ∙ ap (λ m. m % 256 ∷ integer_bytes k (m / 256)) whole
    ∙ (λ i. low i ∷ integer_bytes k (high i))
    ∙ ap (λ bs. n % 256 ∷ bs) (low_of_sum k (n / 256) more)
    ∙ sym (lowest_first k n)
  where
    assoc : (p more : ℕ) → 256 * p * more ≡ 256 * (p * more)
    assoc p more = grind arith

-- the low bytes of an integer of 16 bytes
pub low_bytes : (k n : ℕ) (low : List ℕ) → k ≤ 16 → low ≡ take k (to_le_bytes w128 n) → low ≡ integer_bytes k n
low_bytes k n low h e = e ∙ take_low k 16 0 n h

-- no width has more than 16 bytes
pub at_most_16 : (w : Width) → byte_len w ≤ 16
at_most_16 w8 = omega arith
at_most_16 w16 = omega arith
at_most_16 w32 = omega arith
at_most_16 w64 = omega arith
at_most_16 w128 = omega arith

-- an integer above the limit of a width does not fit it
pub too_wide : (w : Width) (n most : ℕ) → most + 1 ≡ 256 ^ byte_len w → most < n → unsigned w n ≡ refused mismatch
too_wide w n most e h = ap (λ t. if_fits t (to_le_bytes w n)) (more_is n (256 ^ byte_len w) (subst (λ k. k ≤ n) e (omega arith)))

-- an integer up to the limit of a width has its low bytes
pub unsigned_low :
    (w : Width) (n most : ℕ) (low : List ℕ) → low ≡ take (byte_len w) (to_le_bytes w128 n) → most + 1 ≡ 256 ^ byte_len w
    → n ≤ most → unsigned w n ≡ written low
unsigned_low w n most low e limit h =
    ap (λ t. if_fits t (to_le_bytes w n)) (less_is n (256 ^ byte_len w) (subst (λ k. n < k) limit (omega arith)))
    ∙ ap written (sym (low_bytes (byte_len w) n low (at_most_16 w) e))

-- the low bytes of all that an integer has, where it is made of its bits again before
pub low_of_bits :
    (w : Width) (z : ℤ) (all low : List ℕ) (count : ℕ) → FitsSigned w128 z
    → all ≡ to_le_bytes w128 (cast_unsigned w128 (cast_signed w128 (cast_unsigned w128 z)))
    → count ≡ byte_len w → low ≡ take count all
    → low ≡ take (byte_len w) (to_le_bytes w128 (cast_unsigned w128 z))
low_of_bits w z all low count fits whole long e =
    e ∙ (λ i. take (long i) (whole i))
    ∙ ap (λ y. take (byte_len w) (to_le_bytes w128 (cast_unsigned w128 y))) (to_z-of_z w128 z fits)

-- an integer that is read from its low bytes in two's complement has these
pub signed_low :
    (w : Width) (z : ℤ) (low : List ℕ) → low ≡ take (byte_len w) (to_le_bytes w128 (cast_unsigned w128 z))
    → cast_signed w (little_endian low) ≡ z → signed w z ≡ written low
signed_low w z low e same =
    let width = byte_len w in
    let bytes = low_bytes width (cast_unsigned w128 z) low (at_most_16 w) e in
    let long : length low ≡ width = ap length bytes ∙ length_is width 0 (cast_unsigned w128 z) in
    let made : AllByRecursion IsByte low = subst (AllByRecursion IsByte) (sym bytes) (all_bytes width 0 (cast_unsigned w128 z)) in
    let less : little_endian low < 256 ^ width = subst (λ k. little_endian low < 256 ^ k) long (bound low made) in
    let fits : is_signed_of w z ≡ true = ap (is_signed_of w) (sym same) ∙ fits_is w (little_endian low) less in
    let back : cast_unsigned w z ≡ little_endian low =
    ap (cast_unsigned w) (sym same)
    ∙ of_z-to_z w (little_endian low) (subst (λ k. little_endian low < k) (bytes_are_bits w) less) in
    (λ i. if_fits (fits i) (integer_bytes width (back i)))
    ∙ ap written ((λ i. integer_bytes (sym long i) (little_endian low)) ∙ forth_again low made)

-- how many times the limit of a width goes into that of 16 bytes, less one
times : Width → ℕ
times w8 = 256 ^ 15 - 1
times w16 = 256 ^ 14 - 1
times w32 = 256 ^ 12 - 1
times w64 = 256 ^ 8 - 1
times w128 = 0

-- two's complement in 16 bytes is that of a width, and what is above it
complement_above :
    (w : Width) (n : ℕ) → n < 2 ^ hbits w
    → 2 ^ bits w128 - suc n ≡ (2 ^ bits w - suc n) + 256 ^ byte_len w * times w
unfolding times
complement_above w8 n h = omega arith
complement_above w16 n h = omega arith
complement_above w32 n h = omega arith
complement_above w64 n h = omega arith
complement_above w128 n h = omega arith

-- the low bytes of an integer of a width are its bytes
low_of_signed :
    (w : Width) (z : ℤ) → FitsSigned w z
    → integer_bytes (byte_len w) (cast_unsigned w128 z) ≡ integer_bytes (byte_len w) (cast_unsigned w z)
low_of_signed w (pos n) f = refl
low_of_signed w (negsuc n) f =
    ap (integer_bytes (byte_len w)) (complement_above w n f.sfits)
    ∙ low_of_sum (byte_len w) (2 ^ bits w - suc n) (times w)

-- an integer that is not read from its low bytes in two's complement does not fit them
pub too_wide_signed :
    (w : Width) (z : ℤ) (low : List ℕ) → low ≡ take (byte_len w) (to_le_bytes w128 (cast_unsigned w128 z))
    → (cast_signed w (little_endian low) ≡ z → ⊥) → signed w z ≡ refused mismatch
too_wide_signed w z low e differs = by_test (is_signed_of w z) (fits_of w z)
  where
    by_test :
        (fits : Bool) → (fits ≡ true → FitsSigned w z)
        → if_fits fits (to_le_bytes w (cast_unsigned w z)) ≡ refused mismatch
    by_test false known = refl
    by_test true known =
        let f = known refl in
        let width = byte_len w in
        let bytes = low_bytes width (cast_unsigned w128 z) low (at_most_16 w) e ∙ low_of_signed w z f in
        absurd (differs
        (ap (cast_signed w) (ap little_endian bytes ∙ back_again width (cast_unsigned w z) (unsigned_fits w z f))
        ∙ to_z-of_z w z f))

-- what is left of an integer above so many bytes
pub one_byte_less : (n width : ℕ) → n / 256 ^ width / 256 ≡ n / 256 ^ (width + 1)
one_byte_less n width =
    div-div-eq-div-mul n (256 ^ width) 256 ∙ ap (λ p. n / p) (times_256 (256 ^ width) ∙ sym (pow-succ' 256 width) ∙ ap (λ k. 256 ^ k) (next width))
  where
    times_256 : (p : ℕ) → p * 256 ≡ 256 * p
    times_256 p = omega arith

    next : (k : ℕ) → suc k ≡ k + 1
    next k = omega arith

-- where something is left, the integer does not fit them
pub some_left : (n width : ℕ) → 0 < n / 256 ^ width → 256 ^ width ≤ n
some_left n width h = elim (cases_lt n (256 ^ width)) [
  | inl less ↦ let none = div-eq_of_lt less in absurd (omega arith)
  | inr more ↦ more
]

-- where nothing is left, it does
pub none_left : (n width : ℕ) → n / 256 ^ width ≡ 0 → n < 256 ^ width
none_left n width e =
    let p = 256 ^ width in
    let above : n < p * (n / p + 1) = lt-mul-div-succ n (positive width) in
    subst (λ k. n < k) (ap (λ k. p * (k + 1)) e ∙ once p) above
  where
    positive : (k : ℕ) → 0 < 256 ^ k
    positive k = let one = power_rises 0 k (omega arith) in omega arith

    once : (p : ℕ) → p * (0 + 1) ≡ p
    once p = omega arith

-- it takes no more than 16 where it has 16
pub below_16 : (n width : ℕ) → n < 256 ^ 16 → 256 ^ width ≤ n → width < 16
below_16 n width h low = elim (cases_lt width 16) [
  | inl less ↦ less
  | inr more ↦ let rises = power_rises 16 width more in absurd (omega arith)
]

-- the first width from 4 on is where nothing is left above it, and something above the one before
pub found_width :
    (n width : ℕ) → 4 ≤ width → width ≤ 16 → n / 256 ^ width ≡ 0 → (4 < width → 256 ^ (width - 1) ≤ n)
    → width ≡ first_width 12 4 n
found_width n width low high e needed =
    sym (width_is 12 4 n width low high (none_left n width e)
    (λ k p q. let more = needed (omega arith) in let rises = power_rises k (width - 1) (omega arith) in omega arith))

-- signed integers of equal bits are equal
pub same_bits :
    (a b : ℤ) → FitsSigned w128 a → FitsSigned w128 b → cast_unsigned w128 a ≡ cast_unsigned w128 b → a ≡ b
same_bits a b f g e = sym (to_z-of_z w128 a f) ∙ ap (cast_signed w128) e ∙ to_z-of_z w128 b g
