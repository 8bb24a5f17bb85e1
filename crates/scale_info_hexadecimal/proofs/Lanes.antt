-- Sixteen bytes, and the digits that are looked up for each.
use Rattle.std.proofs.Common.{◌≡◌, ℕ, zero, suc, ◌+◌, ◌*◌, ◌/◌, ◌%◌, ◌^◌, ◌<◌, List, [], ◌∷◌, map}
use Rattle.std.proofs.Common.{length, get_or, slice_index, ◌++◌, replicate, bit_and, refl, sym, ap}
use Rattle.std.proofs.Common.{◌∙◌, arith, w8, Fits}
use Rattle.std.proofs.lemmas.List.{get_or-map, length-map, ext_get_or}
use Rattle.std.proofs.lemmas.Nat.{and_le_r, and_mask}
use Rattle.std.proofs.lemmas.Simd.{Each1-all, Each1-weaker, Each1-zip2, Each2-splat, Each1-get_or}
use Rattle.std.proofs.lemmas.Simd.{below_from_Fits, length-zip2, swz_l, SwzOk, SwzOk-from_below}
use Rattle.std.proofs.lemmas.Simd.{length-swz_l, get_or-swz_l_below}
use lib.Lanes.{zip2, Each1, pick_l}
use Rattle.hex.specs.Hex.{encode_lower, encode_with, lower_digits}

-- sixteen bytes
abbrev pub AreBytes : List ℕ → Type 0
AreBytes bytes = (length bytes ≡ 16) × Each1 (Fits w8) bytes

-- a number shifted down by so many bits
abbrev pub down : ℕ → ℕ → ℕ
down byte bits = byte / 2 ^ bits

-- a table of sixteen may be read at sixteen places below 16
are_places : (places : List ℕ) → length places ≡ 16 → Each1 (λ place. place < 16) places
    → SwzOk w8 16 16 0 places
are_places places long small =
    SwzOk-from_below w8 16 1 16 0 places refl (omega (arith, long)) small

-- at the upper four bits of each byte
pub first_are_places : (bytes : List ℕ) → AreBytes bytes
    → SwzOk w8 16 16 0 (zip2 down bytes (replicate 16 4))
first_are_places bytes fits =
    let shift : List ℕ = replicate 16 4 in
    let small =
    Each1-weaker (λ a. a < 256) (λ a. a / 16 < 16) (λ a h. omega arith) bytes
    (below_from_Fits w8 bytes fits.1) in
    are_places _ (length-zip2 down bytes shift fits.0 ∙ fits.0)
    (Each1-zip2 down (λ place. place < 16) bytes shift
    (Each2-splat (λ a b. down a b < 16) bytes 16 4 small))

-- at the lower four bits of each byte
pub second_are_places : (bytes : List ℕ) → AreBytes bytes
    → SwzOk w8 16 16 0 (zip2 bit_and bytes (replicate 16 15))
second_are_places bytes fits =
    let mask : List ℕ = replicate 16 15 in
    let small =
    Each1-all (λ a. bit_and a 15 < 16) (λ a. omega (arith, and_le_r a 15)) bytes in
    are_places _ (length-zip2 bit_and bytes mask fits.0 ∙ fits.0)
    (Each1-zip2 bit_and (λ place. place < 16) bytes mask
    (Each2-splat (λ a b. bit_and a b < 16) bytes 16 15 small))

-- a table that is read at a place below 16 for each byte
pub looked_up : (table : List ℕ) (place : ℕ → ℕ) (bytes places : List ℕ) → AreBytes bytes
    → places ≡ map place bytes → ((x : ℕ) → x < 256 → place x < 16)
    → swz_l w8 16 table 0 places ≡ map (λ x. get_or table (place x) 0) bytes
looked_up table place bytes places fits e small =
    let long : length places ≡ 16 = ap length e ∙ length-map bytes place ∙ fits.0 in
    let digit = λ (x : ℕ). get_or table (place x) 0 in
    let found = length-swz_l w8 16 table 0 places in
    ext_get_or 0 _ _ (found ∙ long ∙ sym (length-map bytes digit ∙ fits.0)) (λ i h.
    let within : i < length bytes = omega (arith, found, fits.0) in
    let is : get_or places i 0 ≡ place (get_or bytes i 0) =
    ap (λ l. get_or l i 0) e ∙ get_or-map place bytes i 0 0 within in
    let byte : get_or bytes i 0 < 256 =
    Each1-get_or (λ x. x < 256) bytes i 0 within (below_from_Fits w8 bytes fits.1) in
    let below : get_or places i 0 < 16 = omega (arith, small (get_or bytes i 0) byte) in
    let at : 16 * ((0 + i) / 16) + get_or places i 0 ≡ place (get_or bytes i 0) = omega arith in
    get_or-swz_l_below w8 16 table 0 places i (omega arith) below
    ∙ ap (λ k. get_or table k 0) at ∙ sym (get_or-map digit bytes i 0 0 within))

-- the lower four bits
pub lower_four : (bytes : List ℕ) → map (λ x. bit_and x 15) bytes ≡ map (λ x. x % 16) bytes
lower_four [] = refl
lower_four (a ∷ bytes) = rw (and_mask a 4, lower_four bytes)

-- what holds of all lists of so many numbers
abbrev pub OfAll : ℕ → (List ℕ → Type 0) → Type 0
OfAll zero P = P []
OfAll (suc n) P = (a : ℕ) → OfAll n (λ v. P (a ∷ v))

of_one : (n : ℕ) (P : List ℕ → Type 0) → OfAll n P → (v : List ℕ) → length v ≡ n → P v
of_one zero P all [] e = all
of_one zero P all (a ∷ v) e = absurd (omega arith)
of_one (suc n) P all [] e = absurd (omega arith)
of_one (suc n) P all (a ∷ v) e = of_one n (λ w. P (a ∷ w)) (all a) v (omega arith)

-- the numbers of two lists in turn
abbrev pub crossed : List ℕ → List ℕ → List ℕ
crossed [] b = []
crossed (x ∷ a) [] = []
crossed (x ∷ a) (y ∷ b) = x ∷ y ∷ crossed a b

-- where they stand in the two lists, one after the other
abbrev pub crossings : List ℕ
crossings =
    0 ∷ 16 ∷ 1 ∷ 17 ∷ 2 ∷ 18 ∷ 3 ∷ 19 ∷ 4 ∷ 20 ∷ 5 ∷ 21 ∷ 6 ∷ 22 ∷ 7 ∷ 23
    ∷ 8 ∷ 24 ∷ 9 ∷ 25 ∷ 10 ∷ 26 ∷ 11 ∷ 27 ∷ 12 ∷ 28 ∷ 13 ∷ 29 ∷ 14 ∷ 30 ∷ 15 ∷ 31 ∷ []

-- interleaving two lists takes from each in turn
abbrev pub IsInterleaved : List ℕ → List ℕ → Type 0
IsInterleaved a b = pick_l 0 (a ++ b) crossings ≡ crossed a b

-- what `interleave` gives, its two vectors as one list
pub interleaved : (a b : List ℕ) → length a ≡ 16 → length b ≡ 16 → IsInterleaved a b
interleaved a b long same =
    of_one 16 (λ a. (b : List ℕ) → length b ≡ 16 → IsInterleaved a b)
    (λ a0 a1 a2 a3 a4 a5 a6 a7 a8 a9 a10 a11 a12 a13 a14 a15.
    let first =
    a0 ∷ a1 ∷ a2 ∷ a3 ∷ a4 ∷ a5 ∷ a6 ∷ a7
    ∷ a8 ∷ a9 ∷ a10 ∷ a11 ∷ a12 ∷ a13 ∷ a14 ∷ a15 ∷ [] in
    of_one 16 (IsInterleaved first)
    (λ b0 b1 b2 b3 b4 b5 b6 b7 b8 b9 b10 b11 b12 b13 b14 b15. refl))
    a long b same

-- the first and the second digits in turn are the digits
pub encoded : (bytes : List ℕ)
    → crossed (map (λ b. slice_index lower_digits (b / 16)) bytes)
    (map (λ b. slice_index lower_digits (b % 16)) bytes) ≡ encode_lower bytes
unfolding encode_with
encoded [] = refl
encoded (b ∷ bytes) =
    ap (λ r. slice_index lower_digits (b / 16) ∷ slice_index lower_digits (b % 16) ∷ r)
    (encoded bytes)
