-- Lists of integers of one width.
use Rattle.std.proofs.Common.{◌≡◌, ℕ, zero, suc, ◌+◌, ◌-◌, ◌*◌, ◌<◌, ◌≤◌, ◌^◌, inl, inr, List, []}
use Rattle.std.proofs.Common.{◌∷◌, length}
use Rattle.std.proofs.Common.{take, drop, get_or, replicate, ap, sym, ◌∙◌, arith, cond, subst, refl}
use Rattle.std.proofs.Common.{Bool, true, false, ◌==◌, length-drop}
use Rattle.std.proofs.lemmas.Bool.{cases_lt, le-leb, lt-leb}
use Rattle.std.proofs.Math.Nat.{mul-le-mul_left, suc-mul, pow-succ'}
use Rattle.std.specs.Int.{w16, w32, w64, from_le_bytes, byte_len, cast_signed}
use Rattle.std.specs.Prelude.{if◌then◌else◌}
use Rattle.scale_info_value.specs.declared.integer.IntegerWidth.{IntegerWidth}
use Rattle.scale_info_value.specs.declared.value.Value.{Value}
use Rattle.scale_info_value.specs.declared.value.Value.TheVariants as Values
use Rattle.scale_info_value.specs.Outcomes.{Outcome, Decoder, decoded, failed, malformed, and_then, outcome_map}
use Rattle.scale_info_value.specs.Outcomes.{in_turn}
use Rattle.scale_info_value.specs.IntegerDecoders.{bytes, integer, little_endian}
use Rattle.scale_info_value.specs.IntegerWidths.{width_of, integer_of, integer_within}
use Rattle.scale_info_value.specs.ValueDefinitions.{truth}
use Rattle.scale_info_value.proofs.InOrder.{nothing_before, reads_one, preceded, all_fail}

-- so many bytes, seen as a value
abbrev pub read_bytes : {A : Type 0} → (List ℕ → A) → ℕ → Decoder A
read_bytes f width input = outcome_map f (bytes width input)

-- where the bytes are there, they are the value
pub value_there :
    {A : Type 0} (f : List ℕ → A) (width : ℕ) (input : List ℕ) → width ≤ length input
    → read_bytes f width input ≡ decoded (f (take width input)) (drop width input)
value_there f width input h =
    let e = le-leb width (length input) h in
    ap (λ b. outcome_map f (cond b (decoded (take width input) (drop width input)) (failed malformed))) e

-- a value that was read of the first bytes, so many, and the others
pub value_read :
    {A : Type 0} (f : List ℕ → A) (width : ℕ) (input : List ℕ) (value : A) (front back : List ℕ)
    → width ≤ length input → value ≡ f front → front ≡ take width input → back ≡ drop width input
    → read_bytes f width input ≡ decoded value back
value_read f width input value front back long is e g =
    value_there f width input long
    ∙ ap (λ v. decoded v (drop width input)) (sym (is ∙ ap f e))
    ∙ ap (λ after. decoded value after) (sym g)

-- an integer that was read so
pub integer_read :
    (w : IntegerWidth) (signed : Bool) (width : ℕ) (input : List ℕ) (value : Value) (front back : List ℕ)
    → width ≤ length input → width ≡ byte_len (width_of w) → value ≡ integer_of w signed front
    → front ≡ take width input → back ≡ drop width input
    → integer_within w signed input ≡ decoded value back
integer_read w signed width input value front back long e is f g =
    ap (λ n. read_bytes (integer_of w signed) n input) (sym e)
    ∙ value_read (integer_of w signed) width input value front back long is f g

-- where they are not, there is none
pub value_missing :
    {A : Type 0} (f : List ℕ → A) (width : ℕ) (input : List ℕ) → length input < width
    → read_bytes f width input ≡ failed malformed
value_missing f width input h =
    let e = lt-leb width (length input) h in
    ap (λ b. outcome_map f (cond b (decoded (take width input) (drop width input)) (failed malformed))) e

-- where the bytes of all are not there, there are not so many
pub values_missing :
    {A : Type 0} (f : List ℕ → A) (n width : ℕ) (input : List ℕ) → length input < n * width
    → in_turn (replicate n (read_bytes f width)) input ≡ failed malformed
values_missing f zero width input h = absurd (omega arith)
values_missing f (suc n) width input h =
    elim (cases_lt (length input) width) [
      | inl short ↦ all_fail (suc n) (read_bytes f width) input malformed (omega arith) (value_missing f width input short)
      | inr long ↦
          let split = suc-mul n width in
          let left : length (drop width input) < n * width = omega (arith, length-drop width input) in
          nothing_before (in_turn (replicate (suc n) (read_bytes f width)) input)
          ∙ reads_one [] (read_bytes f width) (replicate n (read_bytes f width)) input
          (f (take width input)) (drop width input) (value_there f width input long)
          ∙ ap (λ o. preceded (f (take width input) ∷ []) o)
          (values_missing f n width (drop width input) left)
    ]

-- a failure after a truth value, or in its place
then_fails :
    (zero_there one_there : Bool) (input : List ℕ) (next : Decoder (List Value)) → next input ≡ failed malformed
    → and_then
    (if zero_there then decoded (Values.Bool false) input
    else if one_there then decoded (Values.Bool true) input else failed malformed)
    (λ value rest. outcome_map (λ values. value ∷ values) (next rest))
    ≡ failed malformed
then_fails true one_there input next e = ap (λ o. outcome_map (λ values. Values.Bool false ∷ values) o) e
then_fails false true input next e = ap (λ o. outcome_map (λ values. Values.Bool true ∷ values) o) e
then_fails false false input next e = refl

-- where there are not so many bytes, there are not so many truth values
pub truths_missing :
    (n : ℕ) (input : List ℕ) → length input < n → in_turn (replicate n truth) input ≡ failed malformed
truths_missing zero input h = absurd (omega arith)
truths_missing (suc n) [] h = all_fail (suc n) truth [] malformed (omega arith) refl
truths_missing (suc n) (b ∷ input) h =
    then_fails (b == 0) (b == 1) input (in_turn (replicate n truth)) (truths_missing n input (omega arith))

-- one of so many takes no more than all
pub one_of_many : (n width : ℕ) → 0 < n → width ≤ n * width
one_of_many zero width h = absurd (omega arith)
one_of_many (suc n) width h = omega (arith, suc-mul n width)

-- where the bytes of those that are left are there, those of the next are
pub first_there : (n k width rest : ℕ) → k < n → (n - k) * width ≤ rest → width ≤ rest
first_there n k width rest h e = omega (arith, one_of_many (n - k) width (omega arith))

-- as many integers as a `u32` counts take no more bytes than a `usize` counts
pub bytes_fit : (n width : ℕ) → n < 2 ^ 32 → width ≤ 16 → n * width < 2 ^ 64
bytes_fit n width h k = omega (arith, mul-le-mul_left n k)

-- after one more, the bytes of those that are left are there
pub still_there :
    (n k width rest after : ℕ) → k < n → (n - k) * width ≤ rest → after + width ≡ rest
    → (n - (k + 1)) * width ≤ after
still_there n k width rest after h e f =
    let split : n - k ≡ suc (n - (k + 1)) = omega arith in
    let more : (n - k) * width ≡ (n - (k + 1)) * width + width = ap (λ m. m * width) split ∙ suc-mul (n - (k + 1)) width in
    omega arith

-- as many integers as there are bytes for
pub no_more_than_bytes : (n width bytes : ℕ) → 1 ≤ width → n * width ≤ bytes → n ≤ bytes
no_more_than_bytes n width bytes h e = omega (arith, mul-le-mul_left n h)

-- two bytes by the recursion are the integer that a built-in type reads from them
pub two_at_once :
    (bytes : List ℕ) → length bytes ≡ 2
    → little_endian bytes ≡ from_le_bytes w16 (get_or bytes 0 0 ∷ get_or bytes 1 0 ∷ [])
two_at_once [] h = absurd (omega arith)
two_at_once (a ∷ []) h = absurd (omega arith)
two_at_once (a ∷ b ∷ []) h = omega arith
two_at_once (a ∷ b ∷ c ∷ more) h = absurd (omega arith)

-- the same of four bytes
pub four_at_once :
    (bytes : List ℕ) → length bytes ≡ 4
    → little_endian bytes
    ≡ from_le_bytes w32 (get_or bytes 0 0 ∷ get_or bytes 1 0 ∷ get_or bytes 2 0 ∷ get_or bytes 3 0 ∷ [])
four_at_once [] h = absurd (omega arith)
four_at_once (a ∷ []) h = absurd (omega arith)
four_at_once (a ∷ b ∷ []) h = absurd (omega arith)
four_at_once (a ∷ b ∷ c ∷ []) h = absurd (omega arith)
four_at_once (a ∷ b ∷ c ∷ d ∷ []) h = omega arith
four_at_once (a ∷ b ∷ c ∷ d ∷ e ∷ more) h = absurd (omega arith)

-- one digit more
one_digit : (b x p y : ℕ) → b + 256 * (x + p * y) ≡ b + 256 * x + 256 * p * y
one_digit b x p y = grind arith

-- the lowest bytes, and the others
lowest_first :
    (k : ℕ) (bytes : List ℕ) → k ≤ length bytes
    → little_endian bytes ≡ little_endian (take k bytes) + 256 ^ k * little_endian (drop k bytes)
lowest_first zero bytes h =
    let none : 0 + 1 * little_endian bytes ≡ little_endian bytes = omega arith in
    sym none
lowest_first (suc k) [] h = absurd (omega arith)
lowest_first (suc k) (b ∷ bytes) h =
    let low = little_endian (take k bytes) in
    let high = little_endian (drop k bytes) in
    ap (λ n. b + 256 * n) (lowest_first k bytes (omega arith))
    ∙ one_digit b low (256 ^ k) high
    ∙ ap (λ power. b + 256 * low + power * high) (sym (pow-succ' 256 k))

-- the eight lowest bytes, and the others
pub eight_first :
    (bytes : List ℕ) → 8 ≤ length bytes
    → little_endian bytes ≡ little_endian (take 8 bytes) + 18446744073709551616 * little_endian (drop 8 bytes)
eight_first bytes h = lowest_first 8 bytes h

-- the same of eight bytes
pub eight_at_once :
    (bytes : List ℕ) → length bytes ≡ 8
    → little_endian bytes
    ≡ from_le_bytes w64
    (get_or bytes 0 0 ∷ get_or bytes 1 0 ∷ get_or bytes 2 0 ∷ get_or bytes 3 0 ∷ get_or bytes 4 0 ∷ get_or bytes 5 0
    ∷ get_or bytes 6 0 ∷ get_or bytes 7 0 ∷ [])
eight_at_once [] h = absurd (omega arith)
eight_at_once (a ∷ []) h = absurd (omega arith)
eight_at_once (a ∷ b ∷ []) h = absurd (omega arith)
eight_at_once (a ∷ b ∷ c ∷ []) h = absurd (omega arith)
eight_at_once (a ∷ b ∷ c ∷ d ∷ []) h = absurd (omega arith)
eight_at_once (a ∷ b ∷ c ∷ d ∷ e ∷ []) h = absurd (omega arith)
eight_at_once (a ∷ b ∷ c ∷ d ∷ e ∷ f ∷ []) h = absurd (omega arith)
eight_at_once (a ∷ b ∷ c ∷ d ∷ e ∷ f ∷ g ∷ []) h = absurd (omega arith)
eight_at_once (a ∷ b ∷ c ∷ d ∷ e ∷ f ∷ g ∷ i ∷ []) h = omega arith
eight_at_once (a ∷ b ∷ c ∷ d ∷ e ∷ f ∷ g ∷ i ∷ j ∷ more) h = absurd (omega arith)

-- an integer in half of 16 bytes
pub half_fits : (n k : ℕ) → n < 256 ^ k → k ≡ 8 → n < 18446744073709551616
half_fits n k h e = subst (λ m. n < 256 ^ m) e h

-- an integer by its bytes, seen as a value
pub by_bytes :
    {A : Type 0} (f : ℕ → A) (o : Outcome (List ℕ))
    → outcome_map f (outcome_map little_endian o) ≡ outcome_map (λ b. f (little_endian b)) o
by_bytes f (decoded all rest) = refl
by_bytes f (failed why) = refl

-- an integer without a sign
pub unsigned_within :
    (w : IntegerWidth) (input : List ℕ)
    → outcome_map Values.Unsigned (integer (byte_len (width_of w)) input) ≡ integer_within w false input
unsigned_within w input = by_bytes Values.Unsigned (bytes (byte_len (width_of w)) input)

-- and one with a sign
pub signed_within :
    (w : IntegerWidth) (input : List ℕ)
    → outcome_map (λ n. Values.Signed (cast_signed (width_of w) n)) (integer (byte_len (width_of w)) input)
    ≡ integer_within w true input
signed_within w input =
    by_bytes (λ n. Values.Signed (cast_signed (width_of w) n)) (bytes (byte_len (width_of w)) input)
