-- Integers of one width, one after another.
use Rattle.std.proofs.Common.{◌≡◌, ℕ, zero, suc, ◌+◌, ◌*◌, ◌/◌, ◌<◌, ◌≤◌, List, [], ◌∷◌, ◌++◌, Bool, false}
use Rattle.std.proofs.Common.{length, take, drop, map, replicate, get_or, refl, ap, sym, ◌∙◌, subst, arith, Some}
use Rattle.std.proofs.Common.{length-drop, drop-cons, slice_get}
use Rattle.std.proofs.Math.Nat.{suc-mul, div-mul-le_self, mul-le-mul_right, mul-div_cancel}
use Rattle.std.proofs.lemmas.Grind.{common_steps}
use Rattle.std.proofs.lemmas.List.{length-append, take-append-le, drop-append-le, drop-drop, drop_all, take-append-drop, length-take-le}
use Rattle.std.proofs.lemmas.List.FromFn.{length-map-range_with_len, get_or-map-range_with_len, fill_by_all}
use Rattle.std.proofs.lemmas.Option.{slice_get-get_or}
use Rattle.std.proofs.lemmas.Simd.{map-map}
use Rattle.std.specs.Int.{byte_len}
use Rattle.std.specs.List.{range_with_len}
use Rattle.scale_info_value.specs.declared.value.Value.{Value}
use Rattle.scale_info_value.specs.declared.value.Value.TheVariants as Values
use Rattle.scale_info_value.specs.declared.value.Failure.{Failure}
use Rattle.scale_info_value.specs.Outcomes.{decoded, failed, malformed, and_then, outcome_map, in_turn}
use Rattle.scale_info_value.specs.IntegerDecoders.{bytes, little_endian}
use Rattle.scale_info_value.proofs.Integers.{read_bytes, value_there, values_missing}
use Rattle.scale_info_value.proofs.Texts.{bytes_whole, bytes_long}
use Rattle.scale_info_value.specs.declared.integer.IntegerWidth.{IntegerWidth}
use Rattle.scale_info_value.specs.declared.integer.IntegerWidth.TheVariants as width
use Rattle.scale_info_value.specs.IntegerWidths.{width_of, integer_of, integer_within}
use Rattle.scale_info_value_borrowed.specs.IntegerLists.{item_at}

-- the bytes from the k-th value on
abbrev from_value : ℕ → ℕ → List ℕ → List ℕ
from_value width k all = drop (k * width) all

-- the k-th value is read, and the bytes from the next one on are left
one_there :
    {A : Type 0} (f : List ℕ → A) (width n k : ℕ) (all rest : List ℕ) → length all ≡ (k + suc n) * width
    → read_bytes f width (from_value width k all ++ rest)
    ≡ decoded (f (take width (from_value width k all))) (from_value width (k + 1) all ++ rest)
one_there f width n k all rest h =
    let here = from_value width k all in
    let split : (k + suc n) * width ≡ (k * width + n * width) + width = grind arith in
    let long : width ≤ length here = omega (arith, length-drop (k * width) all) in
    let longer : width ≤ length (here ++ rest) = omega (arith, length-append here rest) in
    let next : k * width + width ≡ (k + 1) * width = grind arith in
    value_there f width (here ++ rest) longer
    ∙ (λ i. decoded (f (take-append-le width here rest long i)) (drop-append-le width here rest long i))
    ∙ ap (λ d. decoded (f (take width here)) (d ++ rest)) (drop-drop width (k * width) all ∙ ap (λ m. drop m all) next)

-- where the bytes of as many are there, they are as many values
each_there :
    {A : Type 0} (f : List ℕ → A) (width n k : ℕ) (all rest : List ℕ) → length all ≡ (k + n) * width
    → in_turn (replicate n (read_bytes f width)) (from_value width k all ++ rest)
    ≡ decoded (map (λ i. f (take width (from_value width i all))) (range_with_len k n)) rest
each_there f width zero k all rest h =
    let end : (k + 0) * width ≡ k * width = ap (λ m. m * width) (omega arith) in
    let none : length all ≤ k * width = omega arith in
    ap (λ d. decoded [] (d ++ rest)) (drop_all (k * width) all none)
each_there f width (suc n) k all rest h =
    let value = f (take width (from_value width k all)) in
    let moved : k + suc n ≡ k + 1 + n = omega arith in
    let same : length all ≡ (k + 1 + n) * width = h ∙ ap (λ m. m * width) moved in
    ap (λ o. and_then o (λ v r. outcome_map (λ vs. v ∷ vs) (in_turn (replicate n (read_bytes f width)) r)))
    (one_there f width n k all rest h)
    ∙ ap (λ o. outcome_map (λ vs. value ∷ vs) o) (each_there f width n (k + 1) all rest same)

-- where bytes are missing, there are fewer
bytes_short : (n : ℕ) (input : List ℕ) (why : Failure) → bytes n input ≡ failed why → (length input < n) × (why ≡ malformed)
bytes_short n input why h = grind (arith, common_steps)

-- an integer takes a byte or more
some_bytes : (w : IntegerWidth) → 0 < byte_len (width_of w)
some_bytes width.One = omega arith
some_bytes width.Two = omega arith
some_bytes width.Four = omega arith
some_bytes width.Eight = omega arith
some_bytes width.Sixteen = omega arith

-- where the bytes of so many integers are there, they are the integers
pub integers_there :
    (w : IntegerWidth) (signed : Bool) (count : ℕ) (input all rest : List ℕ)
    → bytes (count * byte_len (width_of w)) input ≡ decoded all rest
    → in_turn (replicate count (integer_within w signed)) input
    ≡ decoded (map (item_at w signed all) (range_with_len 0 (length all / byte_len (width_of w)))) rest
integers_there w signed count input all rest e =
    let n = count * byte_len (width_of w) in
    let long = bytes_long n input all rest e in
    let h : decoded (take n input) (drop n input) ≡ decoded all rest = sym (bytes_whole n input long) ∙ e in
    let p : take n input ≡ all = cc in
    let q : drop n input ≡ rest = cc in
    let whole : input ≡ all ++ rest = sym (take-append-drop n input) ∙ (λ i. p i ++ q i) in
    let len : length all ≡ n = ap length (sym p) ∙ length-take-le n input long in
    let number : length all / byte_len (width_of w) ≡ count =
    ap (λ m. m / byte_len (width_of w)) len ∙ mul-div_cancel count (some_bytes w) in
    let zero_more : 0 + count ≡ count = omega arith in
    let start : length all ≡ (0 + count) * byte_len (width_of w) = len ∙ ap (λ m. m * byte_len (width_of w)) (sym zero_more) in
    let from_first : 0 ≡ 0 * byte_len (width_of w) = omega arith in
    ap (λ b. in_turn (replicate count (integer_within w signed)) b) whole
    ∙ ap (λ m. in_turn (replicate count (integer_within w signed)) (drop m all ++ rest)) from_first
    ∙ each_there (integer_of w signed) (byte_len (width_of w)) count 0 all rest start
    ∙ ap (λ m. decoded (map (item_at w signed all) (range_with_len 0 m)) rest) (sym number)

-- where they are not there, there are not so many
pub integers_short :
    (w : IntegerWidth) (signed : Bool) (count : ℕ) (input : List ℕ) (why : Failure)
    → bytes (count * byte_len (width_of w)) input ≡ failed why
    → in_turn (replicate count (integer_within w signed)) input ≡ failed why
integers_short w signed count input why e =
    let h = bytes_short (count * byte_len (width_of w)) input why e in
    values_missing (integer_of w signed) count (byte_len (width_of w)) input h.0 ∙ ap (λ o. failed o) (sym h.1)

-- a byte is the integer in one byte
one_byte : (all : List ℕ) (k : ℕ) → k < length all → get_or all k 0 ≡ little_endian (take 1 (drop (k * 1) all))
one_byte all k h =
    let once : k * 1 ≡ k = omega arith in
    let alone : get_or all k 0 + 256 * 0 ≡ get_or all k 0 = omega arith in
    sym alone
    ∙ ap (λ b. little_endian (take 1 b)) (sym (drop-cons all k 0 h))
    ∙ ap (λ m. little_endian (take 1 (drop m all))) (sym once)

-- integers of one byte with no sign are the bytes
pub bytes_are :
    (all : List ℕ) → map (item_at width.One false all) (range_with_len 0 (length all / 1)) ≡ map Values.Unsigned all
bytes_are all =
    let count : length all / 1 ≡ length all = omega arith in
    let read : ℕ → ℕ = λ k. little_endian (take 1 (drop (k * 1) all)) in
    ap (λ n. map (item_at width.One false all) (range_with_len 0 n)) count
    ∙ sym (map-map Values.Unsigned read (range_with_len 0 (length all)))
    ∙ ap (λ l. map Values.Unsigned l) (sym (fill_by_all read all (length all) 0 refl (one_byte all)))

-- the item at an index below the count
pub item_there : (f : ℕ → Value) (n i : ℕ) → i < n → slice_get (map f (range_with_len 0 n)) i ≡ Some (f i)
item_there f n i h =
    let inside : i < length (map f (range_with_len 0 n)) = subst (λ m. i < m) (sym (length-map-range_with_len f 0 n)) h in
    slice_get-get_or (map f (range_with_len 0 n)) i (f i) inside
    ∙ ap (λ v. Some v) (get_or-map-range_with_len f 0 n i i (f i) h (omega arith))

-- the bytes of an item below the count are there
pub bytes_fit : (n w i : ℕ) → i < n / w → i * w + w ≤ n
bytes_fit n w i h =
    let all = div-mul-le_self n w in
    let some = mul-le-mul_right w h in
    omega (arith, suc-mul i w)
