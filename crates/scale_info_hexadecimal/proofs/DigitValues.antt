-- The values of digits, and the bytes that pairs of them write.
use Rattle.std.proofs.Common.{◌≡◌, ◌+◌, ◌*◌, ◌/◌, ◌%◌, ◌<◌, ◌≤◌, ◌∙◌, ℕ, List}
use Rattle.std.proofs.Common.{Option, None, Some, Ok, Err, Result, ap, arith, inl, inr, length}
use Rattle.std.proofs.Common.{max, refl, subst, sym, slice_set, unwrap_or, is_some, true}
use Rattle.std.proofs.Common.{◌++◌, drop, take}
use Rattle.std.proofs.Math.Seq.{take-append_seam}
use Rattle.std.proofs.Math.Nat.{le-max_left, le-max_right, max-le}
use Rattle.std.proofs.lemmas.List.{get_or-set_other, get_or-set_same, length-set}
use Rattle.std.proofs.lemmas.Bool.{cases_eq, cases_lt}
use Rattle.std.specs.List.{slice_index}
use Rattle.hex.proofs.HexLemmas.{decode_of-ok}
use Rattle.hex.specs.Hex.{decode_of, hex_digit_value}
use Rattle.hex.specs.Hex.{pair_value}
use Rattle.hex.specs.declared.error.FromHexError.{FromHexError}
use Rattle.std.specs.Result.{result_ok}
use Rattle.scale_info_hexadecimal.specs.Digits.{AreValues, HasNoDigit}

-- the first values were put in their places, and this is the greatest of them
pub record Values (digits values : List ℕ) (count greatest : ℕ) : Type 0 where
  pub same : length values ≡ length digits
  pub each :
      greatest < 16
      → (k : ℕ) → k < count → hex_digit_value (slice_index digits k) ≡ Some (slice_index values k)
  pub none : 16 ≤ greatest → HasNoDigit digits

-- before the first digit
pub no_values : (digits values : List ℕ) → length digits ≡ length values → Values digits values 0 0
no_values digits values same = record {
  same = sym same;
  each = λ small k within. absurd (omega arith);
  none = λ great. absurd (omega arith);
}

-- a value is below 16
small : (c v : ℕ) → hex_digit_value c ≡ Some v → v < 16
small c v h = grind (arith)

by_value : (found : Option ℕ) (value : ℕ) → value ≡ unwrap_or found 255 → value < 16 → found ≡ Some value
by_value (Some v) value is small = ap Some (sym is)
by_value None value is small = absurd (omega (arith, is))

no_value :
    (digit : ℕ) (found : Option ℕ) → hex_digit_value digit ≡ found → 16 ≤ unwrap_or found 255
    → hex_digit_value digit ≡ None
no_value digit None is great = is
no_value digit (Some v) is great = absurd (omega (arith, great, small digit v is))

-- one value more
pub values_more :
    (digits values : List ℕ) (index greatest value next : ℕ)
    → Values digits values index greatest → index < length values
    → value ≡ unwrap_or (hex_digit_value (slice_index digits index)) 255
    → next ≡ max greatest value
    → Values digits (slice_set values index value) (index + 1) next
values_more digits values index greatest value next so_far within is most = record {
  same = length-set values index value ∙ so_far.same;
  each = λ small k before.
      let lesser : greatest < 16 = omega (arith, le-max_left greatest value, small, most) in
      let fits : value < 16 = omega (arith, le-max_right greatest value, small, most) in
      elim (cases_eq k index) [
        | inl here ↦
            let put : slice_index (slice_set values index value) index ≡ value =
            get_or-set_same values index value 0 within in
            subst
            (λ i. hex_digit_value (slice_index digits i)
            ≡ Some (slice_index (slice_set values index value) i))
            (sym here)
            (by_value (hex_digit_value (slice_index digits index)) value is fits ∙ ap Some (sym put))
        | inr other ↦
            so_far.each lesser k (omega (arith, before, other))
            ∙ ap Some (sym (get_or-set_other values index k value 0 other))
      ];
  none = λ great.
      elim (cases_lt greatest 16) [
        | inl lesser ↦
            record {
              place = index;
              within = omega (arith, within, so_far.same);
              none =
                  no_value (slice_index digits index) (hex_digit_value (slice_index digits index))
                  refl (omega (arith, is, greater lesser great));
            }
        | inr no_less ↦ so_far.none (omega (arith, no_less))
      ];
}
  where
    greater : greatest < 16 → 16 ≤ next → 16 ≤ value
    greater lesser great =
        elim (cases_lt value 16) [
          | inl less ↦
              let both : max greatest value ≤ 15 = max-le (omega (arith, lesser)) (omega (arith, less)) in
              absurd (omega (arith, both, most, great))
          | inr no_less ↦ omega (arith, no_less)
        ]

-- after the last digit, where each is one
pub all_values :
    (digits values : List ℕ) (count greatest : ℕ) → Values digits values count greatest
    → length values ≤ count → greatest < 16 → AreValues digits values
all_values digits values count greatest so_far whole small = record {
  same = so_far.same;
  each = λ k within. so_far.each small k (omega (arith, whole, so_far.same, within));
}

product :
    (a b pair : ℕ) → a < 16 → b < 16 → pair ≡ a + b * 256 → pair * 4097 % 65536 / 256 ≡ a * 16 + b
product a b pair high low is = omega (arith, high, low, is)

-- the byte of two values
pub byte_of :
    (digits values : List ℕ) (i pair : ℕ) → AreValues digits values → 2 * i + 1 < length digits
    → pair ≡ slice_index values (2 * i) + slice_index values (2 * i + 1) * 256
    → pair_value (slice_index digits (2 * i)) (slice_index digits (2 * i + 1)) (2 * i)
    ≡ Ok (pair * 4097 % 65536 / 256)
byte_of digits values i pair are within is =
    let high = are.each (2 * i) (omega (arith, within)) in
    let low = are.each (2 * i + 1) within in
    let byte =
    product (slice_index values (2 * i)) (slice_index values (2 * i + 1)) pair
    (small (slice_index digits (2 * i)) (slice_index values (2 * i)) high)
    (small (slice_index digits (2 * i + 1)) (slice_index values (2 * i + 1)) low) is in
    rw (high, low) (ap Ok (sym byte))

-- digits of which one is none write nothing
pub writes_none :
    (digits : List ℕ) → HasNoDigit digits → result_ok (decode_of digits) ≡ None
writes_none digits has = by (decode_of digits) refl
  where
    by : (r : Result (List ℕ) FromHexError) → decode_of digits ≡ r → result_ok r ≡ None
    by (Err e) is = refl
    by (Ok bytes) is =
        let all = (decode_of-ok digits bytes is).1 in
        let digit = all has.place 0 has.within in
        absurd (no_digit (hex_digit_value (slice_index digits has.place)) has.none digit)
      where
        no_digit : (found : Option ℕ) → found ≡ None → is_some found ≡ true → ⊥
        no_digit None none some = cc some
        no_digit (Some v) none some = cc none

-- a slice that was written to whole
pub written_back :
    (count : ℕ) (new old : List ℕ) → length new ≡ count
    → take count (new ++ drop (length new) old) ≡ new
written_back count new old is =
    ap (λ n. take n (new ++ drop (length new) old)) (sym is)
    ∙ take-append_seam new (drop (length new) old)
