-- Tokens of integers, texts and bytes.
use Rattle.std.proofs.Common.{◌≡◌, ℕ, suc, ◌^◌, ◌<◌, Bool, true, false, List, [], ◌∷◌, ◌++◌, get_or, drop, Some, option_map}
use Rattle.std.proofs.Common.{refl, ap, ◌∙◌, arith, decimal}
use Rattle.std.proofs.lemmas.Bool.{ltb-true, ne_eqb}
use Rattle.std.proofs.lemmas.Fmt.{decimal_is_IsNumeral_wide}
use Rattle.std.specs.Prelude.{ℤ, pos, negsuc, neg_ℤ, nat_lt, codes, unsigned_abs, if◌then◌else◌}
use Rattle.std.specs.Char.{digit_value}
use Rattle.std.specs.Fmt.{signed_decimal}
use Rattle.std.specs.Result.{result_ok}
use Rattle.std.specs.Str.Parse.{IsNumeral}
use Rattle.hex.specs.Hex.{encode_lower, IsBytes}
use Rattle.hex.proofs.HexLemmas.{decode_of-encode_lower}
use Rattle.json.specs.Token as token
use Rattle.json.specs.Token.{Token}
use Rattle.json.specs.Json as json
use Rattle.json.specs.Print.{IsNumber}
use Rattle.json.proofs.Printed.Decimals.{IsNumber-decimal, IsNumber-signed_decimal}
use Rattle.serde_json.specs.Data.{Data, Num, boolean, number, string, unsigned, negative}
use Rattle.serde_json.specs.Read.{number_of}
use Rattle.serde_json.proofs.Numbers.{number_of-decimal, number_of-negative}
use Rattle.scale_info_value_json.specs.Takers.{Taker, taken}
use Rattle.scale_info_hexadecimal.specs.Digits.{bytes_by_digits}
use Rattle.scale_info_value_json.specs.TreeParts.{natural_in, integer_in, decimal_in, signed_decimal_in, is_within}
use Rattle.scale_info_value_json.proofs.Numbers.{decimal_of}
use Rattle.scale_info_value_json.proofs.Shown.{IsShown}

-- the digits of an integer write it
decimal_back : (n : ℕ) → n < 10 ^ 64 → decimal_in (decimal n) ≡ Some n
decimal_back n h = let d = decimal_is_IsNumeral_wide n h in decimal_of (decimal n) d.0 ∙ ap Some d.1

-- digits do not begin with a minus sign
no_minus : (ds : List ℕ) → IsNumeral 10 ds → get_or ds 0 0 ≡ 45 → ⊥
no_minus [] h e = omega (arith, h.0)
no_minus (d ∷ ds) h e = let digit : digit_value d < 10 = h.1.0 in let is : d ≡ 45 = e in grind arith

-- the digits of an integer with its sign write it
signed_back : (z : ℤ) → unsigned_abs z < 10 ^ 64 → signed_decimal_in (signed_decimal z) ≡ Some z
signed_back (pos n) h =
    let d = decimal_is_IsNumeral_wide n h in
    ap (λ (b : Bool). if b then option_map (λ n. neg_ℤ (pos n)) (decimal_in (drop 1 (decimal n))) else option_map pos (decimal_in (decimal n)))
    (ne_eqb (get_or (decimal n) 0 0) 45 (no_minus (decimal n) d.0))
    ∙ ap (option_map pos) (decimal_back n h)
signed_back (negsuc n) h = ap (option_map (λ n. neg_ℤ (pos n))) (decimal_back (suc n) h)

-- a string
pub string_shown : {A : Type 0} (s : List ℕ) (take : Taker A) (value : A) → take (string s) ≡ taken value → IsShown (token.string s ∷ []) take value
string_shown s take value e =
    record { json = json.string s; tree = string s; prints = refl; numbers = tt; reads = refl; is = e }

-- a number that is read as it was printed
number_shown :
    {A : Type 0} (s : List ℕ) (n : Num) (take : Taker A) (value : A) → IsNumber s → number_of s ≡ Some n
    → take (number n) ≡ taken value → IsShown (token.number s ∷ []) take value
number_shown s n take value printed reads e =
    record {
      json = json.number s;
      tree = number n;
      prints = refl;
      numbers = printed;
      reads = ap (option_map number) reads;
      is = e;
    }

-- an integer of an unsigned type
pub natural_shown :
    {A : Type 0} (n : ℕ) (take : Taker A) (value : A) → n < 2 ^ 128
    → ((tree : Data) → natural_in tree ≡ Some n → take tree ≡ taken value)
    → IsShown ((if nat_lt n (2 ^ 53) then token.number (decimal n) else token.string (decimal n)) ∷ []) take value
natural_shown {A} n take value h by = by_size (nat_lt n (2 ^ 53)) refl
  where
    by_size :
        (small : Bool) → nat_lt n (2 ^ 53) ≡ small
        → IsShown ((if small then token.number (decimal n) else token.string (decimal n)) ∷ []) take value
    by_size true e =
        let less : n < 2 ^ 53 = ltb-true _ _ e in
        number_shown (decimal n) (unsigned n) take value (IsNumber-decimal n (omega arith))
        (number_of-decimal n (omega arith)) (by (number (unsigned n)) refl)
    by_size false e = string_shown (decimal n) take value (by (string (decimal n)) (decimal_back n (omega arith)))

-- an integer of a signed type
pub integer_shown :
    {A : Type 0} (z : ℤ) (take : Taker A) (value : A) → is_within (2 ^ 127) z ≡ true
    → ((tree : Data) → integer_in tree ≡ Some z → take tree ≡ taken value)
    → IsShown
    ((if nat_lt (unsigned_abs z) (2 ^ 53) then token.number (signed_decimal z) else token.string (signed_decimal z)) ∷ [])
    take value
integer_shown {A} z take value h by = by_size (nat_lt (unsigned_abs z) (2 ^ 53)) refl
  where
    small_shown : (z : ℤ) → unsigned_abs z < 2 ^ 53 → ((tree : Data) → integer_in tree ≡ Some z → take tree ≡ taken value)
        → IsShown (token.number (signed_decimal z) ∷ []) take value
    small_shown (pos n) less by =
        number_shown (decimal n) (unsigned n) take value (IsNumber-decimal n (omega arith))
        (number_of-decimal n (omega arith)) (by (number (unsigned n)) refl)
    small_shown (negsuc n) less by =
        number_shown (signed_decimal (negsuc n)) (negative (negsuc n)) take value
        (IsNumber-signed_decimal (negsuc n) (omega arith)) (number_of-negative n (omega arith))
        (by (number (negative (negsuc n))) refl)

    bounded : (z : ℤ) → is_within (2 ^ 127) z ≡ true → unsigned_abs z < 10 ^ 64
    bounded (pos n) e = let less : n < 2 ^ 127 = ltb-true _ _ e in omega arith
    bounded (negsuc n) e = let less : n < 2 ^ 127 = ltb-true _ _ e in omega arith

    by_size :
        (small : Bool) → nat_lt (unsigned_abs z) (2 ^ 53) ≡ small
        → IsShown ((if small then token.number (signed_decimal z) else token.string (signed_decimal z)) ∷ []) take value
    by_size true e = small_shown z (ltb-true _ _ e) by
    by_size false e =
        string_shown (signed_decimal z) take value (by (string (signed_decimal z)) (signed_back z (bounded z h)))

-- a truth value
pub truth_shown : {A : Type 0} (b : Bool) (take : Taker A) (value : A) → take (boolean b) ≡ taken value → IsShown (token.boolean b ∷ []) take value
truth_shown b take value e =
    record { json = json.boolean b; tree = boolean b; prints = refl; numbers = tt; reads = refl; is = e }

-- the hexadecimal digits of bytes write them
pub bytes_back : (bytes : List ℕ) → IsBytes bytes → bytes_by_digits (codes "0x" ++ encode_lower bytes) ≡ Some bytes
bytes_back bytes all = ap result_ok (decode_of-encode_lower bytes all)
