-- Integers that texts write.
use Rattle.std.proofs.Common.{◌≡◌, ℕ, ◌^◌, ◌<◌, ◌==◌, ◌&&◌, Bool, true, false, cond, List, [], ◌∷◌, length, drop, get_or}
use Rattle.std.proofs.Common.{Option, Some, None, option_map, Result, Ok, Err, refl, ap, sym, ◌∙◌, subst, arith}
use Rattle.std.proofs.lemmas.Bool.{and_parts, and_from, and_right, ltb-true, lt-ltb, eqb-true}
use Rattle.std.specs.Prelude.{ℤ, pos, negsuc, neg_ℤ, nat_lt, FitsSigned, if◌then◌else◌}
use Rattle.std.specs.Char.{digit_value}
use Rattle.std.specs.Int.{w128}
use Rattle.std.specs.Result.{result_ok}
use Rattle.std.specs.Str.Parse.{AllDigits, IsNumeral, digits_value, ParsesUnsigned, ParsesSigned}
use Rattle.scale_info_value_json.specs.TreeParts.{are_digits, decimal_in, signed_decimal_in, below, within, is_within}

-- bytes that test as digits are digits
all_digits : (bs : List ℕ) → are_digits bs ≡ true → AllDigits 10 bs
all_digits [] e = tt
all_digits (c ∷ cs) e =
    let p = and_parts (nat_lt (digit_value c) 10) (are_digits cs) e in (ltb-true _ _ p.0, all_digits cs p.1)

-- digits test as digits
digits_test : (bs : List ℕ) → AllDigits 10 bs → are_digits bs ≡ true
digits_test [] all = refl
digits_test (c ∷ cs) all = and_from _ _ (lt-ltb _ _ all.0) (digits_test cs all.1)

-- a numeral writes its number
pub decimal_of : (bs : List ℕ) → IsNumeral 10 bs → decimal_in bs ≡ Some (digits_value 10 bs)
decimal_of bs n =
    ap (λ (b : Bool). if b then Some (digits_value 10 bs) else None)
    (and_from (nat_lt 0 (length bs)) (are_digits bs) (lt-ltb _ _ n.0) (digits_test bs n.1))

-- what writes a number is a numeral
numeral_of : (bs : List ℕ) → nat_lt 0 (length bs) && are_digits bs ≡ true → IsNumeral 10 bs
numeral_of bs e =
    let p = and_parts (nat_lt 0 (length bs)) (are_digits bs) e in (ltb-true _ _ p.0, all_digits bs p.1)

-- a limit tests a number
limited : (n limit : ℕ) → n < limit → below limit (Some n) ≡ Some n
limited n limit h = ap (λ (b : Bool). if b then Some n else None) (lt-ltb n limit h)

-- where parsing failed, no number below the limit is written
unparsed :
    (limit : ℕ) (bs : List ℕ) (t : Bool) → nat_lt 0 (length bs) && are_digits bs ≡ t
    → ((IsNumeral 10 bs × (digits_value 10 bs < limit)) → ⊥)
    → None ≡ below limit (if t then Some (digits_value 10 bs) else None)
unparsed limit bs false e h = refl
unparsed limit bs true e h = over (nat_lt (digits_value 10 bs) limit) refl
  where
    over :
        (small : Bool) → nat_lt (digits_value 10 bs) limit ≡ small
        → None ≡ (if small then Some (digits_value 10 bs) else None)
    over false f = refl
    over true f = absurd (h (numeral_of bs e, ltb-true _ _ f))

-- what parsing gives of digits, below a limit
abbrev Parsed : {E : Type 0} → ℕ → List ℕ → Result ℕ E → Type 0
Parsed limit bs (Ok n) = (IsNumeral 10 bs × (digits_value 10 bs < limit)) × (n ≡ digits_value 10 bs)
Parsed limit bs (Err e) = (IsNumeral 10 bs × (digits_value 10 bs < limit)) → ⊥

-- it is the number that they write
parsed_is :
    {E : Type 0} (limit : ℕ) (bs : List ℕ) (r : Result ℕ E) → Parsed limit bs r
    → result_ok r ≡ below limit (decimal_in bs)
parsed_is limit bs (Ok n) h =
    ap Some h.1 ∙ sym (limited (digits_value 10 bs) limit h.0.1) ∙ ap (below limit) (sym (decimal_of bs h.0.0))
parsed_is limit bs (Err e) h = unparsed limit bs (nat_lt 0 (length bs) && are_digits bs) refl h

-- where no plus stands first, parsing gives the number that a text writes
pub unsigned_parsed :
    {E : Type 0} (bs : List ℕ) (r : Result ℕ E) (o : Option ℕ) → o ≡ result_ok r → (get_or bs 0 0 == 43) ≡ false
    → ParsesUnsigned 128 10 bs r → o ≡ below (2 ^ 128) (decimal_in bs)
unsigned_parsed {E} bs (Ok n) o e plain h =
    e ∙ parsed_is {E = E} (2 ^ 128) bs (Ok n) (subst (λ (b : Bool). Parsed {E = E} (2 ^ 128) (drop (cond b 1 0) bs) (Ok n)) plain h)
unsigned_parsed {E} bs (Err d) o e plain h =
    e ∙ parsed_is {E = E} (2 ^ 128) bs (Err d) (subst (λ (b : Bool). Parsed {E = E} (2 ^ 128) (drop (cond b 1 0) bs) (Err d)) plain h)

-- a text that begins with a plus writes none
plus_none : (bs : List ℕ) → (get_or bs 0 0 == 43) ≡ true → decimal_in bs ≡ None
plus_none [] e = cc
plus_none (c ∷ cs) e =
    let is : c ≡ 43 = eqb-true c 43 e in
    ap (λ x. decimal_in (x ∷ cs)) is
    ∙ ap (λ (b : Bool). if b then Some (digits_value 10 (43 ∷ cs)) else None)
    (and_right (nat_lt 0 (length (43 ∷ cs))) (are_digits (43 ∷ cs)) refl)

-- and none below a limit
pub none_below : (limit : ℕ) (bs : List ℕ) → (get_or bs 0 0 == 43) ≡ true → None ≡ below limit (decimal_in bs)
none_below limit bs e = ap (below limit) (sym (plus_none bs e))

-- an integer is within the limit of a width where it fits the width
within_of : (z : ℤ) → FitsSigned w128 z → is_within (2 ^ 127) z ≡ true
within_of (pos n) f = let h : n < 2 ^ 127 = f.sfits in lt-ltb _ _ h
within_of (negsuc n) f = let h : n < 2 ^ 127 = f.sfits in lt-ltb _ _ h

-- and only there
fits_of : (z : ℤ) → is_within (2 ^ 127) z ≡ true → FitsSigned w128 z
fits_of (pos n) e = let h = ltb-true n (2 ^ 127) e in record { sfits = omega arith }
fits_of (negsuc n) e = let h = ltb-true n (2 ^ 127) e in record { sfits = omega arith }

-- what parsing gives of digits with a sign
abbrev ParsedAs : {E : Type 0} → (ℕ → ℤ) → List ℕ → Result ℤ E → Type 0
ParsedAs make ds (Ok z) = (IsNumeral 10 ds × FitsSigned w128 (make (digits_value 10 ds))) × (z ≡ make (digits_value 10 ds))
ParsedAs make ds (Err e) = (IsNumeral 10 ds × FitsSigned w128 (make (digits_value 10 ds))) → ⊥

-- where parsing failed, no integer within the limit is written
signed_unparsed :
    (make : ℕ → ℤ) (ds : List ℕ) (t : Bool) → nat_lt 0 (length ds) && are_digits ds ≡ t
    → ((IsNumeral 10 ds × FitsSigned w128 (make (digits_value 10 ds))) → ⊥)
    → None ≡ within (2 ^ 127) (option_map make (if t then Some (digits_value 10 ds) else None))
signed_unparsed make ds false e h = refl
signed_unparsed make ds true e h = over (is_within (2 ^ 127) (make (digits_value 10 ds))) refl
  where
    over :
        (small : Bool) → is_within (2 ^ 127) (make (digits_value 10 ds)) ≡ small
        → None ≡ (if small then Some (make (digits_value 10 ds)) else None)
    over false f = refl
    over true f = absurd (h (numeral_of ds e, fits_of (make (digits_value 10 ds)) f))

-- it is the integer that they write
signed_is :
    {E : Type 0} (make : ℕ → ℤ) (ds : List ℕ) (r : Result ℤ E) → ParsedAs make ds r
    → result_ok r ≡ within (2 ^ 127) (option_map make (decimal_in ds))
signed_is make ds (Ok z) h =
    let v = make (digits_value 10 ds) in
    ap Some h.1
    ∙ ap (λ (b : Bool). if b then Some v else None) (sym (within_of v h.0.1))
    ∙ ap (λ o. within (2 ^ 127) (option_map make o)) (sym (decimal_of ds h.0.0))
signed_is make ds (Err e) h = signed_unparsed make ds (nat_lt 0 (length ds) && are_digits ds) refl h

-- an integer by whether a minus stands first
abbrev by_sign : Bool → List ℕ → Option ℤ
by_sign minus bs =
    if minus then option_map (λ n. neg_ℤ (pos n)) (decimal_in (drop 1 bs)) else option_map pos (decimal_in bs)

-- what parsing gives by whether a minus and whether a plus stand first
abbrev ParsedBy : {E : Type 0} → Bool → Bool → List ℕ → Result ℤ E → Type 0
ParsedBy minus plus bs (Ok z) =
    let ds = cond minus (drop 1 bs) (drop (cond plus 1 0) bs) in
    let v = cond minus (neg_ℤ (pos (digits_value 10 ds))) (pos (digits_value 10 ds)) in
    (IsNumeral 10 ds × FitsSigned w128 v) × (z ≡ v)
ParsedBy minus plus bs (Err e) =
    let ds = cond minus (drop 1 bs) (drop (cond plus 1 0) bs) in
    let v = cond minus (neg_ℤ (pos (digits_value 10 ds))) (pos (digits_value 10 ds)) in
    (IsNumeral 10 ds × FitsSigned w128 v) → ⊥

-- where no plus stands first, it is the integer
signed_by :
    {E : Type 0} (minus : Bool) (bs : List ℕ) (r : Result ℤ E) → ParsedBy minus false bs r
    → result_ok r ≡ within (2 ^ 127) (by_sign minus bs)
signed_by {E} true bs (Ok z) h = signed_is {E = E} (λ n. neg_ℤ (pos n)) (drop 1 bs) (Ok z) h
signed_by {E} true bs (Err e) h = signed_is {E = E} (λ n. neg_ℤ (pos n)) (drop 1 bs) (Err e) h
signed_by {E} false bs (Ok z) h = signed_is {E = E} pos bs (Ok z) h
signed_by {E} false bs (Err e) h = signed_is {E = E} pos bs (Err e) h

-- where no plus stands first, parsing gives the integer that a text writes
pub signed_parsed :
    {E : Type 0} (bs : List ℕ) (r : Result ℤ E) (o : Option ℤ) → o ≡ result_ok r → (get_or bs 0 0 == 43) ≡ false
    → ParsesSigned w128 10 bs r → o ≡ within (2 ^ 127) (signed_decimal_in bs)
signed_parsed {E} bs (Ok z) o e plain h =
    e
    ∙ signed_by {E = E} (get_or bs 0 0 == 45) bs (Ok z)
    (subst (λ (b : Bool). ParsedBy {E = E} (get_or bs 0 0 == 45) b bs (Ok z)) plain h)
signed_parsed {E} bs (Err d) o e plain h =
    e
    ∙ signed_by {E = E} (get_or bs 0 0 == 45) bs (Err d)
    (subst (λ (b : Bool). ParsedBy {E = E} (get_or bs 0 0 == 45) b bs (Err d)) plain h)

-- a text that begins with a plus writes no integer with a sign
signed_plus_none : (bs : List ℕ) → (get_or bs 0 0 == 43) ≡ true → signed_decimal_in bs ≡ None
signed_plus_none bs e = plain (get_or bs 0 0 == 45) refl
  where
    plain : (minus : Bool) → (get_or bs 0 0 == 45) ≡ minus → by_sign minus bs ≡ None
    plain true f =
        let is : get_or bs 0 0 ≡ 43 = eqb-true _ _ e in
        let other : get_or bs 0 0 ≡ 45 = eqb-true _ _ f in
        absurd (omega arith)
    plain false f = ap (option_map pos) (plus_none bs e)

-- and none within a limit
pub none_within : (limit : ℕ) (bs : List ℕ) → (get_or bs 0 0 == 43) ≡ true → None ≡ within limit (signed_decimal_in bs)
none_within limit bs e = ap (within limit) (sym (signed_plus_none bs e))
