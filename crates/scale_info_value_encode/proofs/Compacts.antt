-- Compact integers.
use Rattle.std.proofs.Common.{◌≡◌, ℕ, zero, suc, ◌+◌, ◌-◌, ◌*◌, ◌/◌, ◌%◌, ◌<◌, ◌≤◌, ◌^◌, Bool, true, false}
use Rattle.std.proofs.Common.{◌⊎◌, inl, inr, List, [], ◌∷◌, ◌++◌, length, refl, ap, sym, ◌∙◌, arith, subst}
use Rattle.std.proofs.lemmas.Bool.{cases_lt}
use Rattle.std.proofs.lemmas.Grind.{common_steps}
use Rattle.std.proofs.Math.Nat.{pow-succ', pow-le-pow_right}
use Rattle.std.specs.Prelude.{nat_lt, nat_le, max, if◌then◌else◌}
use Rattle.std.specs.List.{AllByRecursion}
use Rattle.scale_info_bytes.specs.Encodings.{IsByte}
use Rattle.scale_info_value.specs.Outcomes.{decoded, failed, malformed, and_then, outcome_map}
use Rattle.scale_info_value.specs.IntegerDecoders as read
use Rattle.scale_info_value.specs.IntegerDecoders.{little_endian, integer, bytes, at_least, below, low_bits_first, compact_after, compact}
use Rattle.scale_info_value_encode.specs.Writers.{if_fits}
use Rattle.scale_info_value_encode.specs.IntegerWriters.{integer_bytes, first_width, many_bytes, compact_bytes, compact_below}
use Rattle.scale_info_value_encode.proofs.IntegerBytes.{lowest_first, length_is, back_again, forth_again, bound}
use Rattle.scale_info_value_encode.proofs.Inverse.{IsInverse, first_bytes, unmapped, sequenced}
use Rattle.scale_info_value_encode.proofs.Widths.{bytes_back, bytes_forth, fitting, less_of, less_is, not_less}

-- an integer is read from its bytes
integer_back :
    (width n : ℕ) (rest : List ℕ) → n < 256 ^ width → integer width (integer_bytes width n ++ rest) ≡ decoded n rest
integer_back width n rest h =
    ap (outcome_map little_endian) (bytes_back width (integer_bytes width n) rest (length_is width 0 n))
    ∙ ap (λ m. decoded m rest) (back_again width n h)

-- what an integer was read from
record ReadFrom (width n : ℕ) (input rest : List ℕ) : Type 0 where
  front : List ℕ
  parts : input ≡ front ++ rest
  long : length front ≡ width
  is : little_endian front ≡ n
  made : AllByRecursion IsByte front

-- an integer was read from so many bytes
integer_forth :
    (width n : ℕ) (input rest : List ℕ) → AllByRecursion IsByte input → integer width input ≡ decoded n rest
    → ReadFrom width n input rest
integer_forth width n input rest all e =
    let p = unmapped little_endian (bytes width input) n rest e in
    let q = bytes_forth width input p.0 rest p.1 in
    record {
      front = p.0;
      parts = q.1;
      long = q.0;
      is = p.2;
      made = first_bytes p.0 rest (subst (AllByRecursion IsByte) q.1 all);
    }

-- an integer that is not below the least
at_least_is : (least n : ℕ) (rest : List ℕ) → least ≤ n → at_least least n rest ≡ decoded n rest
at_least_is least n rest h = grind (arith, common_steps)

-- what such an integer is
at_least_of :
    (least n m : ℕ) (r rest : List ℕ) → at_least least n r ≡ decoded m rest → (least ≤ n) × (n ≡ m) × (r ≡ rest)
at_least_of least n m r rest e = grind (arith, common_steps)

-- the first width that an integer fits: it fits, and no lower one from the least on
pub width_fits :
    (more least n : ℕ) → n < 256 ^ (least + more) → n < 256 ^ first_width more least n
width_fits zero least n h = subst (λ k. n < 256 ^ k) (omega arith) h
width_fits (suc more) least n h =
    by_test (nat_lt n (256 ^ least)) (less_of n (256 ^ least))
    (width_fits more (least + 1) n (subst (λ k. n < 256 ^ k) (omega arith) h))
  where
    by_test :
        (fits : Bool) → (fits ≡ true → n < 256 ^ least) → n < 256 ^ first_width more (least + 1) n
        → n < 256 ^ (if fits then least else first_width more (least + 1) n)
    by_test true now later = now refl
    by_test false now later = later

-- so it is from the least to the most
pub width_between :
    (more least n : ℕ) → (least ≤ first_width more least n) × (first_width more least n ≤ least + more)
width_between zero least n = (omega arith, omega arith)
width_between (suc more) least n = by_test (nat_lt n (256 ^ least)) (width_between more (least + 1) n)
  where
    by_test :
        (fits : Bool) → (least + 1 ≤ first_width more (least + 1) n)
        × (first_width more (least + 1) n ≤ least + 1 + more)
        → (least ≤ (if fits then least else first_width more (least + 1) n))
        × ((if fits then least else first_width more (least + 1) n) ≤ least + suc more)
    by_test true later = (omega arith, omega arith)
    by_test false later = (omega (arith, later.0), omega (arith, later.1))

-- one width lower does not fit, unless it is below the least
pub width_needed :
    (more least n : ℕ) → least < first_width more least n → 256 ^ (first_width more least n - 1) ≤ n
width_needed zero least n h = absurd (omega arith)
width_needed (suc more) least n h =
    by_test (nat_lt n (256 ^ least)) (not_less n (256 ^ least)) (first_width more (least + 1) n)
    (width_between more (least + 1) n).0 (width_needed more (least + 1) n) h
  where
    by_test :
        (fits : Bool) → (fits ≡ false → 256 ^ least ≤ n) → (width : ℕ) → least + 1 ≤ width
        → (least + 1 < width → 256 ^ (width - 1) ≤ n) → least < (if fits then least else width)
        → 256 ^ ((if fits then least else width) - 1) ≤ n
    by_test true not_now width low later h = absurd (omega arith)
    by_test false not_now width low later h = elim (cases_lt (least + 1) width) [
      | inl more ↦ later more
      | inr same ↦ subst (λ k. 256 ^ k ≤ n) (omega arith) (not_now refl)
    ]

-- a width that an integer fits, and no lower one, is the first
pub width_is :
    (more least n width : ℕ) → least ≤ width → width ≤ least + more → n < 256 ^ width
    → ((k : ℕ) → least ≤ k → k < width → 256 ^ k ≤ n) → first_width more least n ≡ width
width_is zero least n width low high fits needs = omega arith
width_is (suc more) least n width low high fits needs =
    by_test (nat_lt n (256 ^ least)) (less_of n (256 ^ least)) (not_less n (256 ^ least))
    (λ lower. width_is more (least + 1) n width (omega arith) (omega arith) fits (λ k p q. needs k (omega arith) q))
    (cases_lt least width)
  where
    by_test :
        (now : Bool) → (now ≡ true → n < 256 ^ least) → (now ≡ false → 256 ^ least ≤ n)
        → (least < width → first_width more (least + 1) n ≡ width)
        → (least < width) ⊎ (width ≤ least) → (if now then least else first_width more (least + 1) n) ≡ width
    by_test true less more later (inl lower) =
        let small = less refl in let large = needs least (omega arith) lower in absurd (omega arith)
    by_test true less more later (inr same) = omega arith
    by_test false less more later (inl lower) = later lower
    by_test false less more later (inr same) =
        let one : width ≡ least = omega arith in
        let small : n < 256 ^ least = subst (λ k. n < 256 ^ k) one fits in
        let large = more refl in absurd (omega arith)

-- the test for less fails from the limit on
pub more_is : (n m : ℕ) → m ≤ n → nat_lt n m ≡ false
more_is n m h = grind (arith, common_steps)

-- one byte
pub in_one : (n : ℕ) → n < 64 → compact_bytes n ≡ (4 * n) ∷ []
in_one n h i =
    if less_is n 64 h i then (4 * n) ∷ []
    else if nat_lt n 16384 then integer_bytes 2 (4 * n + 1)
    else if nat_lt n 1073741824 then integer_bytes 4 (4 * n + 2) else many_bytes (first_width 12 4 n) n

-- two bytes
pub in_two : (n : ℕ) → 64 ≤ n → n < 16384 → compact_bytes n ≡ integer_bytes 2 (4 * n + 1)
in_two n h k i =
    if more_is n 64 h i then (4 * n) ∷ []
    else if less_is n 16384 k i then integer_bytes 2 (4 * n + 1)
    else if nat_lt n 1073741824 then integer_bytes 4 (4 * n + 2) else many_bytes (first_width 12 4 n) n

-- four bytes
pub in_four : (n : ℕ) → 16384 ≤ n → n < 1073741824 → compact_bytes n ≡ integer_bytes 4 (4 * n + 2)
in_four n h k i =
    if more_is n 64 (omega arith) i then (4 * n) ∷ []
    else if more_is n 16384 h i then integer_bytes 2 (4 * n + 1)
    else if less_is n 1073741824 k i then integer_bytes 4 (4 * n + 2) else many_bytes (first_width 12 4 n) n

-- five bytes or more
pub in_many : (n : ℕ) → 1073741824 ≤ n → compact_bytes n ≡ many_bytes (first_width 12 4 n) n
in_many n h i =
    if more_is n 64 (omega arith) i then (4 * n) ∷ []
    else if more_is n 16384 (omega arith) i then integer_bytes 2 (4 * n + 1)
    else if more_is n 1073741824 h i then integer_bytes 4 (4 * n + 2) else many_bytes (first_width 12 4 n) n

-- two to the 128 is as many as 16 bytes have
abbrev limit : ℕ
limit = 256 ^ 16

-- what follows a first byte of mode 0
after_one : (mode high : ℕ) (rest : List ℕ) → mode ≡ 0 → compact_after mode high rest ≡ decoded high rest
after_one mode high rest e = ap (λ m. compact_after m high rest) e

-- an integer of which the low bits are in the first byte, as this mode is read, is read from its
-- bytes
low_back :
    (mode least width n : ℕ) (rest : List ℕ) → compact_bytes n ≡ integer_bytes (suc width) (4 * n + mode)
    → ((high : ℕ) (input : List ℕ) → compact_after mode high input ≡ low_bits_first width least high input) → mode < 4
    → least ≤ n → 4 * n + mode < 256 ^ suc width → compact (compact_bytes n ++ rest) ≡ decoded n rest
low_back mode least width n rest is reads m h fits =
    let power : 256 ^ suc width ≡ 256 * 256 ^ width = pow-succ' 256 width in
    let high = (4 * n + mode) % 256 / 4 in
    let more = (4 * n + mode) / 256 in
    let less : more < 256 ^ width = omega arith in
    let whole : high + 64 * more ≡ n = omega arith in
    let first : (4 * n + mode) % 256 % 4 ≡ mode = omega arith in
    ap (λ b. compact (b ++ rest)) (is ∙ lowest_first width (4 * n + mode))
    ∙ ap (λ m. compact_after m high (integer_bytes width more ++ rest)) first
    ∙ reads high (integer_bytes width more ++ rest)
    ∙ ap (λ o. and_then o (λ k r. at_least least (high + 64 * k) r)) (integer_back width more rest less)
    ∙ ap (λ k. at_least least k rest) whole
    ∙ at_least_is least n rest h

-- an integer in many bytes is read from them
many_back :
    (high n : ℕ) (rest : List ℕ) → high ≤ 12 → n < 256 ^ (high + 4) → 1073741824 ≤ n → 256 ^ (high + 3) ≤ n
    → compact_after 3 high (integer_bytes (high + 4) n ++ rest) ≡ decoded n rest
many_back high n rest h fits large needed =
    let least : max 1073741824 (256 ^ (high + 3)) ≤ n = omega arith in
    ap (λ t. if t then read.many_bytes high (integer_bytes (high + 4) n ++ rest) else failed malformed) (is_12 high h)
    ∙ ap (λ o. and_then o (λ k r. at_least (max 1073741824 (256 ^ (high + 3))) k r)) (integer_back (high + 4) n rest fits)
    ∙ at_least_is (max 1073741824 (256 ^ (high + 3))) n rest least
  where
    is_12 : (high : ℕ) → high ≤ 12 → nat_le high 12 ≡ true
    is_12 high h = grind (arith, common_steps)

-- after the byte that says how many
after_many :
    (width n : ℕ) (rest : List ℕ) → 4 ≤ width → width ≤ 16 → n < 256 ^ width → 1073741824 ≤ n → 256 ^ (width - 1) ≤ n
    → compact (many_bytes width n ++ rest) ≡ decoded n rest
after_many width n rest low high fits large needed =
    let first = 4 * (width - 4) + 3 in
    let mode : first % 4 ≡ 3 = omega arith in
    let more : first / 4 ≡ width - 4 = omega arith in
    let whole : width ≡ width - 4 + 4 = omega arith in
    (λ i. compact_after (mode i) (more i) (integer_bytes (whole i) n ++ rest))
    ∙ many_back (width - 4) n rest (omega arith) (subst (λ k. n < 256 ^ k) whole fits) large
    (subst (λ k. 256 ^ k ≤ n) (omega arith) needed)

-- one width lower than the first does not fit, also where it is the least
needed_from_four : (n : ℕ) → 1073741824 ≤ n → 256 ^ (first_width 12 4 n - 1) ≤ n
needed_from_four n h = by_cases (first_width 12 4 n) (width_between 12 4 n).0 (width_needed 12 4 n) (cases_lt 4 (first_width 12 4 n))
  where
    by_cases :
        (width : ℕ) → 4 ≤ width → (4 < width → 256 ^ (width - 1) ≤ n) → (4 < width) ⊎ (width ≤ 4) → 256 ^ (width - 1) ≤ n
    by_cases width low more (inl above) = more above
    by_cases width low more (inr same) =
        let one : width ≡ 4 = omega arith in subst (λ k. 256 ^ (k - 1) ≤ n) (sym one) (omega arith)

-- a compact integer is read from its bytes
pub compact_back : (n : ℕ) (rest : List ℕ) → n < limit → compact (compact_bytes n ++ rest) ≡ decoded n rest
compact_back n rest h = elim (cases_lt n 64) [
  | inl one ↦
      let mode : 4 * n % 4 ≡ 0 = omega arith in
      let high : 4 * n / 4 ≡ n = omega arith in
      ap (λ b. compact (b ++ rest)) (in_one n one) ∙ after_one (4 * n % 4) (4 * n / 4) rest mode
      ∙ ap (λ k. decoded k rest) high
  | inr from_64 ↦ elim (cases_lt n 16384) [
    | inl two ↦ low_back 1 64 1 n rest (in_two n from_64 two) (λ high input. refl) (omega arith) from_64 (omega arith)
    | inr from_16384 ↦ elim (cases_lt n 1073741824) [
      | inl four ↦
          low_back 2 16384 3 n rest (in_four n from_16384 four) (λ high input. refl) (omega arith) from_16384 (omega arith)
      | inr many ↦
          ap (λ b. compact (b ++ rest)) (in_many n many)
          ∙ after_many (first_width 12 4 n) n rest (width_between 12 4 n).0 (width_between 12 4 n).1
          (width_fits 12 4 n h) many (needed_from_four n many)
    ]
  ]
]

-- an integer of which the low bits were in the first byte was read from its bytes
low_forth :
    (mode least width first n : ℕ) (tail rest : List ℕ) → first % 4 ≡ mode → first < 256 → AllByRecursion IsByte tail
    → low_bits_first width least (first / 4) tail ≡ decoded n rest
    → (least ≤ n) × (4 * n + mode < 256 ^ suc width) × (first ∷ tail ≡ integer_bytes (suc width) (4 * n + mode) ++ rest)
low_forth mode least width first n tail rest m byte all e =
    let p = sequenced (integer width tail) (λ k r. at_least least (first / 4 + 64 * k) r) n rest e in
    let k = p.0 in
    let q = integer_forth width k tail p.1 all p.2 in
    let r = at_least_of least (first / 4 + 64 * k) n p.1 rest p.3 in
    let low : least ≤ first / 4 + 64 * k = r.0 in
    let is : first / 4 + 64 * k ≡ n = r.1 in
    let value : little_endian q.front ≡ k = q.is in
    let whole : first + 256 * little_endian q.front ≡ 4 * n + mode = omega arith in
    let made : AllByRecursion IsByte (first ∷ q.front) = (byte, q.made) in
    let fits : first + 256 * little_endian q.front < 256 ^ suc (length q.front) = bound (first ∷ q.front) made in (
      omega arith,
      subst (λ j. j < 256 ^ suc width) whole (subst (λ j. first + 256 * little_endian q.front < 256 ^ suc j) q.long fits),
      (λ i. first ∷ q.parts i) ∙ (λ i. sym (forth_again (first ∷ q.front) made) i ++ p.1)
          ∙ (λ i. integer_bytes (suc (q.long i)) (whole i) ++ r.2 i),
    )

-- an integer in many bytes was read from them
many_forth :
    (high n : ℕ) (tail rest : List ℕ) → AllByRecursion IsByte tail → compact_after 3 high tail ≡ decoded n rest
    → (high ≤ 12) × (1073741824 ≤ n) × (256 ^ (high + 3) ≤ n) × (n < 256 ^ (high + 4)) × (tail ≡ integer_bytes (high + 4) n ++ rest)
many_forth high n tail rest all e =
    let t = by_test (nat_le high 12) e in
    let p = sequenced (integer (high + 4) tail) (λ k r. at_least (max 1073741824 (256 ^ (high + 3))) k r) n rest t.1 in
    let k = p.0 in
    let q = integer_forth (high + 4) k tail p.1 all p.2 in
    let r = at_least_of (max 1073741824 (256 ^ (high + 3))) k n p.1 rest p.3 in
    let low : max 1073741824 (256 ^ (high + 3)) ≤ k = r.0 in
    let is : k ≡ n = r.1 in
    let fits : little_endian q.front < 256 ^ length q.front = bound q.front q.made in (
      le_of high t.0,
      omega arith,
      omega arith,
      subst (λ j. j < 256 ^ (high + 4)) (q.is ∙ is) (subst (λ j. little_endian q.front < 256 ^ j) q.long fits),
      q.parts ∙ (λ i. sym (forth_again q.front q.made) i ++ p.1)
          ∙ (λ i. integer_bytes (q.long i) ((q.is ∙ is) i) ++ r.2 i),
    )
  where
    le_of : (high : ℕ) → nat_le high 12 ≡ true → high ≤ 12
    le_of high e = grind (arith, common_steps)

    by_test :
        (t : Bool) → (if t then read.many_bytes high tail else failed malformed) ≡ decoded n rest
        → (t ≡ true) × (read.many_bytes high tail ≡ decoded n rest)
    by_test true e = (refl, e)
    by_test false e = cc

-- powers of 256 rise
pub power_rises : (j k : ℕ) → j ≤ k → 256 ^ j ≤ 256 ^ k
power_rises j k h = pow-le-pow_right (omega arith) h

-- a compact integer was read from its bytes
pub compact_forth :
    (n : ℕ) (input rest : List ℕ) → AllByRecursion IsByte input → compact input ≡ decoded n rest
    → (n < limit) × (input ≡ compact_bytes n ++ rest)
compact_forth n [] rest all e = cc
compact_forth n (first ∷ tail) rest all e = by_mode (first % 4) refl
  where
    by_mode : (mode : ℕ) → first % 4 ≡ mode → (n < limit) × (first ∷ tail ≡ compact_bytes n ++ rest)
    by_mode zero m =
        let byte : first < 256 = all.0 in
        let h : decoded (first / 4) tail ≡ decoded n rest = sym (after_one (first % 4) (first / 4) tail m) ∙ e in
        let is : first / 4 ≡ n = cc in
        let left : tail ≡ rest = cc in
        let whole : first ≡ 4 * n = omega arith in
        (omega arith, (λ i. whole i ∷ left i) ∙ ap (λ b. b ++ rest) (sym (in_one n (omega arith))))
    by_mode (suc zero) m =
        let p =
        low_forth 1 64 1 first n tail rest m all.0 all.1 (ap (λ k. compact_after k (first / 4) tail) (sym m) ∙ e) in
        let fits : 4 * n + 1 < 65536 = p.1 in
        (omega arith, p.2 ∙ ap (λ b. b ++ rest) (sym (in_two n p.0 (omega arith))))
    by_mode (suc (suc zero)) m =
        let p =
        low_forth 2 16384 3 first n tail rest m all.0 all.1 (ap (λ k. compact_after k (first / 4) tail) (sym m) ∙ e) in
        let fits : 4 * n + 2 < 4294967296 = p.1 in
        (omega arith, p.2 ∙ ap (λ b. b ++ rest) (sym (in_four n p.0 (omega arith))))
    by_mode (suc (suc (suc k))) m =
        let byte : first < 256 = all.0 in
        let three : first % 4 ≡ 3 = omega arith in
        let high = first / 4 in
        let p = many_forth high n tail rest all.1 (ap (λ j. compact_after j high tail) (sym three) ∙ e) in
        let within : 256 ^ (high + 4) ≤ limit = power_rises (high + 4) 16 (omega (arith, p.0)) in
        let width : first_width 12 4 n ≡ high + 4 =
        width_is 12 4 n (high + 4) (omega arith) (omega (arith, p.0)) p.3
        (λ k low less. let rises = power_rises k (high + 3) (omega arith) in omega (arith, p.2)) in
        let whole : first ≡ 4 * (high + 4 - 4) + 3 = omega arith in (
          omega (arith, p.3),
          (λ i. whole i ∷ p.4 i)
              ∙ ap (λ w. many_bytes w n ++ rest) (sym width)
              ∙ ap (λ b. b ++ rest) (sym (in_many n p.1)),
        )

-- compact integers below a limit are read and written
pub compacts_below : (most : ℕ) → most ≤ limit → IsInverse (read.compact_below most) (compact_below most)
compacts_below most h = record {
  back = λ n b rest e.
      let f = fitting (nat_lt n most) (compact_bytes n) b e in
      let less = less_of n most f.0 in
      ap (λ c. read.compact_below most (c ++ rest)) (sym f.1)
      ∙ ap (λ o. and_then o (λ k r. below most k r)) (compact_back n rest (omega arith))
      ∙ below_is most n rest less;
  forth = λ input n rest all e.
      let p = sequenced (compact input) (λ k r. below most k r) n rest e in
      let q = below_of most p.0 n p.1 rest p.3 in
      let r = compact_forth n input rest all (p.2 ∙ (λ i. decoded (q.1 i) (q.2 i))) in
      let less : n < most = subst (λ k. k < most) q.1 q.0 in
      record {
        encoding = compact_bytes n;
        encodes = ap (λ t. if_fits t (compact_bytes n)) (less_is n most less);
        parts = r.1;
      };
}
  where
    below_is : (most n : ℕ) (rest : List ℕ) → n < most → below most n rest ≡ decoded n rest
    below_is most n rest h = grind (arith, common_steps)

    below_of :
        (most n m : ℕ) (r rest : List ℕ) → below most n r ≡ decoded m rest → (n < most) × (n ≡ m) × (r ≡ rest)
    below_of most n m r rest e = grind (arith, common_steps)
