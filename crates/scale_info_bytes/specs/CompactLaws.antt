-- The law of encodings of compact integers.
use Rattle.std.specs.Prelude.{◌≡◌, ℕ, ◌+◌, ◌*◌, ◌%◌, ◌^◌, ◌<◌, List, [], ◌∷◌, ◌++◌, take}
use Rattle.std.proofs.Common.{sym, ◌∙◌, ap, arith, get_or, lit<}
use Rattle.std.specs.List.{AllByRecursion}
use Rattle.std.specs.Int.{Width, w16, w32, to_le_bytes, from_le_bytes}
use Rattle.std.proofs.lemmas.Nat.{from_le_bytes-to_le_bytes_4, from_le_bytes-to_le_bytes_2}
use Rattle.scale_info_bytes.specs.Encodings.{IsEncoding, IsByte}
use Rattle.scale_info_bytes.specs.Integers.{EncodesCompact, in_one, in_two, in_four, in_five}
use Rattle.scale_info_bytes.specs.IntegerLaws.{same_made, same_word, four_bytes, two_bytes}

compact_one : (n : ℕ) (b c : List ℕ) → EncodesCompact n b → EncodesCompact n c → b ≡ c
compact_one n b c (in_one p e) (in_one q f) = e ∙ sym f
compact_one n b c (in_one p e) (in_two q r f) = absurd (omega arith)
compact_one n b c (in_one p e) (in_four q r f) = absurd (omega arith)
compact_one n b c (in_one p e) (in_five q r f) = absurd (omega arith)
compact_one n b c (in_two p s e) (in_one q f) = absurd (omega arith)
compact_one n b c (in_two p s e) (in_two q r f) = e ∙ sym f
compact_one n b c (in_two p s e) (in_four q r f) = absurd (omega arith)
compact_one n b c (in_two p s e) (in_five q r f) = absurd (omega arith)
compact_one n b c (in_four p s e) (in_one q f) = absurd (omega arith)
compact_one n b c (in_four p s e) (in_two q r f) = absurd (omega arith)
compact_one n b c (in_four p s e) (in_four q r f) = e ∙ sym f
compact_one n b c (in_four p s e) (in_five q r f) = absurd (omega arith)
compact_one n b c (in_five p s e) (in_one q f) = absurd (omega arith)
compact_one n b c (in_five p s e) (in_two q r f) = absurd (omega arith)
compact_one n b c (in_five p s e) (in_four q r f) = absurd (omega arith)
compact_one n b c (in_five p s e) (in_five q r f) = e ∙ sym f

-- which of the four forms it is, as the two low bits of the first byte say
abbrev form : {n : ℕ} {b : List ℕ} → EncodesCompact n b → ℕ
form (in_one p e) = 0
form (in_two p s e) = 1
form (in_four p s e) = 2
form (in_five p s e) = 3

first_says :
    {n : ℕ} {b : List ℕ} (x : List ℕ) (p : EncodesCompact n b) → get_or (b ++ x) 0 0 % 4 ≡ form p
first_says x (in_one p e) = rw e (omega arith)
first_says x (in_two p s e) = rw e (omega arith)
first_says x (in_four p s e) = rw e (omega arith)
first_says x (in_five p s e) = rw e (omega arith)

-- two integers above the same two low bits
same_above :
    (k : Width) (limit low v w : ℕ)
    → ((n : ℕ) → n < limit → from_le_bytes k (to_le_bytes k n) ≡ n) → 4 * v + low < limit
    → 4 * w + low < limit → to_le_bytes k (4 * v + low) ≡ to_le_bytes k (4 * w + low) → v ≡ w
same_above k limit low v w back p q t =
    let e = same_word k limit (4 * v + low) (4 * w + low) back p q t in omega arith

-- two of one form
same_form :
    (v w : ℕ) (b c x y : List ℕ) (p : EncodesCompact v b) (q : EncodesCompact w c)
    → b ++ x ≡ c ++ y → form p ≡ form q → (b ≡ c) × (v ≡ w)
same_form v w b c x y (in_one p e) (in_one q f) g h =
    same_made (λ n. 4 * n ∷ []) v w b c x y e f (λ t. let k : 4 * v ≡ 4 * w = cc in omega arith) g
same_form v w b c x y (in_two p s e) (in_two q r f) g h =
    same_made (λ n. to_le_bytes w16 (4 * n + 1)) v w b c x y e f
    (λ t. same_above w16 (2 ^ 16) 1 v w from_le_bytes-to_le_bytes_2 (omega arith) (omega arith)
    (ap (take 2) t)) g
same_form v w b c x y (in_four p s e) (in_four q r f) g h =
    same_made (λ n. to_le_bytes w32 (4 * n + 2)) v w b c x y e f
    (λ t. same_above w32 (2 ^ 32) 2 v w from_le_bytes-to_le_bytes_4 (omega arith) (omega arith)
    (ap (take 4) t)) g
same_form v w b c x y (in_five p s e) (in_five q r f) g h =
    same_made (λ n. 3 ∷ to_le_bytes w32 n) v w b c x y e f (λ t.
    let u : to_le_bytes w32 v ++ x ≡ to_le_bytes w32 w ++ y = cc in
    same_word w32 (2 ^ 32) v w from_le_bytes-to_le_bytes_4 s r (ap (take 4) u)) g
same_form v w b c x y p q g h = absurd (omega arith)

compact_prefix_free :
    (v w : ℕ) (b c x y : List ℕ) → EncodesCompact v b → EncodesCompact w c → b ++ x ≡ c ++ y
    → (b ≡ c) × (v ≡ w)
compact_prefix_free v w b c x y p q g =
    same_form v w b c x y p q g
    (sym (first_says x p) ∙ ap (λ t. get_or t 0 0 % 4) g ∙ first_says y q)

compact_bytes : (n : ℕ) (b : List ℕ) → EncodesCompact n b → AllByRecursion IsByte b
compact_bytes n b (in_one p e) = rw e (omega arith, tt)
compact_bytes n b (in_two p q e) = rw e (two_bytes (4 * n + 1))
compact_bytes n b (in_four p q e) = rw e (four_bytes (4 * n + 2))
compact_bytes n b (in_five p q e) = rw e (lit< tt, four_bytes n)

-- EncodesCompact is an encoding of the integers below 2 ^ 32
pub compact_law : IsEncoding EncodesCompact
compact_law = record { one = compact_one; prefix_free = compact_prefix_free; bytes = compact_bytes }
