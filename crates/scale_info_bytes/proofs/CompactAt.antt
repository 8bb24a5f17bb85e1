-- A compact integer at the start of the input.
use Rattle.std.proofs.Common.{◌≡◌, ℕ, ◌+◌, ◌-◌, ◌*◌, ◌/◌, ◌%◌, ◌≤◌, List, [], ◌∷◌, length, take}
use Rattle.std.proofs.Common.{drop, get_or, sym, ap, ◌∙◌, arith, Fits, w8}
use Rattle.std.specs.Int.{w16, w32, to_le_bytes}
use Rattle.std.proofs.Math.Seq.{take-length}
use Rattle.scale_info_bytes.specs.Encodings.{HasPrefix}
use Rattle.scale_info_bytes.specs.Integers.{EncodesCompact, in_one, in_two, in_four, in_five}

-- each element of the list is below 256
abbrev pub AreBytes : List ℕ → Type 0
AreBytes b = (i : ℕ) → Fits w8 (get_or b i 0)

-- a first byte that is 4 * n encodes n, and the rest comes after it
pub prefix_one :
    (n first : ℕ) (rest after : List ℕ) → Fits w8 first → first % 4 ≡ 0 → n ≡ first / 4
    → after ≡ rest → HasPrefix (EncodesCompact n) (first ∷ rest) after
prefix_one n first rest after fits mode e a = record {
  encoding = first ∷ [];
  encodes = in_one (omega arith) (ap (λ k. k ∷ []) (omega arith));
  parts = ap (λ t. first ∷ t) (sym a);
}

-- all of a list, as a slice pattern writes it
rest_of : (b : List ℕ) (n : ℕ) → n ≡ length b → take n b ≡ b
rest_of b n e = ap (λ k. take k b) e ∙ take-length b

-- two bytes that are 4 * n + 1, for n from 64 on, encode n
pub prefix_two :
    (n first : ℕ) (rest : List ℕ) → Fits w8 first → AreBytes rest → 1 ≤ length rest → 64 ≤ n
    → first + get_or rest 0 0 * 256 ≡ 4 * n + 1
    → HasPrefix (EncodesCompact n) (first ∷ rest) (take (length rest - 1) (drop 1 rest))
prefix_two n first [] f g l low e = absurd (omega arith)
prefix_two n first (b ∷ more) f g l low e =
    let b0 : Fits w8 b = g 0 in
    let d0 : first ≡ (4 * n + 1) % 256 = omega arith in
    let d1 : b ≡ (4 * n + 1) / 256 % 256 = omega arith in
    let t : first ∷ b ∷ [] ≡ to_le_bytes w16 (4 * n + 1) = λ i. d0 i ∷ d1 i ∷ [] in
    record {
      encoding = first ∷ b ∷ [];
      encodes = in_two low (omega arith) t;
      parts = ap (λ t. first ∷ b ∷ t) (sym (rest_of more _ (omega arith)));
    }

-- four bytes that make an integer are the bytes of that integer
four_of :
    (m a b c d : ℕ) → Fits w8 a → Fits w8 b → Fits w8 c → Fits w8 d
    → a + b * 256 + c * 65536 + d * 16777216 ≡ m → a ∷ b ∷ c ∷ d ∷ [] ≡ to_le_bytes w32 m
four_of m a b c d fa fb fc fd e =
    let d0 : a ≡ m % 256 = omega arith in
    let d1 : b ≡ m / 256 % 256 = omega arith in
    let d2 : c ≡ m / 65536 % 256 = omega arith in
    let d3 : d ≡ m / 16777216 % 256 = omega arith in
    λ i. d0 i ∷ d1 i ∷ d2 i ∷ d3 i ∷ []

-- four bytes that are 4 * n + 2, for n from 16384 on, encode n
pub prefix_four :
    (n first : ℕ) (rest : List ℕ) → Fits w8 first → AreBytes rest → 3 ≤ length rest → 16384 ≤ n
    → first + get_or rest 0 0 * 256 + get_or rest 1 0 * 65536 + get_or rest 2 0 * 16777216
    ≡ 4 * n + 2
    → HasPrefix (EncodesCompact n) (first ∷ rest) (take (length rest - 3) (drop 3 rest))
prefix_four n first [] f g l low e = absurd (omega arith)
prefix_four n first (b ∷ []) f g l low e = absurd (omega arith)
prefix_four n first (b ∷ c ∷ []) f g l low e = absurd (omega arith)
prefix_four n first (b ∷ c ∷ d ∷ more) f g l low e =
    let fb : Fits w8 b = g 0 in
    let fc : Fits w8 c = g 1 in
    let fd : Fits w8 d = g 2 in
    record {
      encoding = first ∷ b ∷ c ∷ d ∷ [];
      encodes = in_four low (omega arith) (four_of _ first b c d f fb fc fd e);
      parts = ap (λ t. first ∷ b ∷ c ∷ d ∷ t) (sym (rest_of more _ (omega arith)));
    }

-- a byte 3 and then four bytes that are n, for n from 1073741824 on, encode n
pub prefix_five :
    (n first : ℕ) (rest : List ℕ) → first ≡ 3 → AreBytes rest → 4 ≤ length rest → 1073741824 ≤ n
    → get_or rest 0 0 + get_or rest 1 0 * 256 + get_or rest 2 0 * 65536 + get_or rest 3 0 * 16777216
    ≡ n
    → HasPrefix (EncodesCompact n) (first ∷ rest) (take (length rest - 4) (drop 4 rest))
prefix_five n first [] f g l low e = absurd (omega arith)
prefix_five n first (a ∷ []) f g l low e = absurd (omega arith)
prefix_five n first (a ∷ b ∷ []) f g l low e = absurd (omega arith)
prefix_five n first (a ∷ b ∷ c ∷ []) f g l low e = absurd (omega arith)
prefix_five n first (a ∷ b ∷ c ∷ d ∷ more) f g l low e =
    let fa : Fits w8 a = g 0 in
    let fb : Fits w8 b = g 1 in
    let fc : Fits w8 c = g 2 in
    let fd : Fits w8 d = g 3 in
    let t = four_of n a b c d fa fb fc fd e in
    record {
      encoding = first ∷ a ∷ b ∷ c ∷ d ∷ [];
      encodes = in_five low (omega arith) (λ i. f i ∷ t i);
      parts = ap (λ t. first ∷ a ∷ b ∷ c ∷ d ∷ t) (sym (rest_of more _ (omega arith)));
    }

-- a slice pattern's first element and rest are the whole
pub whole :
    (input : List ℕ) → 1 ≤ length input
    → get_or input 0 0 ∷ take (length input - 1) (drop 1 input) ≡ input
whole [] l = absurd (omega arith)
whole (a ∷ more) l = ap (λ t. a ∷ t) (rest_of more _ (omega arith))
