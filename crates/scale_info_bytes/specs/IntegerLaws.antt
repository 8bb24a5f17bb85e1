-- The laws of encodings of integers.
use Rattle.std.specs.Prelude.{◌≡◌, ℕ, ◌<◌, ◌^◌, List, [], ◌∷◌, ◌++◌, take}
use Rattle.std.proofs.Common.{sym, ◌∙◌, ap, arith}
use Rattle.std.specs.List.{AllByRecursion}
use Rattle.std.specs.Int.{Width, w16, w32, to_le_bytes, from_le_bytes}
use Rattle.std.proofs.lemmas.Nat.{from_le_bytes-to_le_bytes_4}
use Rattle.scale_info_bytes.specs.Encodings.{IsEncoding, IsByte}
use Rattle.scale_info_bytes.specs.Integers.{EncodesU8, EncodesU32}

-- two integers with the same bytes are the same, where the bytes give the integer back
pub same_word :
    (k : Width) (limit v w : ℕ)
    → ((n : ℕ) → n < limit → from_le_bytes k (to_le_bytes k n) ≡ n) → v < limit → w < limit
    → to_le_bytes k v ≡ to_le_bytes k w → v ≡ w
same_word k limit v w back p q t = sym (back v p) ∙ ap (from_le_bytes k) t ∙ back w q

-- encodings made of two integers in one way, a new one for each, are the same where they begin
-- the same list
pub same_made :
    (make : ℕ → List ℕ) (v w : ℕ) (b c x y : List ℕ) → b ≡ make v → c ≡ make w
    → (make v ++ x ≡ make w ++ y → v ≡ w) → b ++ x ≡ c ++ y → (b ≡ c) × (v ≡ w)
same_made make v w b c x y e f tells g =
    let vw = tells (sym (ap (λ t. t ++ x) e) ∙ g ∙ ap (λ t. t ++ y) f) in
    (e ∙ ap make vw ∙ sym f, vw)

-- EncodesU8 is an encoding of the integers below 256
pub u8_law : IsEncoding EncodesU8
u8_law = record {
  one = λ v b c p q. p.is ∙ sym q.is;
  prefix_free = λ v w b c x y p q e.
      same_made (λ n. n ∷ []) v w b c x y p.is q.is (λ t. cc) e;
  bytes = λ v b p. rw p.is (p.fits, tt);
}

-- the four bytes of an integer are bytes
pub four_bytes : (n : ℕ) → AllByRecursion IsByte (to_le_bytes w32 n)
four_bytes n = (omega arith, (omega arith, (omega arith, (omega arith, tt))))

-- the two bytes of an integer are bytes
pub two_bytes : (n : ℕ) → AllByRecursion IsByte (to_le_bytes w16 n)
two_bytes n = (omega arith, (omega arith, tt))

-- EncodesU32 is an encoding of the integers below 2 ^ 32
pub u32_law : IsEncoding EncodesU32
u32_law = record {
  one = λ v b c p q. p.is ∙ sym q.is;
  prefix_free = λ v w b c x y p q e.
      same_made (to_le_bytes w32) v w b c x y p.is q.is
      (λ t. same_word w32 (2 ^ 32) v w from_le_bytes-to_le_bytes_4 p.fits q.fits (ap (take 4) t)) e;
  bytes = λ v b p. rw p.is (four_bytes v);
}
