-- Integers of a width.
use Rattle.std.proofs.Common.{◌≡◌, ℕ, ℤ, suc, ◌-◌, ◌*◌, ◌<◌, ◌≤◌, ◌^◌, Bool, true, false, List}
use Rattle.std.proofs.Common.{◌++◌, length, take, drop, refl, ap, sym, ◌∙◌, arith, subst}
use Rattle.std.proofs.lemmas.Grind.{common_steps}
use Rattle.std.proofs.lemmas.Int.{to_z-of_z, of_z-to_z}
use Rattle.std.proofs.lemmas.List.{length-append, length-take-le, take-append-drop}
use Rattle.std.proofs.Math.Seq.{take-append_seam, drop-append_seam}
use Rattle.std.specs.Prelude.{nat_lt, FitsSigned, pos, negsuc}
use Rattle.std.specs.Int.{Width, w8, w16, w32, w64, w128, byte_len, cast_signed, cast_unsigned}
use Rattle.std.specs.List.{AllByRecursion}
use mir.Val.{bits, hbits, sel}
use Rattle.scale_info_bytes.specs.Encodings.{IsByte}
use Rattle.scale_info_value.specs.declared.value.Value.TheVariants as Values
use Rattle.scale_info_value.specs.Outcomes.{Decoder, decoded, outcome_map}
use Rattle.scale_info_value.specs.IntegerDecoders.{bytes, integer, little_endian}
use Rattle.scale_info_value.specs.ValueDefinitions as values
use Rattle.scale_info_value.proofs.Texts.{bytes_whole, bytes_long}
use Rattle.scale_info_value_encode.specs.Writers.{Writer, written, if_fits}
use Rattle.scale_info_value_encode.specs.IntegerWriters.{integer_bytes, is_signed_of}
use Rattle.scale_info_value_encode.specs.DefinitionWriters.{unsigned, signed, held, unsigned_in, signed_in}
use Rattle.scale_info_value_encode.proofs.IntegerBytes.{length_is, back_again, forth_again, bound}
use Rattle.scale_info_value_encode.proofs.Inverse.{IsInverse, first_bytes, unmapped, of_kind, read_alike, twice}
use Rattle.scale_info_value_encode.proofs.ValueKinds.{unsigned_integers, signed_integers}

-- so many bytes are read as they stand
pub bytes_back : (n : ℕ) (b rest : List ℕ) → length b ≡ n → bytes n (b ++ rest) ≡ decoded b rest
bytes_back n b rest e =
    let whole = length-append b rest in
    ap (λ k. bytes k (b ++ rest)) (sym e)
    ∙ bytes_whole (length b) (b ++ rest) (omega arith)
    ∙ (λ i. decoded (take-append_seam b rest i) (drop-append_seam b rest i))

-- what so many bytes are
pub bytes_forth :
    (n : ℕ) (input b rest : List ℕ) → bytes n input ≡ decoded b rest → (length b ≡ n) × (input ≡ b ++ rest)
bytes_forth n input b rest e =
    let long = bytes_long n input b rest e in
    let h : decoded (take n input) (drop n input) ≡ decoded b rest = sym (bytes_whole n input long) ∙ e in
    let p : take n input ≡ b = cc in
    let q : drop n input ≡ rest = cc in
    (ap length (sym p) ∙ length-take-le n input long, sym (take-append-drop n input) ∙ (λ i. p i ++ q i))

-- bytes that are written where a test passes
pub fitting :
    (test : Bool) (b bytes : List ℕ) → if_fits test b ≡ written bytes → (test ≡ true) × (b ≡ bytes)
fitting true b bytes e = let same : b ≡ bytes = cc in (refl, same)
fitting false b bytes e = cc

-- the test for less
pub less_of : (n m : ℕ) → nat_lt n m ≡ true → n < m
less_of n m e = grind (arith, common_steps)

-- fails where it is not less
pub not_less : (n m : ℕ) → nat_lt n m ≡ false → m ≤ n
not_less n m e = grind (arith, common_steps)

-- passes where it is less
pub less_is : (n m : ℕ) → n < m → nat_lt n m ≡ true
less_is n m h = grind (arith, common_steps)

-- an integer in so many bytes
abbrev pub in_bytes : ℕ → Writer ℕ
in_bytes width n = if_fits (nat_lt n (256 ^ width)) (integer_bytes width n)

-- integers in so many bytes are read and written
pub integers : (width : ℕ) → IsInverse (integer width) (in_bytes width)
integers width = record {
  back = λ n b rest e.
      let f = fitting (nat_lt n (256 ^ width)) (integer_bytes width n) b e in
      let whole = ap (λ c. integer width (c ++ rest)) (sym f.1) in
      whole
      ∙ ap (outcome_map little_endian) (bytes_back width (integer_bytes width n) rest (length_is width 0 n))
      ∙ ap (λ m. decoded m rest) (back_again width n (less_of n (256 ^ width) f.0));
  forth = λ input n rest all e.
      let p = unmapped little_endian (bytes width input) n rest e in
      let q = bytes_forth width input p.0 rest p.1 in
      let of_bytes = first_bytes p.0 rest (subst (AllByRecursion IsByte) q.1 all) in
      let less : n < 256 ^ width = subst (λ k. k < 256 ^ width) p.2 (subst (λ k. little_endian p.0 < 256 ^ k) q.0 (bound p.0 of_bytes)) in
      let same : integer_bytes width n ≡ p.0 =
      (λ i. integer_bytes (sym q.0 i) (sym p.2 i)) ∙ forth_again p.0 of_bytes in
      record {
        encoding = p.0;
        encodes = ap (λ t. if_fits t (integer_bytes width n)) (less_is n (256 ^ width) less) ∙ ap written same;
        parts = q.1;
      };
}

-- one value as another: `f` is what is read, and `g` is what is written
pub converted :
    {A B : Type 0} (f : A → B) (g : B → A) (read : Decoder A) (write : Writer A) (other : Writer B)
    → IsInverse read write
    → ((x : A) (b : List ℕ) → write x ≡ written b → other (f x) ≡ written b)
    → ((y : B) (b : List ℕ) → other y ≡ written b → (f (g y) ≡ y) × (write (g y) ≡ written b))
    → IsInverse (λ input. outcome_map f (read input)) other
converted f g read write other inverse forth back = record {
  back = λ y b rest e.
      let p = back y b e in
      ap (outcome_map f) (inverse.back (g y) b rest p.1) ∙ ap (λ v. decoded v rest) p.0;
  forth = λ input y rest all e.
      let p = unmapped f (read input) y rest e in
      let q = inverse.forth input p.0 rest all p.1 in
      record {
        encoding = q.encoding;
        encodes = ap other (sym p.2) ∙ forth p.0 q.encoding q.encodes;
        parts = q.parts;
      };
}

-- the bytes of a width have its bits
pub bytes_are_bits : (w : Width) → 256 ^ byte_len w ≡ 2 ^ bits w
bytes_are_bits w8 = refl
bytes_are_bits w16 = refl
bytes_are_bits w32 = refl
bytes_are_bits w64 = refl
bytes_are_bits w128 = refl

-- half of them are for integers below 0
pub half_below : (w : Width) → 2 * 2 ^ hbits w ≡ 256 ^ byte_len w
half_below w8 = refl
half_below w16 = refl
half_below w32 = refl
half_below w64 = refl
half_below w128 = refl

-- unsigned integers are read and written
pub unsigned_read_back : (w : Width) → IsInverse (values.unsigned w) (held unsigned_in (unsigned w))
unsigned_read_back w =
    of_kind Values.Unsigned unsigned_in (integer (byte_len w)) (unsigned w) unsigned_integers (integers (byte_len w))

-- the test for integers of a width
pub fits_of : (w : Width) (z : ℤ) → is_signed_of w z ≡ true → FitsSigned w z
fits_of w (pos n) e =
    let half = half_below w in
    let less : 2 * n < 256 ^ byte_len w = less_of (2 * n) (256 ^ byte_len w) e in
    record { sfits = omega arith }
fits_of w (negsuc n) e =
    let half = half_below w in
    let less : 2 * n < 256 ^ byte_len w = less_of (2 * n) (256 ^ byte_len w) e in
    record { sfits = omega arith }

-- passes for those below half of the limit, and for the others, which are below 0
fits_by :
    (w : Width) (n : ℕ) (below : Bool) → (below ≡ true → n < 2 ^ hbits w) → (below ≡ false → 2 ^ hbits w ≤ n)
    → n < 256 ^ byte_len w → is_signed_of w (sel below (pos n) (negsuc (2 ^ bits w - suc n))) ≡ true
fits_by w n true less more h =
    let half = half_below w in
    let small : n < 2 ^ hbits w = less refl in
    less_is (2 * n) (256 ^ byte_len w) (omega arith)
fits_by w n false less more h =
    let half = half_below w in
    let whole = bytes_are_bits w in
    let large : 2 ^ hbits w ≤ n = more refl in
    less_is (2 * (2 ^ bits w - suc n)) (256 ^ byte_len w) (omega arith)

-- passes for those that it has
pub fits_is : (w : Width) (n : ℕ) → n < 256 ^ byte_len w → is_signed_of w (cast_signed w n) ≡ true
fits_is w n h =
    fits_by w n (nat_lt n (2 ^ hbits w)) (less_of n (2 ^ hbits w)) (not_less n (2 ^ hbits w)) h

-- an integer of a width in two's complement fits its bytes
pub unsigned_fits : (w : Width) (z : ℤ) → FitsSigned w z → cast_unsigned w z < 256 ^ byte_len w
unsigned_fits w (pos n) f = let half = half_below w in let less : n < 2 ^ hbits w = f.sfits in omega arith
unsigned_fits w (negsuc n) f =
    let half = half_below w in
    let whole = bytes_are_bits w in
    let less : n < 2 ^ hbits w = f.sfits in omega arith

-- signed integers are read and written
pub signed_read_back : (w : Width) → IsInverse (values.signed w) (held signed_in (signed w))
signed_read_back w =
    let width = byte_len w in
    let within = bytes_are_bits w in
    read_alike (λ input. outcome_map Values.Signed (outcome_map (cast_signed w) (integer width input))) (values.signed w)
    (held signed_in (signed w)) (λ input. twice (cast_signed w) Values.Signed (integer width input))
    (of_kind Values.Signed signed_in (λ input. outcome_map (cast_signed w) (integer width input)) (signed w) signed_integers
    (converted (cast_signed w) (cast_unsigned w) (integer width) (in_bytes width) (signed w) (integers width)
    (λ n b e.
    let f = fitting (nat_lt n (256 ^ width)) (integer_bytes width n) b e in
    let less : n < 256 ^ width = less_of n (256 ^ width) f.0 in
    let same : cast_unsigned w (cast_signed w n) ≡ n = of_z-to_z w n (subst (λ k. n < k) within less) in
    (λ i. if_fits (fits_is w n less i) (integer_bytes width (same i))) ∙ ap written f.1)
    (λ z b e.
    let f = fitting (is_signed_of w z) (integer_bytes width (cast_unsigned w z)) b e in
    let fits = fits_of w z f.0 in
    let less = unsigned_fits w z fits in (
      to_z-of_z w z fits,
      ap (λ t. if_fits t (integer_bytes width (cast_unsigned w z))) (less_is (cast_unsigned w z) (256 ^ width) less)
          ∙ ap written f.1,
    ))))
