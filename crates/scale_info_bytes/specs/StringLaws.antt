-- The law of encodings of strings.
use Rattle.std.specs.Prelude.{◌≡◌, ℕ, ◌<◌, List, [], ◌∷◌, ◌++◌, length}
use Rattle.std.proofs.Common.{sym, ◌∙◌, ap, take, append_assoc, refl}
use Rattle.std.proofs.Common.{Bool, true, false, cond, ltb, subst, inl, inr, arith}
use Rattle.std.proofs.lemmas.Bool.{ltb-true, and_parts}
use lib.Utf8.{scalar, scalars, scalar_cases, encode, encodes}
use Rattle.std.specs.List.{AllByRecursion}
use Rattle.std.proofs.lemmas.List.{append_cancel_left, take_at}
use Rattle.scale_info_bytes.specs.Encodings.{IsEncoding, IsByte}
use Rattle.scale_info_bytes.specs.CompactLaws.{compact_law}
use Rattle.scale_info_bytes.specs.PartLaws.{all_bytes}
use Rattle.scale_info_bytes.specs.Strings.{EncodesText}

text_one : (v b c : List ℕ) → EncodesText v b → EncodesText v c → b ≡ c
text_one v b c p q =
    let f = compact_law.one _ _ _ p.counted.encodes_first q.counted.encodes_first in
    let g : p.counted.second ≡ q.counted.second =
    p.counted.encodes_second ∙ sym q.counted.encodes_second in
    p.counted.parts ∙ ap (λ t. t ++ p.counted.second) f ∙ ap (λ t. q.counted.first ++ t) g
    ∙ sym q.counted.parts

text_prefix_free :
    (v w b c x y : List ℕ) → EncodesText v b → EncodesText w c → b ++ x ≡ c ++ y → (b ≡ c) × (v ≡ w)
text_prefix_free v w b c x y p q e =
    let h :
    p.counted.first ++ (p.counted.second ++ x) ≡ q.counted.first ++ (q.counted.second ++ y) =
    sym (append_assoc p.counted.first p.counted.second x)
    ∙ sym (ap (λ t. t ++ x) p.counted.parts) ∙ e ∙ ap (λ t. t ++ y) q.counted.parts
    ∙ append_assoc q.counted.first q.counted.second y in
    let f = compact_law.prefix_free _ _ _ _ _ _ p.counted.encodes_first q.counted.encodes_first h in
    let k : p.counted.second ++ x ≡ q.counted.second ++ y =
    append_cancel_left p.counted.first _ _
    (h ∙ sym (ap (λ t. t ++ (q.counted.second ++ y)) f.0)) in
    let r : v ++ x ≡ w ++ y =
    sym (ap (λ t. t ++ x) p.counted.encodes_second) ∙ k
    ∙ ap (λ t. t ++ y) q.counted.encodes_second in
    let vw : v ≡ w =
    sym (take_at v x (length v) refl) ∙ ap (take (length v)) r ∙ ap (λ n. take n (w ++ y)) f.1
    ∙ take_at w y (length w) refl in
    let g : p.counted.second ≡ q.counted.second =
    p.counted.encodes_second ∙ vw ∙ sym q.counted.encodes_second in (
      p.counted.parts ∙ ap (λ t. t ++ p.counted.second) f.0 ∙ ap (λ t. q.counted.first ++ t) g
          ∙ sym q.counted.parts,
      vw,
    )

-- the bytes of characters are bytes
pick :
    (t : Bool) (x y : List ℕ) → (t ≡ true → AllByRecursion IsByte x)
    → (t ≡ false → AllByRecursion IsByte y) → AllByRecursion IsByte (cond t x y)
pick true x y f g = f refl
pick false x y f g = g refl

char_bytes : (c : ℕ) → scalar c ≡ true → AllByRecursion IsByte (encode c)
unfolding encode
char_bytes c s =
    let top : c < 1114112 = elim (scalar_cases c s) [ inl low ↦ omega arith | inr high ↦ high.1 ] in
    pick (ltb c 128) _ _ (λ e. let k : c < 128 = ltb-true _ _ e in (omega arith, tt))
    (λ _. pick (ltb c 2048) _ _
    (λ e. let k : c < 2048 = ltb-true _ _ e in (omega arith, (omega arith, tt)))
    (λ _. pick (ltb c 65536) _ _
    (λ e.
    let k : c < 65536 = ltb-true _ _ e in
    (omega arith, (omega arith, (omega arith, tt))))
    (λ _. (omega arith, (omega arith, (omega arith, (omega arith, tt)))))))

chars_bytes : (cs : List ℕ) → scalars cs ≡ true → AllByRecursion IsByte (encodes cs)
chars_bytes [] e = tt
chars_bytes (c ∷ cs) e =
    let p = and_parts _ _ e in
    all_bytes (encode c) (encodes cs) (char_bytes c p.0) (chars_bytes cs p.1)

text_bytes : (v b : List ℕ) → EncodesText v b → AllByRecursion IsByte b
text_bytes v b p =
    let chars : AllByRecursion IsByte v =
    subst (AllByRecursion IsByte) p.utf8.1.1 (chars_bytes p.utf8.0 p.utf8.1.0) in
    let second : AllByRecursion IsByte p.counted.second =
    subst (AllByRecursion IsByte) (sym p.counted.encodes_second) chars in
    rw p.counted.parts
    (all_bytes p.counted.first p.counted.second (compact_law.bytes _ _ p.counted.encodes_first)
    second)

-- EncodesText is an encoding of strings
pub text_law : IsEncoding EncodesText
text_law = record { one = text_one; prefix_free = text_prefix_free; bytes = text_bytes }
