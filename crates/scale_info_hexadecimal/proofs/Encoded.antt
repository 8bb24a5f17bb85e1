-- The digits of bytes, some after others.
use Rattle.std.proofs.Common.{◌≡◌, ℕ, ◌+◌, ◌*◌, ◌/◌, ◌%◌, ◌≤◌, List, [], ◌∷◌, ◌++◌, length, take}
use Rattle.std.proofs.Common.{drop, slice_index, codes, IsAscii, IsUtf8, T, ltb, ltb→lt, refl, sym}
use Rattle.std.proofs.Common.{ap, ◌∙◌, arith, append_assoc, take-add, take-take, take_at, take_all}
use Rattle.std.proofs.Common.{take-append-drop}
use Rattle.std.proofs.lemmas.List.{length-take-le}
use Rattle.std.proofs.lemmas.Simd.{take_more_put_chunk, length-put_chunk}
use Rattle.std.proofs.lemmas.Str.{IsUtf8-from_ascii}
use Rattle.std.proofs.lemmas.Str.Ascii.{IsAscii-nil, IsAscii-cons}
use lib.Lanes.{put_chunk, all_below}
use mir.ValLaws.{and_both}
use Rattle.hex.specs.Hex.{encode_lower, encode_with, lower_digits}
use Rattle.hex.proofs.HexLemmas.{length-encode_with, IsAscii-encode_with}

-- two stores, one after the other
pub two_stores : (xs a b : List ℕ) (i : ℕ) → length a ≡ 16 → length b ≡ 16 → i + 32 ≤ length xs
    → take (i + 32) (put_chunk (i + 16) (put_chunk i xs a) b) ≡ take i xs ++ (a ++ b)
two_stores xs a b i long same fits =
    let kept = length-put_chunk i xs a in
    take_more_put_chunk (i + 16) (put_chunk i xs a) b (i + 32) (omega arith) (omega (arith, kept))
    ∙ ap (λ l. l ++ b) (take_more_put_chunk i xs a (i + 16) (omega arith) (omega arith))
    ∙ append_assoc (take i xs) a b

-- the digits of bytes after others
pub encoded-append : (a b : List ℕ) → encode_lower (a ++ b) ≡ encode_lower a ++ encode_lower b
unfolding encode_with
encoded-append [] b = refl
encoded-append (x ∷ a) b =
    ap (λ r. slice_index lower_digits (x / 16) ∷ slice_index lower_digits (x % 16) ∷ r)
    (encoded-append a b)

-- the digits of sixteen bytes more
pub sixteen_more : (bytes out new : List ℕ) (at : ℕ)
    → take (2 * at) out ≡ encode_lower (take at bytes)
    → take (2 * at + 32) new ≡ take (2 * at) out ++ encode_lower (take 16 (drop at bytes))
    → take (2 * (at + 16)) new ≡ encode_lower (take (at + 16) bytes)
sixteen_more bytes out new at before written =
    let more : 2 * (at + 16) ≡ 2 * at + 32 = omega arith in
    ap (λ n. take n new) more ∙ written
    ∙ ap (λ l. l ++ encode_lower (take 16 (drop at bytes))) before
    ∙ sym (encoded-append (take at bytes) (take 16 (drop at bytes)))
    ∙ ap encode_lower (sym (take-add at 16 bytes))

-- the digits of fewer bytes
pub of_fewer : (bytes out : List ℕ) (at fewer : ℕ) → fewer ≤ at → fewer ≤ length bytes
    → take (2 * at) out ≡ encode_lower (take at bytes)
    → take (2 * fewer) out ≡ encode_lower (take fewer bytes)
of_fewer bytes out at fewer le within before =
    let front = take fewer bytes in
    let rest = drop fewer (take at bytes) in
    let parts : front ++ rest ≡ take at bytes =
    ap (λ l. l ++ rest) (sym (take-take fewer at bytes le))
    ∙ take-append-drop fewer (take at bytes) in
    let long : length (encode_lower front) ≡ 2 * fewer =
    length-encode_with lower_digits front ∙ ap (λ n. 2 * n) (length-take-le fewer bytes within) in
    sym (take-take (2 * fewer) (2 * at) out (omega arith))
    ∙ ap (take (2 * fewer)) (before ∙ ap encode_lower (sym parts) ∙ encoded-append front rest)
    ∙ take_at (encode_lower front) (encode_lower rest) (2 * fewer) long

-- the digits of all bytes
pub of_all : (bytes out : List ℕ) (at : ℕ) → length bytes ≤ at → length out ≤ 2 * at
    → take (2 * at) out ≡ encode_lower (take at bytes) → out ≡ encode_lower bytes
of_all bytes out at past within before =
    sym (take_all (2 * at) out within) ∙ before ∙ ap encode_lower (take_all at bytes past)

-- bytes below 128
low : (bs : List ℕ) → T (all_below 128 bs) → IsAscii bs
low [] h = IsAscii-nil
low (b ∷ bs) h =
    let both = and_both (ltb b 128) (all_below 128 bs) h in
    IsAscii-cons b bs (ltb→lt b 128 both.0) (low bs both.1)

-- the text is UTF-8
pub text_utf8 : (bytes : List ℕ) → IsUtf8 (codes "0x" ++ encode_lower bytes)
text_utf8 bytes =
    let digits = IsAscii-encode_with lower_digits bytes (low lower_digits tt) in
    let second = IsAscii-cons 120 (encode_lower bytes) (omega arith) digits in
    IsUtf8-from_ascii (codes "0x" ++ encode_lower bytes)
    (IsAscii-cons 48 (120 ∷ encode_lower bytes) (omega arith) second)
