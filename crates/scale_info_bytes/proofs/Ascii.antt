-- ASCII and other characters at the start of a text.
use Rattle.std.proofs.Common.{◌≡◌, ℕ, ◌+◌, ◌-◌, ◌^◌, ◌%◌, ◌<◌, ◌≤◌, List, [], ◌∷◌, length, take}
use Rattle.std.proofs.Common.{drop}
use Rattle.std.proofs.Common.{refl, ap, subst, ◌∙◌, sym, arith, leb, cond, map, replicate, w8}
use Rattle.std.proofs.Common.{slice_index, zero, suc, not, leb-false}
use Rattle.std.specs.List.{prefix_len}
use Rattle.std.proofs.lemmas.List.{take-append-drop, take_rest, length-map}
use Rattle.std.proofs.lemmas.Simd.{tops_compared, zip2_splat_left, mask_l-mod}
use Rattle.std.proofs.lemmas.Simd.{run_in_chunk_le, run_in_chunk_fails, length-chunk}
use Rattle.std.proofs.lemmas.Simd.{leading_from_mask_l, trailing_mask_l}
use lib.Count.{count_trailing_zeros}
use Rattle.std.proofs.lemmas.Str.{IsUtf8-append, IsUtf8-from_ascii}
use Rattle.std.proofs.lemmas.Str.Ascii.{IsAscii-more, IsAscii-nil}
use Rattle.std.specs.Prelude.{IsUtf8}
use Rattle.std.specs.Str.{IsAscii}
use lib.Lanes.{chunk, mask_l, top, zip2}
use mir.Val.{bits, hbits}

-- UTF-8 after the first n bytes, which are UTF-8, as a slice from n on has it
pub after_utf8 :
    (xs : List ℕ) (n : ℕ)
    → IsUtf8 (take n xs) → IsUtf8 (take (length xs - n) (drop n xs)) → IsUtf8 xs
after_utf8 xs n first rest =
    subst IsUtf8 (take-append-drop n xs)
    (IsUtf8-append (take n xs) (drop n xs) first (subst IsUtf8 (take_rest xs n) rest))

-- UTF-8 after n bytes of ASCII
pub after_ascii :
    (xs : List ℕ) (n : ℕ)
    → IsAscii (take n xs) → IsUtf8 (take (length xs - n) (drop n xs)) → IsUtf8 xs
after_ascii xs n ascii rest = after_utf8 xs n (IsUtf8-from_ascii (take n xs) ascii) rest

-- a first byte that is ASCII
pub first_ascii : (xs : List ℕ) → 1 ≤ length xs → slice_index xs 0 < 128 → IsAscii (take 1 xs)
first_ascii xs l h = IsAscii-more xs 0 l IsAscii-nil h

-- the first bytes, one by one
pub first_two :
    (xs : List ℕ) → 2 ≤ length xs → slice_index xs 0 ∷ slice_index xs 1 ∷ [] ≡ take 2 xs
first_two [] l = absurd (omega (arith, l))
first_two (a ∷ []) l = absurd (omega (arith, l))
first_two (a ∷ b ∷ xs) l = refl

-- the first three items by their places
pub first_three :
    (xs : List ℕ) → 3 ≤ length xs
    → slice_index xs 0 ∷ slice_index xs 1 ∷ slice_index xs 2 ∷ [] ≡ take 3 xs
first_three [] l = absurd (omega (arith, l))
first_three (a ∷ xs) l = ap (λ t. a ∷ t) (first_two xs (omega (arith, l)))

-- the first four items by their places
pub first_four :
    (xs : List ℕ) → 4 ≤ length xs
    → slice_index xs 0 ∷ slice_index xs 1 ∷ slice_index xs 2 ∷ slice_index xs 3 ∷ [] ≡ take 4 xs
first_four [] l = absurd (omega (arith, l))
first_four (a ∷ xs) l = ap (λ t. a ∷ t) (first_three xs (omega (arith, l)))

-- the mask of a block, as the vector's comparison with 128 gives it
abbrev pub block_bits : ℕ → List ℕ → ℕ
block_bits n block =
    mask_l
    (map (top (hbits w8)) (zip2 (λ a b. cond (leb a b) (2 ^ bits w8 - 1) 0) (replicate n 128) block))
    % 2 ^ 64

-- the mask of a block says which of its bytes are not ASCII
pub block_mask :
    (n : ℕ) (block : List ℕ) → length block ≡ n → n ≤ 64
    → block_bits n block ≡ mask_l (map (leb 128) block)
block_mask n block long few =
    ap (λ ms. mask_l ms % 2 ^ 64)
    (tops_compared w8 leb (replicate n 128) block ∙ zip2_splat_left leb 128 n block long)
    ∙ mask_l-mod (map (leb 128) block) 64 (omega (arith, length-map block (leb 128), long, few))

positive_unless : (n : ℕ) → (n ≡ 0 → ⊥) → 0 < n
positive_unless zero some = absurd (some refl)
positive_unless (suc n) some = omega arith

-- where each of the first bytes is ASCII
ascii_first :
    (xs : List ℕ) (n : ℕ) → n ≤ length xs → ((k : ℕ) → k < n → slice_index xs k < 128)
    → IsAscii (take n xs)
ascii_first xs zero room below = IsAscii-nil
ascii_first xs (suc n) room below =
    let next : n + 1 ≡ suc n = omega arith in
    subst (λ m. IsAscii (take m xs)) next
    (IsAscii-more xs n (omega (arith, room))
    (ascii_first xs n (omega (arith, room)) (λ k l. below k (omega (arith, l))))
    (below n (omega arith)))

-- the bytes of a block before the first that is not ASCII
leading_in_block :
    (xs : List ℕ) (n r : ℕ) → n ≤ length xs
    → r ≡ prefix_len (λ x. not (leb 128 x)) (chunk 0 n xs) → (r ≤ n) × IsAscii (take r xs)
leading_in_block xs n r room counted =
    let inside : 0 + n ≤ length xs = omega (arith, room) in
    let short = run_in_chunk_le (leb 128) xs 0 n r 0 inside counted in (
      short,
      ascii_first xs r (omega (arith, short, room)) (λ k l.
          leb-false _ _ (run_in_chunk_fails (leb 128) xs 0 n r 0 inside counted k (omega arith)
          (omega (arith, l)))),
    )

-- all of a block, where its mask is 0
pub block_ascii :
    (xs : List ℕ) (n : ℕ) → n ≤ 64 → n ≤ length xs → block_bits n (chunk 0 n xs) ≡ 0
    → IsAscii (take n xs)
block_ascii xs n few room none =
    let long = length-chunk 0 n xs (omega (arith, room)) in
    let mask = sym (block_mask n (chunk 0 n xs) long few) ∙ none in
    (leading_in_block xs n n room (sym (leading_from_mask_l (leb 128) (chunk 0 n xs) mask ∙ long))).1

-- as many of a block as its mask ends with zeros
pub block_leading :
    (xs : List ℕ) (n : ℕ) → n ≤ 64 → n ≤ length xs → (block_bits n (chunk 0 n xs) ≡ 0 → ⊥)
    → let r = count_trailing_zeros 64 (block_bits n (chunk 0 n xs)) in
    (r ≤ n) × IsAscii (take r xs)
block_leading xs n few room some =
    let block = chunk 0 n xs in
    let long = length-chunk 0 n xs (omega (arith, room)) in
    let bits = block_mask n block long few in
    let positive : 0 < mask_l (map (leb 128) block) = positive_unless _ (λ z. some (bits ∙ z)) in
    leading_in_block xs n _ room
    (ap (count_trailing_zeros 64) bits
    ∙ trailing_mask_l (leb 128) 64 block (omega (arith, long, few)) positive)
