-- Texts in labels, character by character.
use Rattle.std.proofs.Common.{◌≡◌, ◌≢◌, ◌∙◌, ◌++◌, ◌∷◌, ◌<◌, ◌≤◌, inl, inr, ℕ, suc, List, [], length, get_or}
use Rattle.std.proofs.Common.{ap, sym, refl, arith, append-nil}
use Rattle.std.proofs.lemmas.Bool.{cases_lt, ne_eqb}
use Rattle.std.proofs.lemmas.Str.{encode_ascii, inside_one}
use Rattle.std.specs.Prelude.{encode_utf8}
use Rattle.scale_info_table_dot.specs.GraphTexts.{label_byte, label_text}

-- a byte that is neither a quote nor a backslash
plain_byte : (b : ℕ) → b ≢ 34 → b ≢ 92 → label_byte b ≡ b ∷ []
plain_byte b no_quote no_backslash =
    rw (ne_eqb b 34 no_quote, ne_eqb b 92 no_backslash) refl

-- bytes above ASCII
above_ascii :
    (bs : List ℕ) → ((k : ℕ) → k < length bs → 128 ≤ get_or bs k 0) → label_text bs ≡ bs
above_ascii [] above = refl
above_ascii (b ∷ bs) above =
    let first : 128 ≤ b = above 0 (omega arith) in
    let here = plain_byte b (λ e. omega arith) (λ e. omega arith) in
    ap (λ xs. xs ++ label_text bs) here
    ∙ ap (λ xs. b ∷ xs) (above_ascii bs (λ k within. above (suc k) (omega (arith, within))))

-- each byte of a character above ASCII is above ASCII too
far : (c : ℕ) → 128 ≤ c → (k : ℕ) → k < length (encode_utf8 c) → 128 ≤ get_or (encode_utf8 c) k 0
far c large k within =
    elim (cases_lt (get_or (encode_utf8 c) k 0) 128) [
      | inl low ↦
          let same = inside_one c [] (encode_utf8 c) k (sym (append-nil (encode_utf8 c))) within low in
          absurd (omega arith)
      | inr high ↦ high
    ]

-- a character that is neither a quote nor a backslash
pub plain_character :
    (c : ℕ) → c ≢ 34 → c ≢ 92 → label_text (encode_utf8 c) ≡ encode_utf8 c
plain_character c no_quote no_backslash =
    elim (cases_lt c 128) [
      | inl small ↦
          ap label_text (encode_ascii c small)
          ∙ append-nil (label_byte c)
          ∙ plain_byte c no_quote no_backslash
          ∙ sym (encode_ascii c small)
      | inr large ↦
          above_ascii (encode_utf8 c)
          (far c large)
    ]
