-- Bytes of a character.
use Rattle.std.proofs.Common.{◌≡◌, ℕ, ◌+◌, ◌-◌, ◌*◌, ◌/◌, ◌<◌, ◌≤◌, ◌⊎◌, inl, inr, [], ◌∷◌}
use Rattle.std.proofs.Common.{refl, sym, ap, ◌∙◌, subst, arith, true, ◌&&◌, ltb}
use Rattle.std.proofs.Common.{le-leb, lt-ltb}
use Rattle.std.proofs.lemmas.Bool.{cond_below, cond_above}
use Rattle.std.proofs.lemmas.Str.{IsUtf8-encode}
use Rattle.std.specs.Prelude.{IsUtf8}
use lib.Utf8.{scalar, next, encode, low_scalar}

-- a character above the surrogates
high_scalar : (c : ℕ) → 57344 ≤ c → c < 1114112 → scalar c ≡ true
high_scalar c l h =
    sym (cond_above c 55296 true _ true (omega arith)
    (sym (ap (λ b. b && ltb c 1114112) (le-leb _ _ l) ∙ lt-ltb _ _ h)))

two_bytes : (c : ℕ) → 128 ≤ c → c < 2048 → encode c ≡ (192 + c / 64) ∷ next c ∷ []
unfolding encode
two_bytes c l h = sym (cond_above c 128 _ _ _ l (cond_below c 2048 _ _ h))

three_bytes : (c : ℕ) → 2048 ≤ c → c < 65536
    → encode c ≡ (224 + c / 4096) ∷ next (c / 64) ∷ next c ∷ []
unfolding encode
three_bytes c l h =
    sym (cond_above c 128 _ _ _ (omega arith)
    (cond_above c 2048 _ _ _ l (cond_below c 65536 _ _ h)))

four_bytes : (c : ℕ) → 65536 ≤ c
    → encode c ≡ (240 + c / 262144) ∷ next (c / 4096) ∷ next (c / 64) ∷ next c ∷ []
unfolding encode
four_bytes c l =
    sym (cond_above c 128 _ _ _ (omega arith)
    (cond_above c 2048 _ _ _ (omega arith) (cond_above c 65536 _ _ _ l refl)))

-- a byte that follows the first one of a character
abbrev pub Follows : ℕ → Type 0
Follows b = (128 ≤ b) × (b < 192)

-- two bytes that are a character
pub utf8_of_two : (a b : ℕ) → 194 ≤ a → a < 224 → Follows b → IsUtf8 (a ∷ b ∷ [])
utf8_of_two a b l h f =
    let c = (a - 192) * 64 + (b - 128) in
    let p : a ≡ 192 + c / 64 = omega arith in
    let q : b ≡ next c = omega arith in
    subst IsUtf8 (two_bytes c (omega arith) (omega arith) ∙ sym (λ k. p k ∷ q k ∷ []))
    (IsUtf8-encode c (low_scalar c (omega arith)))

-- three bytes that are a character
pub utf8_of_three :
    (a b d : ℕ) → 224 ≤ a → a < 240 → Follows b → Follows d
    → 2048 ≤ (a - 224) * 4096 + (b - 128) * 64 + (d - 128)
    → ((a - 224) * 4096 + (b - 128) * 64 + (d - 128) < 55296)
    ⊎ (57344 ≤ (a - 224) * 4096 + (b - 128) * 64 + (d - 128))
    → IsUtf8 (a ∷ b ∷ d ∷ [])
utf8_of_three a b d l h f g low side =
    let c = (a - 224) * 4096 + (b - 128) * 64 + (d - 128) in
    let p : a ≡ 224 + c / 4096 = omega arith in
    let q : b ≡ next (c / 64) = omega arith in
    let r : d ≡ next c = omega arith in
    subst IsUtf8
    (three_bytes c low (omega arith) ∙ sym (λ k. p k ∷ q k ∷ r k ∷ []))
    (IsUtf8-encode c
    (elim side [ inl s ↦ low_scalar c s | inr s ↦ high_scalar c s (omega arith) ]))

-- four bytes that are a character
pub utf8_of_four :
    (a b d e : ℕ) → 240 ≤ a → Follows b → Follows d → Follows e
    → 16 ≤ (a - 240) * 64 + (b - 128) → (a - 240) * 64 + (b - 128) < 272
    → IsUtf8 (a ∷ b ∷ d ∷ e ∷ [])
utf8_of_four a b d e l f g j low high =
    let c = (a - 240) * 262144 + (b - 128) * 4096 + (d - 128) * 64 + (e - 128) in
    let p : a ≡ 240 + c / 262144 = omega arith in
    let q : b ≡ next (c / 4096) = omega arith in
    let s : c / 64 ≡ (a - 240) * 4096 + (b - 128) * 64 + (d - 128) = omega arith in
    let r : d ≡ next (c / 64) = subst (λ m. d ≡ next m) (sym s) (omega arith) in
    let t : e ≡ next c = omega arith in
    subst IsUtf8
    (four_bytes c (omega arith) ∙ sym (λ k. p k ∷ q k ∷ r k ∷ t k ∷ []))
    (IsUtf8-encode c (high_scalar c (omega arith) (omega arith)))
