-- An index byte and what comes after it.
use Rattle.std.proofs.Common.{◌≡◌, ℕ, ◌-◌, ◌≤◌, List, ◌∷◌, ◌++◌, length, take, drop, get_or, refl}
use Rattle.std.proofs.Common.{sym, ap, ◌∙◌, Option, Some, None}
use Rattle.scale_info_bytes.specs.Encodings.{HasPrefix, HasNoPrefix}
use Rattle.scale_info_bytes.specs.Parts.{HasIndex, EncodesOption}
use Rattle.scale_info_bytes.proofs.CompactAt.{whole}

-- what a slice pattern calls the rest of the input
abbrev pub after : List ℕ → List ℕ
after input = take (length input - 1) (drop 1 input)

-- the input begins with this byte
pub record BeginsWith (i : ℕ) (input : List ℕ) : Type 0 where
  pub is : input ≡ i ∷ after input

-- an input that is not empty begins with its first byte
pub begins : (i : ℕ) (input : List ℕ) → 1 ≤ length input → get_or input 0 0 ≡ i → BeginsWith i input
begins i input l e = record { is = sym (whole input l) ∙ ap (λ n. n ∷ after input) e }

-- an index byte, and then a prefix of the rest, make a prefix of the input
pub prefix_from_index :
    {P : List ℕ → Type 0} {i : ℕ} {input rest : List ℕ} → BeginsWith i input
    → HasPrefix P (after input) rest → HasPrefix (HasIndex i P) input rest
prefix_from_index {P} {i} {input} {rest} b p = record {
  encoding = i ∷ p.encoding;
  encodes = record { rest = p.encoding; encodes_rest = p.encodes; parts = refl };
  parts = b.is ∙ ap (λ t. i ∷ t) p.parts;
}

-- where an input begins with a byte, so does each of its prefixes
pub prefix_past_index :
    {P : List ℕ → Type 0} {i j : ℕ} {input rest : List ℕ} → BeginsWith i input
    → HasPrefix (HasIndex j P) input rest → (i ≡ j) × HasPrefix P (after input) rest
prefix_past_index {P} {i} {j} {input} {rest} b p =
    let e : i ∷ after input ≡ j ∷ (p.encodes.rest ++ rest) =
    sym b.is ∙ p.parts ∙ ap (λ t. t ++ rest) p.encodes.parts in
    let f : after input ≡ p.encodes.rest ++ rest = cc in
    (cc, record { encoding = p.encodes.rest; encodes = p.encodes.encodes_rest; parts = f })

module _ {A : Type 0} {S : A → List ℕ → Type 0} where
  no_some :
      {input : List ℕ} → BeginsWith 1 input → HasNoPrefix S (after input)
      → (v : Option A) (rest : List ℕ) → HasPrefix (EncodesOption S v) input rest → ⊥
  no_some {input} b n None rest p =
      let e : 1 ∷ after input ≡ 0 ∷ rest = sym b.is ∙ p.parts ∙ ap (λ t. t ++ rest) p.encodes in
      absurd cc
  no_some b n (Some v) rest p = n.none v rest (prefix_past_index b p).1

  -- after a byte 1, no encoding of a value: the input begins with no encoding of an option
  pub no_prefix_some :
      {input : List ℕ} → BeginsWith 1 input → HasNoPrefix S (after input)
      → HasNoPrefix (EncodesOption S) input
  no_prefix_some b n = record { none = no_some b n }
