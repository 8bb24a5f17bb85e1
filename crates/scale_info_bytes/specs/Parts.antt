-- Encodings of values that are made of other values.
use Rattle.std.specs.Prelude.{◌≡◌, ℕ, List, [], ◌∷◌, ◌++◌, length, Option, Some, None}
use Rattle.scale_info_bytes.specs.Encodings.{HasPrefix}
use Rattle.scale_info_bytes.specs.Integers.{EncodesCompact}

-- b is bytes with P followed by bytes with Q
pub record IsConcatenation (P Q : List ℕ → Type 0) (b : List ℕ) : Type 0 where
  pub first : List ℕ
  pub second : List ℕ
  pub encodes_first : P first
  pub encodes_second : Q second
  pub parts : b ≡ first ++ second

-- b is an index byte followed by bytes with P
pub record HasIndex (index : ℕ) (P : List ℕ → Type 0) (b : List ℕ) : Type 0 where
  pub rest : List ℕ
  pub encodes_rest : P rest
  pub parts : b ≡ index ∷ rest

-- a pair is its parts in order
pub record EncodesPair {A B : Type 0} (S : A → List ℕ → Type 0) (R : B → List ℕ → Type 0)
    (v : A × B) (b : List ℕ) : Type 0 where
  pub both : IsConcatenation (S v.0) (R v.1) b

-- an option is 0, or 1 and the value
abbrev pub EncodesOption : {A : Type 0} → (A → List ℕ → Type 0) → Option A → List ℕ → Type 0
EncodesOption S None b = b ≡ 0 ∷ []
EncodesOption S (Some v) b = HasIndex 1 (S v) b

-- items one after another
abbrev pub EncodesItems : {A : Type 0} → (A → List ℕ → Type 0) → List A → List ℕ → Type 0
EncodesItems S [] b = b ≡ []
EncodesItems S (v ∷ vs) b = IsConcatenation (S v) (EncodesItems S vs) b

-- the input does not begin with so many items
pub record HasNoItems {A : Type 0} (S : A → List ℕ → Type 0) (count : ℕ) (input : List ℕ)
    : Type 0 where
  pub none :
      (values : List A) (rest : List ℕ) → length values ≡ count
      → HasPrefix (EncodesItems S values) input rest → ⊥

-- a list is its count, then its items
abbrev pub EncodesList : {A : Type 0} → (A → List ℕ → Type 0) → List A → List ℕ → Type 0
EncodesList S vs b = IsConcatenation (EncodesCompact (length vs)) (EncodesItems S vs) b
