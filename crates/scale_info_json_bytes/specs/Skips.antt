-- What comes after a value that is skipped and not read.
use Rattle.std.specs.Prelude.{◌≡◌, ℕ, List, length}
use Rattle.scale_info_bytes.specs.Encodings.{HasPrefix}
use Rattle.scale_info_bytes.specs.Parts.{EncodesItems}

-- where the input begins with a value, this is the rest
pub record IsOnlyRest {A : Type 0} (S : A → List ℕ → Type 0) (input rest : List ℕ) : Type 0 where
  pub same : (v : A) (other : List ℕ) → HasPrefix (S v) input other → other ≡ rest

-- where the input begins with so many values, this is the rest
pub record IsOnlyRestOfItems {A : Type 0} (S : A → List ℕ → Type 0) (count : ℕ)
    (input rest : List ℕ) : Type 0 where
  pub same :
      (values : List A) (other : List ℕ) → length values ≡ count
      → HasPrefix (EncodesItems S values) input other → other ≡ rest
