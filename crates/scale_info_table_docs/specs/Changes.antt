-- Encodings that are written again with something changed.
use Rattle.std.specs.Prelude.{◌≡◌, ℕ, List, length, map}
use Rattle.scale_info_bytes.specs.Encodings.{AppendsEncoding, HasPrefix}
use Rattle.scale_info_bytes.specs.Parts.{EncodesItems}

-- the input begins with the encoding of a value, this is the rest, and new is old followed by an
-- encoding of the value changed by f
pub record AppendsChanged {A : Type 0} (S : A → List ℕ → Type 0) (f : A → A)
    (input rest old new : List ℕ) : Type 0 where
  pub value : A
  pub prefix : HasPrefix (S value) input rest
  pub appends : AppendsEncoding (S (f value)) old new

-- the input begins with so many values, this is the rest, and new is old followed by encodings of
-- the values changed by f
pub record AppendsChangedItems {A : Type 0} (S : A → List ℕ → Type 0) (f : A → A) (count : ℕ)
    (input rest old new : List ℕ) : Type 0 where
  pub values : List A
  pub counted : length values ≡ count
  pub prefix : HasPrefix (EncodesItems S values) input rest
  pub appends : AppendsEncoding (EncodesItems S (map f values)) old new
