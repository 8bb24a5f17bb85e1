-- What an encoding is: a relation between values and lists of bytes.
use Rattle.std.specs.Prelude.{◌≡◌, ℕ, ◌<◌, List, ◌++◌}
use Rattle.std.specs.List.{AllByRecursion}
use Rattle.scale_info_bytes.specs.declared.error.EncodeError.{EncodeError}
use Rattle.scale_info_bytes.specs.declared.error.EncodeError.TheVariants as encode
use Rattle.scale_info_bytes.specs.declared.error.DecodeError.{DecodeError}
use Rattle.scale_info_bytes.specs.declared.error.DecodeError.TheVariants as decode

-- the integer is a byte
abbrev pub IsByte : ℕ → Type 0
IsByte n = n < 256

-- S encodes values: a value has one encoding; where an encoding followed by some bytes is an
-- encoding followed by some bytes, the two encodings are equal, and so are their values; and an
-- encoding is made of bytes.
pub record IsEncoding {A : Type 0} (S : A → List ℕ → Type 0) : Type 0 where
  pub one : (v : A) (b c : List ℕ) → S v b → S v c → b ≡ c
  pub prefix_free :
      (v w : A) (b c x y : List ℕ) → S v b → S w c → b ++ x ≡ c ++ y → (b ≡ c) × (v ≡ w)
  pub bytes : (v : A) (b : List ℕ) → S v b → AllByRecursion IsByte b

-- new is old followed by an encoding
pub record AppendsEncoding (S : List ℕ → Type 0) (old new : List ℕ) : Type 0 where
  pub encoding : List ℕ
  pub encodes : S encoding
  pub parts : new ≡ old ++ encoding

-- new begins with old
pub record IsPrefix (old new : List ℕ) : Type 0 where
  pub rest : List ℕ
  pub parts : new ≡ old ++ rest

-- input begins with an encoding, and this is the rest
pub record HasPrefix (S : List ℕ → Type 0) (input rest : List ℕ) : Type 0 where
  pub encoding : List ℕ
  pub encodes : S encoding
  pub parts : input ≡ encoding ++ rest

-- no prefix of the input encodes a value
pub record HasNoPrefix {A : Type 0} (S : A → List ℕ → Type 0) (input : List ℕ) : Type 0 where
  pub none : (v : A) (rest : List ℕ) → HasPrefix (S v) input rest → ⊥

-- there is no encoding
pub record HasNoEncoding (S : List ℕ → Type 0) : Type 0 where
  pub none : (encoding : List ℕ) → S encoding → ⊥

-- P, if the error is that a list or a string is too long to encode
abbrev pub IfTooLong : Type 0 → EncodeError → Type 0
IfTooLong P encode.TooLong = P
IfTooLong P encode.Memory = Unit {0}

-- P, if the error is that the input is malformed
abbrev pub IfMalformed : Type 0 → DecodeError → Type 0
IfMalformed P decode.Malformed = P
IfMalformed P decode.Memory = Unit {0}
