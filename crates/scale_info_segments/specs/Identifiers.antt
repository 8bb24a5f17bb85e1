-- Identifiers of Rust, on texts as lists of bytes.
use Rattle.std.specs.Prelude.{◌≡◌, ◌⊎◌, ℕ, List, ◌∷◌, ◌++◌, codes}
use Rattle.std.specs.Char.{IsAsciiAlphabetic, IsAsciiDigit}
use Rattle.std.specs.List.{All, repeat}

-- `_`
abbrev pub underscore : ℕ
underscore = 95

-- the byte is `_` or an ASCII letter
abbrev pub IsLetter : ℕ → Type 0
IsLetter byte = (byte ≡ underscore) ⊎ IsAsciiAlphabetic byte

-- the byte is `_`, an ASCII letter or an ASCII digit
abbrev pub IsLetterOrDigit : ℕ → Type 0
IsLetterOrDigit byte = IsLetter byte ⊎ IsAsciiDigit byte

-- the text begins with `_` or a letter, and goes on with `_`, letters and digits alone
pub record IsPlainIdentifier (text : List ℕ) : Type 0 where
  pub head : ℕ
  pub tail : List ℕ
  pub spelled : text ≡ head ∷ tail
  pub begins : IsLetter head
  pub goes_on : All IsLetterOrDigit tail

-- the text is some number of `r#`, which may be none, and then a plain identifier; keywords are
-- identifiers, too
pub record IsIdentifier (text : List ℕ) : Type 0 where
  pub count : ℕ
  pub rest : List ℕ
  pub spelled : text ≡ repeat count (codes "r#") ++ rest
  pub plain : IsPlainIdentifier rest
