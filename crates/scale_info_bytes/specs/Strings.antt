-- Encodings of strings.
use Rattle.std.specs.Prelude.{◌≡◌, ℕ, List, length, IsUtf8}
use Rattle.scale_info_bytes.specs.Integers.{EncodesCompact}
use Rattle.scale_info_bytes.specs.Parts.{IsConcatenation}

-- a string, which is UTF-8, is the count of its bytes and then its bytes
pub record EncodesText (text b : List ℕ) : Type 0 where
  pub utf8 : IsUtf8 text
  pub counted : IsConcatenation (EncodesCompact (length text)) (λ bytes. bytes ≡ text) b
