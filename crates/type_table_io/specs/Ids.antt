-- Ids in the arguments. A text is the list of its bytes.
use Rattle.std.specs.Prelude.{◌≢◌, ℕ, ◌≤◌, List, [], All}
use Rattle.std.specs.Str.Parse.{IsNumeral, digits_value}

-- the text is one decimal digit or more, of a number up to 4294967295; zeros may lead
abbrev pub IsIdText : List ℕ → Type 0
IsIdText text = IsNumeral 10 text × (digits_value 10 text ≤ 4294967295)

-- the id that the digits write
abbrev pub id_in : List ℕ → ℕ
id_in text = digits_value 10 text

-- there is a text, and each of them is an id
pub record AreIdTexts (texts : List (List ℕ)) : Type 0 where
  pub some : texts ≢ []
  pub each : All IsIdText texts
