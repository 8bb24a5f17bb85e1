-- Paths as lists of texts: a text cut at `::`, segments replaced, and the first segment that is no
-- identifier.
use Rattle.std.specs.Prelude.{◌≡◌, ◌≢◌, ◌≤◌, ℕ, List, [], ◌∷◌, ◌++◌, length, map, codes, option_map}
use Rattle.std.specs.Prelude.{unwrap_or}
use Rattle.std.specs.List.{All, find, join_by}
use Rattle.std.specs.Str.{bytes_eq}
use Rattle.scale_info_segments.specs.Identifiers.{IsIdentifier}
use denote.Ref.{Bor}

-- texts that the program holds, each a `&'static str`
abbrev pub StaticTexts : Type 0
StaticTexts = List (Bor (List ℕ))

-- their bytes
abbrev pub texts : StaticTexts → List (List ℕ)
texts strings = map (λ text. text.now) strings

-- the same of pairs of texts
abbrev pub text_pairs : List (Bor (List ℕ) × Bor (List ℕ)) → List (List ℕ × List ℕ)
text_pairs strings = map (λ pair. (pair.0.now, pair.1.now)) strings

-- what stands between the segments of a path
abbrev pub separator : List ℕ
separator = codes "::"

-- the text has no `::`
pub record HasNoSeparator (text : List ℕ) : Type 0 where
  pub none : (front back : List ℕ) → text ≢ front ++ (separator ++ back)

-- `before` and `after` stand around the first `::` of the text
pub record IsAroundFirstSeparator (text before after : List ℕ) : Type 0 where
  pub parts : text ≡ before ++ (separator ++ after)
  pub first :
      (front back : List ℕ)
      → text ≡ front ++ (separator ++ back) → length before ≤ length front

-- the pieces of a text around `::`: a text without `::` is its one piece; another one has the piece
-- before its first `::`, and then the pieces of what stands after it
pub data IsPieces : List ℕ → List (List ℕ) → Type 0 where
  whole : (text : List ℕ) → HasNoSeparator text → IsPieces text (text ∷ [])
  cut :
      (text before after : List ℕ) (pieces : List (List ℕ))
      → IsAroundFirstSeparator text before after
      → IsPieces after pieces
      → IsPieces text (before ∷ pieces)

-- where a type of this name is declared: the segments are the pieces of its module path, and then
-- its name
pub record AreDeclared (name module_path : List ℕ) (segments : List (List ℕ)) : Type 0 where
  pub modules : List (List ℕ)
  pub cut : IsPieces module_path modules
  pub order : segments ≡ modules ++ name ∷ []

-- the second text of the first pair whose first text is this one; without such a pair the text
-- itself
abbrev pub replaced : List (List ℕ × List ℕ) → List ℕ → List ℕ
replaced pairs text =
    unwrap_or (option_map (λ pair. pair.1) (find (λ pair. bytes_eq pair.0 text) pairs)) text

-- the segments make a path: there is one, and all are identifiers
pub record ArePathSegments (segments : List (List ℕ)) : Type 0 where
  pub some : segments ≢ []
  pub identifiers : All IsIdentifier segments

-- the first segment that is no identifier has this index, counted from 0
pub record IsFirstInvalidIndex (segments : List (List ℕ)) (place : ℕ) : Type 0 where
  pub front : List (List ℕ)
  pub bad : List ℕ
  pub back : List (List ℕ)
  pub parts : segments ≡ front ++ bad ∷ back
  pub before : length front ≡ place
  pub identifiers : All IsIdentifier front
  pub no_identifier : ¬ (IsIdentifier bad)

-- a path as a text: its segments with `::` between them
abbrev pub joined : List (List ℕ) → List ℕ
joined segments = join_by (λ segment. segment) separator segments
