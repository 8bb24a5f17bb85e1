-- Types that are given by their ids or their paths.
use Rattle.std.specs.Prelude.{◌≡◌, ◌≢◌, ◌<◌, ◌≤◌, ◌++◌, ℕ, List, [], ◌∷◌, length}
use Rattle.scale_info_table_describe.specs.PathSearches.{AreIdsBy, is_path}
use Rattle.scale_info_types.specs.declared.ty.PortableType.{PortableType}
use Rattle.type_reader_io.specs.declared.error.ReaderError.{ReaderError}
use Rattle.type_reader_io.specs.declared.error.ReaderError.TheVariants as errors
use Rattle.type_table_io.specs.Ids.{IsIdText, id_in}

-- the text is no id, and these are the ids of the types with this path
pub record AreWithPath (types : List PortableType) (text ids : List ℕ) : Type 0 where
  pub no_id : IsIdText text → ⊥
  pub found : AreIdsBy is_path types text ids

-- The ids of the types that a text gives: the id that it is, or those of the types with this path,
-- of which there is one at least.
pub data AreNamed (types : List PortableType) (text : List ℕ) : List ℕ → Type 0 where
  by_id :
      {ids : List ℕ} → IsIdText text → id_in text < length types → ids ≡ id_in text ∷ []
      → AreNamed types text ids
  by_path : {ids : List ℕ} → AreWithPath types text ids → ids ≢ [] → AreNamed types text ids

-- the ids of the types that texts give, one text after another
abbrev pub AreSelected : List PortableType → List (List ℕ) → List ℕ → Type 0
AreSelected types [] ids = ids ≡ []
AreSelected types (text ∷ texts) ids =
    (first : List ℕ) × (more : List ℕ) × AreNamed types text first × AreSelected types texts more
    × (ids ≡ first ++ more)

-- why a text gives no type
abbrev pub IsNamingError : List PortableType → List ℕ → ReaderError → Type 0
IsNamingError types text (errors.NoSuchType id) =
    IsIdText text × (id ≡ id_in text) × (length types ≤ id)
IsNamingError types text (errors.NoSuchPath path) = (path ≡ text) × AreWithPath types text []
IsNamingError types text errors.Memory = Unit {0}
IsNamingError types text error = ⊥

-- the text gives several types
pub record AreSeveral (types : List PortableType) (text : List ℕ) : Type 0 where
  pub ids : List ℕ
  pub named : AreNamed types text ids
  pub several : 2 ≤ length ids

-- why a text does not give one type
abbrev pub IsChoiceError : List PortableType → List ℕ → ReaderError → Type 0
IsChoiceError types text (errors.SharedPath path) = (path ≡ text) × AreSeveral types text
IsChoiceError types text error = IsNamingError types text error

-- the first of the texts that gives no type does so for this error
pub record HasFirstError (types : List PortableType) (texts : List (List ℕ)) (error : ReaderError)
    : Type 0 where
  pub before : List (List ℕ)
  pub text : List ℕ
  pub after : List (List ℕ)
  pub parts : texts ≡ before ++ text ∷ after
  pub ids : List ℕ
  pub selected : AreSelected types before ids
  pub cause : IsNamingError types text error

-- why texts give no types
abbrev pub IsSelectionError : List PortableType → List (List ℕ) → ReaderError → Type 0
IsSelectionError types texts (errors.NoSuchType id) =
    HasFirstError types texts (errors.NoSuchType id)
IsSelectionError types texts (errors.NoSuchPath path) =
    HasFirstError types texts (errors.NoSuchPath path)
IsSelectionError types texts errors.Memory = Unit {0}
IsSelectionError types texts error = ⊥
