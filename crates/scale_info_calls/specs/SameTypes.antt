-- Types of two tables that are whole inputs, compared.
use Rattle.std.specs.Prelude.{◌≡◌, ◌↔◌, ◌⊎◌, ℕ, List, [], ◌∷◌, Bool, IsTrue, Option, None, Some}
use Rattle.std.specs.Prelude.{codes, length}
use Rattle.scale_info_table_diff.specs.Declarations.{TellsDeclaredChange}
use Rattle.scale_info_grammar.specs.Ty.{EncodesTypes}
use Rattle.scale_info_table_prune.specs.Prunes.{HasNoSuchType, LeadsOutside}
use Rattle.scale_info_table_prune.specs.Roots.{IsNoSuchType}
use Rattle.scale_info_table_prune.specs.SameTypes.{HaveMatch, ReachesOutside}
use Rattle.scale_info_types.specs.declared.ty.PortableType.{PortableType}
use Rattle.scale_info_calls.specs.WholeTables.{IsTableRefusal}
use Rattle.scale_info_calls.specs.declared.error.CallError.{CallError}
use Rattle.scale_info_calls.specs.declared.error.CallError.TheVariants as errors

-- the text of a difference between declarations; where there is none, that it is not declared
abbrev pub text_of : Option (List ℕ) → List ℕ
text_of (Some text) = text
text_of None = codes "they differ in what is not declared"

-- what is declared otherwise first, from two types on, is told
pub record TellsDifference (types : List PortableType) (id : ℕ) (others : List PortableType)
    (other : ℕ) (text : List ℕ) : Type 0 where
  pub found : Option (List ℕ)
  pub declared : TellsDeclaredChange types (id ∷ []) others (other ∷ []) found
  pub told : text ≡ text_of found

-- What is told of two types: nothing, where what they reach matches, one to one and in order; and
-- else what is declared otherwise first, from them on.
pub data TellsOfTypes (types : List PortableType) (id : ℕ) (others : List PortableType)
    (other : ℕ) (text : List ℕ) : Type 0 where
  same :
      HaveMatch types (id ∷ []) others (other ∷ []) → text ≡ []
      → TellsOfTypes types id others other text
  differ :
      ¬ (HaveMatch types (id ∷ []) others (other ∷ []))
      → TellsDifference types id others other text
      → TellsOfTypes types id others other text

-- both inputs are tables, and this says whether what types with these ids reach matches, one to one
-- and in order
pub record TellsSame (first : List ℕ) (id : ℕ) (second : List ℕ) (other : ℕ) (same : Bool)
    : Type 0 where
  pub types : List PortableType
  pub others : List PortableType
  pub encodes : EncodesTypes types first
  pub other_encodes : EncodesTypes others second
  pub is : IsTrue same ↔ HaveMatch types (id ∷ []) others (other ∷ [])

-- both inputs are tables, and what is declared otherwise first, from types with these ids on, is told
pub record TellsDifferenceOfInputs (first : List ℕ) (id : ℕ) (second : List ℕ) (other : ℕ)
    (text : List ℕ) : Type 0 where
  pub types : List PortableType
  pub others : List PortableType
  pub encodes : EncodesTypes types first
  pub other_encodes : EncodesTypes others second
  pub tells : TellsDifference types id others other text

-- both inputs are tables, and this is told of the types with these ids
pub record TellsOfInputs (first : List ℕ) (id : ℕ) (second : List ℕ) (other : ℕ)
    (text : List ℕ) : Type 0 where
  pub types : List PortableType
  pub others : List PortableType
  pub encodes : EncodesTypes types first
  pub other_encodes : EncodesTypes others second
  pub tells : TellsOfTypes types id others other text

-- why nothing is told of types of two tables: one of the ids is no index; or the first id that is
-- reached from it and is none is this one; or an allocation failed
abbrev pub IsPairRefusal : (types : List PortableType) → (id : ℕ) → (others : List PortableType)
    → (other : ℕ) → CallError → Type 0
IsPairRefusal types id others other (errors.NoSuchType missing) =
    IsNoSuchType (length types) (id ∷ []) missing
    ⊎ IsNoSuchType (length others) (other ∷ []) missing
IsPairRefusal types id others other (errors.Dangling missing) =
    LeadsOutside types (id ∷ []) missing ⊎ LeadsOutside others (other ∷ []) missing
IsPairRefusal types id others other errors.Memory = Unit {0}
IsPairRefusal types id others other error = ⊥

-- why nothing is told of types of two inputs: one of them is not one table; or the same of the ids
abbrev pub IsSameRefusal : (first : List ℕ) → (id : ℕ) → (second : List ℕ) → (other : ℕ)
    → CallError → Type 0
IsSameRefusal first id second other (errors.NoSuchType missing) =
    HasNoSuchType first (id ∷ []) missing ⊎ HasNoSuchType second (other ∷ []) missing
IsSameRefusal first id second other (errors.Dangling missing) =
    ReachesOutside first (id ∷ []) missing ⊎ ReachesOutside second (other ∷ []) missing
IsSameRefusal first id second other errors.Memory = Unit {0}
IsSameRefusal first id second other error =
    IsTableRefusal first error ⊎ IsTableRefusal second error
