-- Types of two tables, compared.
use Rattle.std.specs.Prelude.{◌≡◌, ◌↔◌, ◌<◌, ◌⊎◌, ℕ, List, Some, Bool, IsTrue, length, map}
use Rattle.std.specs.Prelude.{slice_get}
use Rattle.scale_info_grammar.specs.Ty.{EncodesTypes}
use Rattle.scale_info_numberings.specs.Matches.{IsMatch}
use Rattle.scale_info_numberings.specs.Numberings.{IsNumbering}
use Rattle.scale_info_numberings.specs.Systems.{IsReached}
use Rattle.scale_info_numberings.specs.Tables.{ArePlaces, IsTable}
use Rattle.scale_info_types.specs.declared.ty.PortableType.{PortableType}
use Rattle.scale_info_walk.specs.TypeSystems.{entry_of, types_system}
use Rattle.scale_info_table_prune.specs.Prunes.{IsErrorFrom, IsTypesErrorFrom, LeadsOutside}
use Rattle.scale_info_table_prune.specs.declared.prune.PruneError.{PruneError}

-- ---- of tables

-- the bytes encode the table of the numbering of the types, from these ids in their order; and these
-- are the new ids of the given ones
pub record IsRenumbered (types : List PortableType) (ids bytes new_ids : List ℕ) : Type 0 where
  pub order : List ℕ
  pub numbering : IsNumbering (types_system types) ids order
  pub kept : List PortableType
  pub table : IsTable (types_system types) order (map entry_of kept)
  pub ids_are : (i : ℕ) (entry : PortableType) → slice_get kept i ≡ Some entry → entry.id ≡ i
  pub written : EncodesTypes kept bytes
  pub places : ArePlaces order ids new_ids

-- each id that is reached from these is an index of the types
abbrev pub StaysInside : List PortableType → List ℕ → Type 0
StaysInside types ids = (id : ℕ) → IsReached (types_system types) ids id → id < length types

-- why types are not numbered from the ids in their order
abbrev pub IsTypesRenumberingError : List PortableType → List ℕ → PruneError → Type 0
IsTypesRenumberingError types ids error = IsTypesErrorFrom types ids (LeadsOutside types ids) error

-- why types of two tables are not compared: those of the first are not numbered from its ids; or
-- they are, and those of the second are not numbered from the others
abbrev pub IsMatchError : (types : List PortableType) → (ids : List ℕ)
    → (other_types : List PortableType) → (others : List ℕ) → PruneError → Type 0
IsMatchError types ids other_types others error =
    IsTypesRenumberingError types ids error
    ⊎ (StaysInside types ids × IsTypesRenumberingError other_types others error)

-- a match takes what the ids reach in the one table, one to one and in order, to what the others
-- reach in the other
abbrev pub HaveMatch : (types : List PortableType) → (ids : List ℕ)
    → (other_types : List PortableType) → (others : List ℕ) → Type 0
HaveMatch types ids other_types others =
    (pairs : List (ℕ × ℕ))
    × IsMatch (types_system types) ids (types_system other_types) others pairs

-- ---- of inputs

-- the input encodes a table, of which this id is no index, and it is the first such that is met from
-- the given ones
pub record ReachesOutside (input ids : List ℕ) (id : ℕ) : Type 0 where
  pub types : List PortableType
  pub encodes : EncodesTypes types input
  pub leads : LeadsOutside types ids id

-- the input encodes a table, and each id that is reached from the given ones is an index of it
pub record ReachesIndices (input ids : List ℕ) : Type 0 where
  pub types : List PortableType
  pub encodes : EncodesTypes types input
  pub inside : StaysInside types ids

-- why the input is not numbered from the ids
abbrev pub IsRenumberingError : List ℕ → List ℕ → PruneError → Type 0
IsRenumberingError input ids error = IsErrorFrom input ids (ReachesOutside input ids) error

-- why types of two tables are not compared: the first input is not numbered from its ids; or it is,
-- and the second is not numbered from the others
abbrev pub IsSameTypesError : (first ids second others : List ℕ) → PruneError → Type 0
IsSameTypesError first ids second others error =
    IsRenumberingError first ids error
    ⊎ (ReachesIndices first ids × IsRenumberingError second others error)

-- whether a match takes what the ids reach in the table that the first input encodes to what the
-- others reach in that of the second, one to one and in order
pub record TellsMatch (first ids second others : List ℕ) (same : Bool) : Type 0 where
  pub types : List PortableType
  pub other_types : List PortableType
  pub encodes : EncodesTypes types first
  pub other_encodes : EncodesTypes other_types second
  pub tells : IsTrue same ↔ HaveMatch types ids other_types others
