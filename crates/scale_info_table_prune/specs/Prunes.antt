-- Tables that are pruned as bytes.
use Rattle.std.specs.Prelude.{◌≡◌, ◌↔◌, ◌≤◌, ℕ, List, [], Some, length, map, slice_get}
use Rattle.std.specs.BTreeMap.{BTreeMap, get}
use Rattle.std.specs.Ordering.{nat_cmp}
use Rattle.scale_info_bytes.specs.Encodings.{AppendsEncoding, HasNoPrefix}
use Rattle.scale_info_numberings.specs.Numberings.{IsNumbering}
use Rattle.scale_info_numberings.specs.Systems.{IsFirstOutside}
use Rattle.scale_info_numberings.specs.Tables.{IsTable}
use Rattle.scale_info_types.specs.declared.ty.PortableType.{PortableType}
use Rattle.scale_info_walk.specs.TypeSystems.{entry_of, types_system}
use Rattle.scale_info_walk.specs.Walks.{AreNumbers}
use Rattle.scale_info_table_prune.specs.Roots.{AreRoots, IsNoSuchType}
use Rattle.scale_info_grammar.specs.Ty.{EncodesTypes}
use Rattle.scale_info_table_prune.specs.TableIndexes.{HasTrailing}
use Rattle.scale_info_table_prune.specs.declared.prune.PruneError.{PruneError}
use Rattle.scale_info_table_prune.specs.declared.prune.PruneError.TheVariants.{Malformed, Trailing}
use Rattle.scale_info_table_prune.specs.declared.prune.PruneError.TheVariants.{NoSuchType, Dangling}
use Rattle.scale_info_table_prune.specs.declared.prune.PruneError.TheVariants.{Memory}

-- why the input is not found to be one table
abbrev pub IsTableError : List ℕ → PruneError → Type 0
IsTableError input Malformed = HasNoPrefix EncodesTypes input
IsTableError input Trailing = HasTrailing input
IsTableError input (NoSuchType id) = ⊥
IsTableError input (Dangling id) = ⊥
IsTableError input Memory = Unit {0}

-- ---- of a table

-- the map takes each index of the order to its place there, and has no other keys
abbrev pub HasNewIds : List ℕ → BTreeMap ℕ ℕ → Type 0
HasNewIds order new_ids =
    (old new : ℕ) → (get nat_cmp new_ids old ≡ Some new) ↔ (slice_get order new ≡ Some old)

-- the ids of what the given ids reach, in depth-first order of discovery, where the given ones are
-- taken in ascending order, each once
pub record IsOrderFrom (types : List PortableType) (given order : List ℕ) : Type 0 where
  pub roots : List ℕ
  pub are_roots : AreRoots (length types) given roots
  pub numbering : IsNumbering (types_system types) roots order

-- new is old followed by an encoding of the table of the numbering, in this order, of these types,
-- from the given ids in ascending order, each once
pub record AppendsPruned (types : List PortableType) (given order old new : List ℕ) : Type 0 where
  pub roots : List ℕ
  pub are_roots : AreRoots (length types) given roots
  pub numbering : IsNumbering (types_system types) roots order
  pub kept : List PortableType
  pub table : IsTable (types_system types) order (map entry_of kept)
  pub ids : (i : ℕ) (entry : PortableType) → slice_get kept i ≡ Some entry → entry.id ≡ i
  pub appends : AppendsEncoding (EncodesTypes kept) old new

-- this id is the first one that is met from these roots on and is no index of the types
pub record LeadsOutside (types : List PortableType) (roots : List ℕ) (id : ℕ) : Type 0 where
  pub first : IsFirstOutside (types_system types) [] roots id
  pub outside : length types ≤ id

-- so it is from the given ids on, in ascending order, each once
pub record DanglesFrom (types : List PortableType) (given : List ℕ) (id : ℕ) : Type 0 where
  pub roots : List ℕ
  pub are_roots : AreRoots (length types) given roots
  pub leads : LeadsOutside types roots id

-- why types are not numbered from the given ids, where `Outside` says which id is reached that is no
-- index
abbrev pub IsTypesErrorFrom : (types : List PortableType) → (given : List ℕ) → (Outside : ℕ → Type 0)
    → PruneError → Type 0
IsTypesErrorFrom types given Outside Malformed = ⊥
IsTypesErrorFrom types given Outside Trailing = ⊥
IsTypesErrorFrom types given Outside (NoSuchType id) = IsNoSuchType (length types) given id
IsTypesErrorFrom types given Outside (Dangling id) = Outside id
IsTypesErrorFrom types given Outside Memory = Unit {0}

-- why types are not pruned to the given ids
abbrev pub IsTypesPruneError : List PortableType → List ℕ → PruneError → Type 0
IsTypesPruneError types given error = IsTypesErrorFrom types given (DanglesFrom types given) error

-- ---- of an input

-- the input encodes a table, of which this given id, the first such, is no index
pub record HasNoSuchType (input given : List ℕ) (id : ℕ) : Type 0 where
  pub types : List PortableType
  pub encodes : EncodesTypes types input
  pub no_such_type : IsNoSuchType (length types) given id

-- the input encodes a table, of which this id is no index, and it is the first such that is met from
-- the given ones
pub record HasDangling (input given : List ℕ) (id : ℕ) : Type 0 where
  pub types : List PortableType
  pub encodes : EncodesTypes types input
  pub dangles : DanglesFrom types given id

-- why the input is not numbered from the given ids, where `Outside` says which id is reached that
-- is no index
abbrev pub IsErrorFrom : (input given : List ℕ) → (Outside : ℕ → Type 0) → PruneError → Type 0
IsErrorFrom input given Outside Malformed = HasNoPrefix EncodesTypes input
IsErrorFrom input given Outside Trailing = HasTrailing input
IsErrorFrom input given Outside (NoSuchType id) = HasNoSuchType input given id
IsErrorFrom input given Outside (Dangling id) = Outside id
IsErrorFrom input given Outside Memory = Unit {0}

-- why the input is not pruned to the given ids
abbrev pub IsPruneError : List ℕ → List ℕ → PruneError → Type 0
IsPruneError input given error = IsErrorFrom input given (HasDangling input given) error

-- new is old followed by an encoding of the table that the input encodes, pruned to the given ids
pub record IsPrunedEncoding (input given order old new : List ℕ) : Type 0 where
  pub types : List PortableType
  pub encodes : EncodesTypes types input
  pub pruned : AppendsPruned types given order old new

-- ---- numberings

-- a numbering of the types from these roots, with its dense list
pub record IsNumberedFrom (types : List PortableType) (roots order numbers : List ℕ)
    : Type 0 where
  pub numbering : IsNumbering (types_system types) roots order
  pub dense : AreNumbers order numbers
  pub long : length numbers ≡ length types
  pub few : length types ≤ 4294967295

-- a numbering of the types from the given ids in ascending order, each once, with its dense list
pub record IsNumbered (types : List PortableType) (given order numbers : List ℕ) : Type 0 where
  pub roots : List ℕ
  pub are_roots : AreRoots (length types) given roots
  pub from : IsNumberedFrom types roots order numbers

-- why types are not numbered from these roots
abbrev pub IsRootsNumberingError : List PortableType → List ℕ → PruneError → Type 0
IsRootsNumberingError types roots Malformed = ⊥
IsRootsNumberingError types roots Trailing = ⊥
IsRootsNumberingError types roots (NoSuchType id) = ⊥
IsRootsNumberingError types roots (Dangling id) = LeadsOutside types roots id
IsRootsNumberingError types roots Memory = Unit {0}
