-- Where two tables differ first, from given ids on.
use Rattle.std.specs.Prelude.{◌≡◌, ◌≢◌, ◌<◌, ◌⊎◌, ℕ, List, [], Option, Some, MatchOption, slice_get}
use Rattle.scale_info_grammar.specs.Ty.{EncodesTypes}
use Rattle.scale_info_table_prune.specs.Prunes.{AppendsPruned, IsTypesPruneError}
use Rattle.scale_info_table_prune.specs.declared.prune.PruneError.{PruneError}
use Rattle.scale_info_types.specs.declared.ty.PortableType.{PortableType}

-- what pruning the types to the given ids keeps: the old ids of the entries, in depth-first order
-- of discovery, and the entries, in which each reference is the place of an entry
pub record IsPrunedTo (types : List PortableType) (given order : List ℕ)
    (kept : List PortableType) : Type 0 where
  pub bytes : List ℕ
  pub pruned : AppendsPruned types given order [] bytes
  pub encodes : EncodesTypes kept bytes

-- the types can be pruned to the given ids
pub record CanBePruned (types : List PortableType) (given : List ℕ) : Type 0 where
  pub order : List ℕ
  pub kept : List PortableType
  pub pruned : IsPrunedTo types given order kept

-- why two tables are not pruned to their ids: the old one is not; or it is, and the new one is not
abbrev pub IsDifferenceError : (types : List PortableType) → (ids : List ℕ)
    → (others : List PortableType) → (other_ids : List ℕ) → PruneError → Type 0
IsDifferenceError types ids others other_ids error =
    IsTypesPruneError types ids error
    ⊎ (CanBePruned types ids × IsTypesPruneError others other_ids error)

-- at each place below this one both lists have the same entry
abbrev pub AgreeBelow : ℕ → List PortableType → List PortableType → Type 0
AgreeBelow place entries others = (i : ℕ) → i < place → slice_get entries i ≡ slice_get others i

-- at no place do both lists have entries that differ
abbrev pub AgreeThroughout : List PortableType → List PortableType → Type 0
AgreeThroughout entries others =
    (i : ℕ) (a b : PortableType)
    → slice_get entries i ≡ Some a → slice_get others i ≡ Some b → a ≡ b

-- this is the first place at which both lists have entries that differ
pub record IsFirstPlace (entries others : List PortableType) (place : ℕ) : Type 0 where
  pub below : AgreeBelow place entries others
  pub entry : PortableType
  pub other : PortableType
  pub found : slice_get entries place ≡ Some entry
  pub other_found : slice_get others place ≡ Some other
  pub differ : entry ≢ other

-- these are the old ids at the first place at which both lists have entries that differ
pub record IsFirstDifference (order other_order : List ℕ) (entries others : List PortableType)
    (id other_id : ℕ) : Type 0 where
  pub place : ℕ
  pub first : IsFirstPlace entries others place
  pub is : slice_get order place ≡ Some id
  pub other_is : slice_get other_order place ≡ Some other_id

-- two tables, each pruned to its ids, differ first at these old ids; or they differ at no place that
-- both have
pub record TellsDifference (types : List PortableType) (ids : List ℕ) (others : List PortableType)
    (other_ids : List ℕ) (found : Option (ℕ × ℕ)) : Type 0 where
  pub order : List ℕ
  pub other_order : List ℕ
  pub kept : List PortableType
  pub other_kept : List PortableType
  pub pruned : IsPrunedTo types ids order kept
  pub other_pruned : IsPrunedTo others other_ids other_order other_kept
  pub tells :
      MatchOption found (AgreeThroughout kept other_kept)
      (λ at. IsFirstDifference order other_order kept other_kept at.0 at.1)
