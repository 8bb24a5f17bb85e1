-- What is left by a list of registrations, one pruning and one encoding.
use Rattle.std.specs.BTreeMap.{BTreeMap, get}
use Rattle.std.specs.List.{AllZip}
use Rattle.std.specs.Ordering.{nat_cmp}
use Rattle.std.specs.Prelude.{◌≡◌, ℕ, List, [], Some, length}
use Rattle.scale_info_identities.specs.TypeIds.{Term}
use Rattle.scale_info_numberings.specs.Systems.{System}
use Rattle.scale_info_numberings.specs.Tables.{ArePlaces}
use Rattle.scale_info_registry.specs.Registrations.{AreSteps, IsRegistration, Registered, Step}
use Rattle.scale_info_catalogue.specs.Discoveries.{nodes_of}
use Rattle.scale_info_registry.specs.Registrations.{last_step, registered}
use Rattle.scale_info_table.specs.BuiltTables.{numbered_from}
use Rattle.scale_info_table.specs.TableEncoding.{EncodesRegistry}
use Rattle.scale_info_table.specs.declared.portable.PortableRegistry.{PortableRegistry}
use Rattle.scale_info_types.specs.Shapes.{Shape}
use Rattle.scale_info_table.specs.Pruned.{IsPruned}

-- A table that was pruned, and the bytes of what was kept: the ids that were chosen, the map from
-- old ids to new ones, the kept table and its encoding.
pub record Pruning : Type 0 where
  pub whole : PortableRegistry
  pub chosen : List ℕ
  pub new_ids : BTreeMap ℕ ℕ
  pub kept : PortableRegistry
  pub bytes : List ℕ

-- `retain` made the kept table and the map of the whole table, and `encode` made the bytes
abbrev pub IsWritten : Pruning → Type 0
IsWritten p =
    IsPruned p.whole.types p.chosen p.kept.types p.new_ids × EncodesRegistry p.kept p.bytes

-- the new ids of the chosen ones, in order
abbrev pub AreNewIds : Pruning → List ℕ → Type 0
AreNewIds p ids = AllZip (λ old new. get nat_cmp p.new_ids old ≡ Some new) p.chosen ids

-- a list of registrations: the first one, and those after it
pub record History : Type 0 where
  pub first : Step
  pub later : List Step

-- the catalogue of the last registration
abbrev pub catalogue_of : History → System Shape Term
catalogue_of h = (last_step h.first h.later).catalogue

-- the registry that the last registration left
abbrev pub registry_of : History → Registered
registry_of h = (last_step h.first h.later).registry

-- each registration was accepted: the first into an empty registry, each later one into the
-- registry that the one before left, under a catalogue that has what it had before
pub record AreAccepted (h : History) : Type 0 where
  pub begins : IsRegistration h.first.catalogue (registered [] []) h.first.roots h.first.registry
  pub steps : AreSteps h.first h.later

-- the table has the registry's descriptions in order, each with its index as id
abbrev pub IsTableOf : Registered → PortableRegistry → Type 0
IsTableOf registry table =
    (table.types ≡ numbered_from 0 registry.types)
    × (length registry.types ≡ length registry.identities)

-- the types that have the chosen ids in a registry, in order
abbrev pub AreChosenTypes : Registered → Pruning → List Term → Type 0
AreChosenTypes registry p types = ArePlaces (nodes_of registry.identities) types p.chosen
