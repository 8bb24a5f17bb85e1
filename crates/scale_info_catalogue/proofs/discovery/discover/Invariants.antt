use Rattle.std.proofs.Common.{◌≡◌, ◌++◌, List, length}
use Rattle.scale_info_identities.specs.declared.type_id.TypeId.{TypeId}
use Rattle.scale_info_catalogue.specs.CatalogueSystems.{catalogue_system}
use Rattle.scale_info_catalogue.specs.Discoveries.{nodes_of, stacked, AreFound}
use Rattle.scale_info_numberings.proofs.WorkLists.{IsWalking}
use Rattle.scale_info_catalogue.proofs.CatalogueWeights.{work_left}
use Rattle.scale_info_catalogue.proofs.discovery.discover.Given as goal

abbrev pub invariant-loop-next : goal.invariant-loop-next
invariant-loop-next l =
    IsWalking (catalogue_system l.catalogue) (nodes_of l.fn.identities) (stacked l.fn.pending.items) (nodes_of l.identities) (stacked l.pending.items)
    × ((more : List TypeId) × (l.identities ≡ l.fn.identities ++ more))
    × ((more : List TypeId) × (l.identities ≡ l.fn.identities ++ more) × AreFound l.catalogue more l.found.items)

abbrev pub decreases-loop-next : goal.decreases-loop-next
decreases-loop-next l = work_left l.catalogue (nodes_of l.identities) (length l.pending.items)
