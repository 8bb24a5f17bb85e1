use Rattle.std.proofs.Common.{◌≡◌, ◌+◌, ◌++◌, List, Bor, length, drop}
use Rattle.std.specs.Vec.Iter.{into_iter_items}
use Rattle.scale_info_types.specs.Portable as portable
use Rattle.scale_info_types.specs.MetaDescriptions.{MetaDescription}
use Rattle.scale_info_catalogue.specs.declared.catalogue.Catalogue.{Catalogue}
use Rattle.scale_info_catalogue.specs.Discoveries.{AreFound}
use Rattle.scale_info_registry.specs.Registrations.{AreDescribed}
use Rattle.scale_info_registry.proofs.registry.describe.Given as goal

abbrev pub invariant-loop-described : goal.invariant-loop-described
invariant-loop-described l =
    ((more : List portable.Description) × (l.types.items ≡ l.fn.types.items ++ more))
    × ((done : List (Bor MetaDescription)) × (l.fn.found.items ≡ done ++ into_iter_items l.described-iterator) × (length l.types.items ≡ length l.fn.types.items + length done))
    × ((c : Catalogue) → AreFound c (drop (length l.fn.types.items) l.identities) l.fn.found.items
    → AreDescribed c l.identities (length l.fn.types.items) l.types.items)
