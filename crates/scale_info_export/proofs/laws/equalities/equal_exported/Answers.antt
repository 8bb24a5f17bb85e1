use Rattle.std.proofs.Common.{refl}
use Rattle.std.proofs.lemmas.Bool.Decides.{Decides-and, Decides-eqb}
use Rattle.std.proofs.lemmas.Map.Lookups.{btree_map_eq-Decides}
use Rattle.std.proofs.lemmas.Slice.Eq.{slice_eq-Decides}
use Rattle.scale_info_export.proofs.laws.equalities.equal_exported.Goals as goal

pub returns : goal.returns
returns c = λ a b.
    Decides-and _ _ (slice_eq-Decides Decides-eqb a.ids.items b.ids.items _ refl) (btree_map_eq-Decides Decides-eqb Decides-eqb a.map b.map _ refl)
