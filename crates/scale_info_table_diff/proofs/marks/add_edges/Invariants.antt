use Rattle.std.proofs.Common.{◌≡◌, All, List, ℕ, Some, slice_get}
use Rattle.scale_info_table_diff.specs.Differing.{Grows, HasReferences, IsEdge}
use Rattle.scale_info_types.specs.declared.ty.PortableType.{PortableType}
use Rattle.scale_info_table_diff.proofs.marks.add_edges.Given as goal

abbrev pub invariant-loop-place : goal.invariant-loop-place
invariant-loop-place l =
    Grows l.initial.pairs.items.items l.pairs.items.items
    × ((types others : List PortableType) (pair : ℕ × ℕ)
    → slice_get l.initial.pairs.items.items l.number ≡ Some pair
    → HasReferences types pair.0 l.references
    → HasReferences others pair.1 l.others
    → All (IsEdge types others l.initial.pairs.items.items) l.initial.edges.items
    → All (IsEdge types others l.pairs.items.items) l.edges.items)
