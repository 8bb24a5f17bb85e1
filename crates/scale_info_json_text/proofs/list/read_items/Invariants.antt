use Rattle.std.proofs.Common.{length}
use Rattle.scale_info_json_trees.specs.Meaning.{MeansEach}
use Rattle.scale_info_json_text.specs.Readings.{IsMeant}
use Rattle.scale_info_json_text.proofs.Trees.{ItemsTurn}
use Rattle.scale_info_json_text.proofs.list.read_items.Given as goal

abbrev pub invariant-items : goal.invariant-items
invariant-items g l = ItemsTurn (λ trees. IsMeant (MeansEach g.T.JsonText.meant trees) l.values) l.depth l.initial.source.reader l.source.reader

abbrev pub decreases-items : goal.decreases-items
decreases-items g l = length l.source.reader
