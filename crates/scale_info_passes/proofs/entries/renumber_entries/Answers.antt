use Rattle.scale_info_passes.specs.VisitLaws.{prefix_of_prefix}
use Rattle.scale_info_passes.proofs.Offsets.{appends_one_more}
use Rattle.scale_info_passes.proofs.entries.renumber_entries.Goals as goal

pub loop-id-preserved : goal.loop-id-preserved
loop-id-preserved c = record {
  appends = λ entries at_offsets.
      appends_one_more entries _ c.args.indices.now c.loop-id.id _ _ _ c.loop-id-test.true
      (c.loop-id.invariant.appends entries at_offsets) (c.in_default.ensures.ok entries at_offsets);
  keeps = prefix_of_prefix c.loop-id.invariant.keeps c.in_default.ensures.keeps;
}
