use Rattle.scale_info_json_bytes.proofs.Skips.{AreLeft}
use Rattle.scale_info_json_bytes.proofs.skip.skip_items.Given as goal

abbrev pub invariant-loop : goal.invariant-loop
invariant-loop g l = AreLeft g.T.Skip.encodes l.count l.counter l.input l.rest
