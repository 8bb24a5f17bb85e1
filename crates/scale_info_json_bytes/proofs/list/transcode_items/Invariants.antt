use Rattle.std.proofs.Common.{◌≡◌}
use Rattle.scale_info_json_bytes.specs.Transcodings.{WritesItems}
use Rattle.scale_info_json_bytes.proofs.list.transcode_items.Given as goal

abbrev pub invariant-loop : goal.invariant-loop
invariant-loop g l = record {
  before : l.out.before ≡ l.fn.out.before;
  items : WritesItems g.T.Transcode.encodes g.T.Transcode.written l.counter l.input l.rest l.fn.out.tokens l.out.tokens;
}
