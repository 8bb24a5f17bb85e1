use Rattle.std.proofs.Common.{arith, ◌∙◌}
use Rattle.scale_info_bytes.proofs.Errors.{passed_malformed}
use Rattle.scale_info_bytes.proofs.Steps.{no_next}
use Rattle.scale_info_json_bytes.proofs.Tokens.{next_item}
use Rattle.scale_info_json_bytes.proofs.list.transcode_items.Goals as goal

pub returns-in_err-after-clause-malformed : goal.returns-in_err-after-clause-malformed
returns-in_err-after-clause-malformed g c =
    let before = c.loop.invariant.items in
    passed_malformed c.from_residual.result c.in_err-after.field-0.0 c.from_residual.ensures.1
    (λ n.
    no_next g.T.Transcode.encodes g.met.T.Transcode.law before.values c.args.input.now c.loop.rest.now
    c.args.count (rw before.counted (omega arith)) before.read n)
    c.in_err-after.ensures.malformed

pub loop-preserved : goal.loop-preserved
loop-preserved g c =
    let one = c.in_ok-after.ensures.ok in
    record {
      before = c.in_ok-after.ensures.before ∙ c.loop.invariant.before;
      items =
          next_item g.T.Transcode.encodes g.T.Transcode.written c.loop.counter one.value _ _ _ _ _ _
          c.loop.invariant.items one.read one.tokens;
    }
