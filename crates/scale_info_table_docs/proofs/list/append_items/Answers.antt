use Rattle.std.proofs.Common.{arith}
use Rattle.scale_info_bytes.proofs.Errors.{passed_malformed}
use Rattle.scale_info_bytes.proofs.Steps.{no_next}
use Rattle.scale_info_table_docs.proofs.Changes.{kept_after, next_item, no_items}
use Rattle.scale_info_bytes.proofs.Results.{err_is}
use Rattle.scale_info_table_docs.proofs.list.append_items.Goals as goal

pub loop-init : goal.loop-init
loop-init g c = no_items g.T.WithoutDocs.encodes g.T.WithoutDocs.without_docs _ _

pub returns-in_err-after-clause-malformed : goal.returns-in_err-after-clause-malformed
returns-in_err-after-clause-malformed g c =
    let before = c.loop.invariant in
    passed_malformed c.from_residual.result c.in_err-after.field-0.0 c.from_residual.ensures.1
    (λ n. record {
      none = no_next g.T.WithoutDocs.encodes g.met.T.WithoutDocs.law before.values
          c.args.input.now c.loop.rest.now c.args.count (omega (arith, before.counted)) before.prefix n;
    })
    c.in_err-after.ensures.malformed

pub returns-in_err-after-clause-kept : goal.returns-in_err-after-clause-kept
returns-in_err-after-clause-kept g c =
    err_is c.from_residual.result
    (kept_after c.loop.invariant.appends c.in_err-after.ensures.kept)

pub loop-preserved : goal.loop-preserved
loop-preserved g c =
    next_item g.T.WithoutDocs.encodes g.T.WithoutDocs.without_docs c.loop.invariant
    c.in_ok-after.ensures.ok
