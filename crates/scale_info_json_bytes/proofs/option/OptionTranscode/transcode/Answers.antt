use Rattle.std.proofs.Common.{arith, Some}
use Rattle.scale_info_bytes.proofs.Errors.{passed_malformed}
use Rattle.scale_info_bytes.proofs.Index.{begins, prefix_from_index, no_prefix_some}
use Rattle.scale_info_json_bytes.proofs.option.OptionTranscode.transcode.Goals as goal

pub returns-in_err-rest-in-1-clause-malformed : goal.returns-in_err-rest-in-1-clause-malformed
returns-in_err-rest-in-1-clause-malformed g c =
    passed_malformed c.from_residual-in_err-rest-in-1.result c.in_err-rest-in-1.field-0.0
    c.from_residual-in_err-rest-in-1.ensures.1
    (λ n. no_prefix_some (begins 1 c.args.input.now c.in-1.len_at_least (omega arith)) n)
    c.in_err-rest-in-1.ensures.malformed

pub returns-in_ok-rest-in-1-clause-ok : goal.returns-in_ok-rest-in-1-clause-ok
returns-in_ok-rest-in-1-clause-ok g c =
    let one = c.in_ok-rest-in-1.ensures.ok in
    record {
      value = Some one.value;
      read =
          prefix_from_index (begins 1 c.args.input.now c.in-1.len_at_least (omega arith)) one.read;
      tokens = one.tokens;
    }
