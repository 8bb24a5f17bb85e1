use Rattle.std.proofs.Common.{rules}
use Rattle.std.specs.Prelude.{IfErr}
use Rattle.scale_info_bytes.proofs.Steps.{no_prefix_through}
use Rattle.scale_info_bytes.specs.Encodings.{HasNoPrefix, HasPrefix, IfMalformed}
use Rattle.scale_info_bytes.specs.Integers.{EncodesCompact}
use Rattle.scale_info_bytes.proofs.Results.{malformed_in}
use Rattle.scale_info_json_bytes.proofs.integer.CompactU32Transcode.transcode.Goals as goal

pub returns-in_err-value-clause-malformed : goal.returns-in_err-value-clause-malformed
returns-in_err-value-clause-malformed c =
    let none : IfErr c.from_residual.result (IfMalformed (HasNoPrefix EncodesCompact c.args.input.now)) = search rules in
    malformed_in c.from_residual.result (λ n. no_prefix_through (λ v. v.0) n) none

pub returns-clause-ok : goal.returns-clause-ok
returns-clause-ok c =
    let read : HasPrefix (EncodesCompact c.in_ok-value.value) c.args.input.now c.in_ok-value.rest.now = search rules in
    record {
      value = record { 0 = c.in_ok-value.value };
      read = record { encoding = read.encoding; encodes = read.encodes; parts = read.parts };
      tokens = c.in_ok-u64.ensures.ok;
    }
