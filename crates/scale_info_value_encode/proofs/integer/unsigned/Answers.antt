use Rattle.std.proofs.Common.{rules, arith}
use Rattle.scale_info_value.specs.IntegerWidths.{width_of}
use Rattle.scale_info_value_encode.proofs.LowBytes.{too_wide, unsigned_low}
use Rattle.scale_info_value_encode.proofs.integer.unsigned.Goals as goal

pub returns-then-n-most_in-clause-err : goal.returns-then-n-most_in-clause-err
returns-then-n-most_in-clause-err c =
    too_wide (width_of c.args.width) c.args.n c.most_in.result c.most_in.ensures (omega arith)

pub returns-clause-ok : goal.returns-clause-ok
returns-clause-ok c = record {
  encoding = c.split_at.result.0.now;
  encodes =
      unsigned_low (width_of c.args.width) c.args.n c.most_in.result c.split_at.result.0.now (search rules)
      c.most_in.ensures (omega arith);
  parts = c.in_ok-extend_from_slice.ensures.items;
}
