use Rattle.scale_info_table_diff.proofs.CommonIds.{is_some}
use Rattle.scale_info_table_diff.proofs.marks.have_changed.Goals as goal

pub returns : goal.returns
returns c = λ yes types others are. (
  is_some c.args.others.now c.is_empty.result c.is_empty.ensures c.if-is_empty.false,
  c.have_no_match.ensures yes types others are,
)
