use Rattle.std.proofs.Common.{rules}
use Rattle.scale_info_bytes.proofs.error.truncate_on_err.Goals as goal

pub returns-then-is_err-clause-err : goal.returns-then-is_err-clause-err
returns-then-is_err-clause-err c = search rules
