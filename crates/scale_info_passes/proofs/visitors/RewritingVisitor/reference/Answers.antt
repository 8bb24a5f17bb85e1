use Rattle.std.proofs.Common.{rules}
use Rattle.scale_info_passes.proofs.visitors.RewritingVisitor.reference.Goals as goal

pub returns-else-is_err : goal.returns-else-is_err
returns-else-is_err c = search rules
