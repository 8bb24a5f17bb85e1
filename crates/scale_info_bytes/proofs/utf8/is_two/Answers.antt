use Rattle.std.proofs.Common.{arith}
use Rattle.scale_info_bytes.proofs.Chars.{utf8_of_two}
use Rattle.scale_info_bytes.proofs.utf8.is_two.Goals as goal

pub returns-in-194-to-223 : goal.returns-in-194-to-223
returns-in-194-to-223 c = λ t.
    utf8_of_two c.args.a c.args.b (omega arith) (omega arith) (c.follows.ensures t)
