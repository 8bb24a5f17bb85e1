use Rattle.std.proofs.Common.{arith}
use Rattle.scale_info_bytes.proofs.Ascii.{block_ascii, block_leading}
use Rattle.scale_info_bytes.proofs.utf8.leading_ascii.Goals as goal

pub returns-then-others-eq0-clause-ascii : goal.returns-then-others-eq0-clause-ascii
returns-then-others-eq0-clause-ascii g c =
    block_ascii c.args.bytes.now g.row.N c.requires.0 c.requires.1 c.if-others-eq0.true

pub returns-else-others-eq0-clause-bound : goal.returns-else-others-eq0-clause-bound
returns-else-others-eq0-clause-bound g c =
    let leading =
    block_leading c.args.bytes.now g.row.N c.requires.0 c.requires.1 c.if-others-eq0.false in
    omega (arith, leading.0, c.requires.1)

pub returns-else-others-eq0-clause-ascii : goal.returns-else-others-eq0-clause-ascii
returns-else-others-eq0-clause-ascii g c =
    (block_leading c.args.bytes.now g.row.N c.requires.0 c.requires.1 c.if-others-eq0.false).1
