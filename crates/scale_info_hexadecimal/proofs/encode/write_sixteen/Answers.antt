use Rattle.std.proofs.Common.{◌*◌, ◌++◌, take, arith, ap, ◌∙◌}
use Rattle.scale_info_hexadecimal.proofs.Encoded.{two_stores}
use Rattle.scale_info_hexadecimal.proofs.encode.write_sixteen.Goals as goal

pub returns : goal.returns
returns c =
    let out = c.args.out.now in
    let at = 2 * c.args.at in
    two_stores out c.digits.result.0 c.digits.result.1 at (omega arith) (omega arith) (omega arith)
    ∙ ap (λ l. take at out ++ l) c.digits.ensures
