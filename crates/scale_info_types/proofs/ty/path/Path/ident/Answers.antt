use Rattle.std.proofs.Common.{rules}
use Rattle.scale_info_types.proofs.ty.path.Path.ident.Goals as goal

pub returns-in_ok-copy_string-in-Some : goal.returns-in_ok-copy_string-in-Some
returns-in_ok-copy_string-in-Some g c = search rules
