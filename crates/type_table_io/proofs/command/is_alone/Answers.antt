use Rattle.std.proofs.lemmas.Bool.Decides.{Decides-eqb}
use Rattle.std.proofs.lemmas.Slice.Eq.{slice_eq-Decides}
use Rattle.type_table_io.proofs.OneText.{one_text}
use Rattle.type_table_io.proofs.command.is_alone.Goals as goal

pub returns-in-len1 : goal.returns-in-len1
returns-in-len1 c =
    one_text c.args.arguments.now c.only-item.result c.as_str.result.now _ c.eq.result c.in-len1.len_at_least c.in-len1.len_below c.only-item.is
    c.as_str.ensures (slice_eq-Decides Decides-eqb _ _ _ c.eq.ensures)
