use Rattle.std.proofs.Common.{None, Some, append_assoc, rules}
use Rattle.scale_info_table_describe.proofs.Unfolded.{name_is, too_deep}
use Rattle.scale_info_table_describe.proofs.names.+name.Goals as goal

pub append_name-returns-then-left-eq0 : goal.append_name-returns-then-left-eq0
append_name-returns-then-left-eq0 g t c =
    rw (too_deep c.args.left (g.T.Definitions.table c.args.table.now) c.args.id c.if-left-eq0.true) (search rules)

pub append_name-returns-in_ok-push_str-in-None : goal.append_name-returns-in_ok-push_str-in-None
append_name-returns-in_ok-push_str-in-None g t c =
    rw (name_is c.args.left (g.T.Definitions.table c.args.table.now) c.args.id None c.if-left-eq0.false c.in-None.ensures)
    (search (rules, append_assoc))

pub append_name-returns-in-Some : goal.append_name-returns-in-Some
append_name-returns-in-Some g t c =
    rw (name_is c.args.left (g.T.Definitions.table c.args.table.now) c.args.id
    (Some c.in-Some.ty.now) c.if-left-eq0.false c.in-Some.ensures)
    c.append_named.ensures
