use Rattle.std.proofs.Common.{Ok, ap}
use Rattle.scale_info_table.proofs.portable.builder.number_in.Goals as goal

pub returns-clause-known : goal.returns-clause-known
returns-clause-known g c = λ id e. let h = c.in_ok-symbol.ensures.known id e in (ap Ok h.1.1, h.2)

pub returns-in_err-symbol-clause-known : goal.returns-in_err-symbol-clause-known
returns-in_err-symbol-clause-known g c = λ id e.
    let h = c.in_err-symbol.ensures.known id e in
    let wrong = h.0 in
    absurd (cc)

pub returns-clause-new : goal.returns-clause-new
returns-clause-new g c = λ n. let h = c.in_ok-symbol.ensures.new n in (h.1, h.2)

pub returns-clause-ok : goal.returns-clause-ok
returns-clause-ok g c = c.in_ok-symbol.ensures.ok
