use Rattle.std.proofs.Common.{arith, ap, length, List, subst, sym}
use Rattle.scale_info_references.specs.Conversions.{number_of}
use Rattle.scale_info_types.specs.declared.ty.PortableType.{PortableType}
use Rattle.scale_info_walk.specs.Kept.{AreKept}
use Rattle.scale_info_table.proofs.retain.keep_entries.Goals as goal

pub kept_entries-requires-clause-within : goal.kept_entries-requires-clause-within
kept_entries-requires-clause-within c k d h =
    let long = ap length c.in_ok-old.ensures.taken in
    let within = c.requires.within k d h in
    omega arith

pub returns-clause-ok : goal.returns-clause-ok
returns-clause-ok c =
    subst (λ (ks : List PortableType). AreKept c.args.types.now c.args.order.now (number_of c.args.numbers.now) ks) (sym c.from.ensures)
    (subst (λ (ts : List PortableType). AreKept ts c.args.order.now (number_of c.args.numbers.now) c.kept_entries.result.items)
    c.in_ok-old.ensures.taken c.kept_entries.ensures)
