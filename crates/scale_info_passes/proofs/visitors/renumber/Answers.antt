use Rattle.std.proofs.Common.{rules}
use Rattle.scale_info_passes.proofs.Passes.{some_unless}
use Rattle.scale_info_passes.proofs.visitors.renumber.Goals as goal

pub unwrap-rest-requires : goal.unwrap-rest-requires
unwrap-rest-requires g c =
    let there = c.requires.1 in
    some_unless c.pass.result
    (λ no_prefix. no_prefix.none there.value c.requires.0 there.prefix) c.pass.ensures.none

pub returns-clause-keeps : goal.returns-clause-keeps
returns-clause-keeps g c = search rules

pub returns-clause-ok : goal.returns-clause-ok
returns-clause-ok g c = search rules

pub returns-then-renumbering-clause-keeps : goal.returns-then-renumbering-clause-keeps
returns-then-renumbering-clause-keeps g c = search rules
