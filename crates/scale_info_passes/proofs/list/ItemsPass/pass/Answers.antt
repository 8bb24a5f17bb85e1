use Rattle.scale_info_bytes.proofs.Lists.{no_count, no_items_after}
use Rattle.scale_info_passes.proofs.Passes.{visited_list}
use Rattle.scale_info_bytes.proofs.Options.{some_on, none_on, none_is}
use Rattle.scale_info_passes.proofs.list.ItemsPass.pass.Goals as goal

pub returns-in_err-count-clause-none : goal.returns-in_err-count-clause-none
returns-in_err-count-clause-none g c = none_is _ (no_count _ _ c.in_err-count.ensures.none)

pub returns-clause-some : goal.returns-clause-some
returns-clause-some g c =
    some_on c.pass_items.result
    (λ rest p. visited_list g.met.V.Visitor.visited_append c.in_ok-count.count c.in_ok-count.ensures.some c.visit_verbatim.ensures p) c.pass_items.ensures.some

pub returns-clause-none : goal.returns-clause-none
returns-clause-none g c =
    none_on c.pass_items.result
    (λ n. no_items_after g.T.Pass.encodes _ _ _ c.in_ok-count.ensures.some n.none) c.pass_items.ensures.none
