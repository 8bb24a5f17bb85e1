use Rattle.scale_info_bytes.proofs.Lists.{no_count, no_items_after}
use Rattle.scale_info_bytes.proofs.Options.{some_on, none_on, none_is}
use Rattle.scale_info_json_bytes.proofs.Skips.{rest_of_list}
use Rattle.scale_info_json_bytes.proofs.skip.ItemsSkip.skip.Goals as goal

pub returns-in_err-count-clause-none : goal.returns-in_err-count-clause-none
returns-in_err-count-clause-none g c = none_is _ (no_count _ _ c.in_err-count.ensures.none)

pub returns-clause-some : goal.returns-clause-some
returns-clause-some g c =
    some_on c.skip_items.result
    (λ rest p.
    rest_of_list g.T.Skip.encodes c.in_ok-count.count _ _ _ c.in_ok-count.ensures.some p)
    c.skip_items.ensures.some

pub returns-clause-none : goal.returns-clause-none
returns-clause-none g c =
    none_on c.skip_items.result
    (λ n. no_items_after g.T.Skip.encodes _ _ _ c.in_ok-count.ensures.some n.none)
    c.skip_items.ensures.none
