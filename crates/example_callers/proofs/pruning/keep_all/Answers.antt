use Rattle.std.proofs.Common.{rules}
use Rattle.std.proofs.lemmas.Result.{IfOk-weaker}
use Rattle.example_callers.proofs.KeepAll.{all_chosen, all_kept}
use Rattle.example_callers.proofs.pruning.keep_all.Goals as goal

pub returns-clause-same : goal.returns-clause-same
returns-clause-same c = IfOk-weaker c.retain.result _ _ (λ new_ids x S roots nodes numbered table ids.
    let all = all_chosen _ (λ f id answer f' called. search rules) _ _ x.0 x.1 x.2 in
    all_kept c.shape_and_references.ensures S roots nodes c.args.table.now.types c.retain.new.self.types new_ids x.0 all x.3 numbered table ids) c.retain.ensures.ok
