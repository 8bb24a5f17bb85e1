use Rattle.std.proofs.Common.{rules, ap, sym, ◌∙◌, map}
use Rattle.std.proofs.lemmas.Iterator.Adapters.{YieldsList-from_vec}
use Rattle.std.proofs.lemmas.Iterator.Consumers.{YieldsList-end}
use Rattle.std.proofs.lemmas.List.{map-id}
use Rattle.example_callers.specs.Signing.{with_amount}
use Rattle.example_callers.proofs.signing.fields_with.Goals as goal

pub returns : goal.returns
returns c =
    let road = YieldsList-from_vec c.args.fields.items c.into_iter-field-iterator.ensures.into_iter_gives.0 (search rules) in
    let end =
    YieldsList-end road c.loop-field.yielded c.loop-field.field-iterator
    c.loop-field.yielded_by c.next.result c.next.new.self c.in-None.is c.next.ensures.steps in
    c.loop-field.invariant ∙ ap (map (with_amount c.args.amount)) (sym (map-id c.loop-field.yielded) ∙ end.0)
