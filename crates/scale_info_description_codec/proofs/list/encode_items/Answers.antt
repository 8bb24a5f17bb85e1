use Rattle.std.proofs.Common.{map, arith, ap, sym, ◌∙◌, ◌++◌, ◌∷◌, [], take}
use Rattle.std.proofs.lemmas.List.{get_or-map, length-map, map_more}
use Rattle.scale_info_bytes.proofs.Errors.{passed_too_long}
use Rattle.scale_info_bytes.proofs.Results.{err_is}
use Rattle.scale_info_bytes.proofs.Steps.{appends_item, no_item}
use Rattle.scale_info_description_codec.proofs.Sequences.{before}
use Rattle.scale_info_references.specs.Conversions.{symbol}
use Rattle.scale_info_description_codec.proofs.list.encode_items.Goals as goal

pub returns-in_err-encode_part-clause-too_long : goal.returns-in_err-encode_part-clause-too_long
returns-in_err-encode_part-clause-too_long g c =
    let portable = g.T.Part.portable (λ ty. symbol (g.N.GivesIds.id_of c.args.ids.now ty)) in
    let items = c.args.items.now in
    let i = c.loop-item.item-index in
    let item = c.item-item.result in
    passed_too_long c.from_residual.result c.in_err-encode_part.field-0.0 c.from_residual.ensures.1
    (λ n.
    no_item g.T.Part.encodes (map portable items) i (portable item)
    (let long = length-map items portable in omega arith)
    (ap portable c.item-item.is ∙ sym (get_or-map portable items i item (portable item) (omega arith))) n)
    c.in_err-encode_part.ensures.too_long

pub loop-item-preserved : goal.loop-item-preserved
loop-item-preserved g c =
    let portable = g.T.Part.portable (λ ty. symbol (g.N.GivesIds.id_of c.args.ids.now ty)) in
    let items = c.args.items.now in
    let i = c.loop-item.item-index in
    let item = c.item-item.result in
    appends_item g.T.Part.encodes _ _ _ _ _ _
    (map_more portable items i item (omega arith)
    ∙ ap (λ t. map portable (take i items) ++ portable t ∷ []) (sym c.item-item.is))
    c.loop-item.invariant c.in_ok-encode_part.ensures.ok

pub returns-in_err-encode_part-clause-err : goal.returns-in_err-encode_part-clause-err
returns-in_err-encode_part-clause-err g c =
    err_is c.from_residual.result (before c.loop-item.invariant c.in_err-encode_part.ensures.err)
