use Rattle.std.proofs.Common.{map, ◌∙◌}
use Rattle.std.proofs.lemmas.List.{length-map}
use Rattle.scale_info_bytes.proofs.Errors.{passed_malformed}
use Rattle.scale_info_bytes.proofs.Lists.{prefix_list, no_count, no_items_after}
use Rattle.scale_info_description_codec.proofs.list.ItemsDecodePart.decode_part.Goals as goal

pub returns-in-None-clause-malformed : goal.returns-in-None-clause-malformed
returns-in-None-clause-malformed g c = no_count g.T.Part.encodes _ c.in-None.ensures.none

pub returns-in_err-values-in-Some-clause-malformed :
    goal.returns-in_err-values-in-Some-clause-malformed
returns-in_err-values-in-Some-clause-malformed g c =
    passed_malformed c.from_residual.result c.in_err-values-in-Some.field-0.0
    c.from_residual.ensures.1
    (no_items_after g.T.Part.encodes _ _ _ c.in-Some.ensures.some)
    c.in_err-values-in-Some.ensures.malformed

pub returns-in_ok-values-in-Some-clause-ok : goal.returns-in_ok-values-in-Some-clause-ok
returns-in_ok-values-in-Some-clause-ok g c =
    prefix_list g.T.Part.encodes (map (g.T.Part.portable g.F.IdForm.id_of) c.in_ok-values-in-Some.values) _ _ _ _
    (length-map c.in_ok-values-in-Some.values (g.T.Part.portable g.F.IdForm.id_of) ∙ c.in_ok-values-in-Some.ensures.count)
    c.in-Some.ensures.some c.in_ok-values-in-Some.ensures.ok
