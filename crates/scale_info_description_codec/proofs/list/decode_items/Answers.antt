use Rattle.std.proofs.Common.{[], ap, arith, length-append, map, ◌∙◌, ◌∷◌}
use Rattle.std.proofs.lemmas.List.{length-map, map-append}
use Rattle.scale_info_bytes.proofs.Errors.{passed_malformed}
use Rattle.scale_info_bytes.proofs.Steps.{prefix_item, no_next}
use Rattle.scale_info_description_codec.proofs.list.decode_items.Goals as goal

pub returns-in_err-value-clause-malformed : goal.returns-in_err-value-clause-malformed
returns-in_err-value-clause-malformed g c =
    let owned = (g.T.Part.portable g.F.IdForm.id_of) in
    let values = c.loop.values in
    passed_malformed c.from_residual.result c.in_err-value.field-0.0 c.from_residual.ensures.1
    (λ n.
    no_next g.T.Part.encodes g.T.Part.law (map owned values) c.args.input.now
    c.loop.rest.now c.args.count (let long = length-map values owned in omega arith)
    c.loop.invariant.read n)
    c.in_err-value.ensures.malformed

pub loop-preserved : goal.loop-preserved
loop-preserved g c =
    let owned = (g.T.Part.portable g.F.IdForm.id_of) in
    record {
      count =
          rw c.in_ok-push_towards.ensures.list
          (omega (arith, length-append c.loop.values (c.in_ok-value.value ∷ [])));
      read =
          prefix_item g.T.Part.encodes _ _ _ _ _ _
          (ap (map owned) c.in_ok-push_towards.ensures.list
          ∙ map-append owned c.loop.values (c.in_ok-value.value ∷ []))
          c.loop.invariant.read c.in_ok-value.ensures.ok;
    }
