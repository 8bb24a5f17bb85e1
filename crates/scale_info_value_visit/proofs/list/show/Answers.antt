use Rattle.std.proofs.lemmas.Int.{to_z-of_z}
use Rattle.std.specs.Int.{w128}
use Rattle.std.proofs.Common.{◌∷◌, [], subst}
use Rattle.scale_info_value_visit.specs.Events.{signed}
use Rattle.scale_info_value_visit.specs.Visits.{HasReturned}
use Rattle.scale_info_value.specs.PrimitiveValues.{IsInRange}
use Rattle.scale_info_value.specs.declared.primitive.PrimitiveValue.TheVariants as primitive_value
use Rattle.scale_info_value_visit.proofs.Events.{truth_events, unsigned_events, signed_events, text_events}
use Rattle.scale_info_value_visit.proofs.Visiting.{returned}
use Rattle.scale_info_value_visit.proofs.list.show.Goals as goal

pub returns-in-Bool : goal.returns-in-Bool
returns-in-Bool g c =
    rw (c.in-Bool.is, truth_events c.in-Bool.v)
    (returned g.V.ValueVisitor.visited g.V.ValueVisitor.stopped _ _ _ c.truth.result c.truth.ensures.ok c.truth.ensures.err)

pub returns-in-Unsigned : goal.returns-in-Unsigned
returns-in-Unsigned g c =
    rw (c.in-Unsigned.is, unsigned_events c.in-Unsigned.v)
    (returned g.V.ValueVisitor.visited g.V.ValueVisitor.stopped _ _ _ c.unsigned.result c.unsigned.ensures.ok c.unsigned.ensures.err)

pub returns-in-Signed : goal.returns-in-Signed
returns-in-Signed g c =
    let n = c.in-Signed.v in
    let fits : IsInRange (primitive_value.Signed n) = subst IsInRange c.in-Signed.is c.requires in
    rw (c.in-Signed.is, signed_events n)
    (subst (λ m. HasReturned g.V.ValueVisitor.visited g.V.ValueVisitor.stopped (signed m ∷ []) c.args.visitor.now c.signed.new.self c.signed.result)
    (to_z-of_z w128 n fits)
    (returned g.V.ValueVisitor.visited g.V.ValueVisitor.stopped _ _ _ c.signed.result c.signed.ensures.ok c.signed.ensures.err))

pub returns-in-Text : goal.returns-in-Text
returns-in-Text g c =
    rw (c.in-Text.is, text_events c.in-Text.v.now)
    (returned g.V.ValueVisitor.visited g.V.ValueVisitor.stopped _ _ _ c.text.result c.text.ensures.ok c.text.ensures.err)
