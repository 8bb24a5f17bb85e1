use Rattle.std.proofs.Common.{◌≡◌, ◌∷◌, [], false, sym, subst, ◌∙◌, refl}
use Rattle.std.specs.Prelude.{OnOk, IfErr}
use Rattle.scale_info_value_visit.specs.Events.{begin_list, end_list, is_byte, definition_at, list_events}
use Rattle.scale_info_value_visit.specs.Visits.{StopsWithin}
use Rattle.scale_info_value_visit.proofs.Visiting.{on_ok_after, within_after}
use Rattle.scale_info_value_visit.proofs.visit.empty_list.Goals as goal

pub returns-clause-ok : goal.returns-clause-ok
returns-clause-ok g c =
    let other : is_byte (definition_at (g.T.Definitions.table c.args.table.now) c.args.ty.now.id) ≡ false = sym c.is_byte_at.ensures ∙ c.if-is_byte_at.false in
    subst (λ b. OnOk c.end_list.result (g.V.ValueVisitor.visited (list_events b []) c.args.visitor.now c.end_list.new.self)) (sym other)
    (on_ok_after c.end_list.result (λ p. g.met.V.ValueVisitor.visited_append (begin_list 0 ∷ []) (end_list ∷ []) _ _ _
    c.in_ok-begin_list.ensures.ok p) c.end_list.ensures.ok)

pub returns-clause-err : goal.returns-clause-err
returns-clause-err g c =
    let other : is_byte (definition_at (g.T.Definitions.table c.args.table.now) c.args.ty.now.id) ≡ false = sym c.is_byte_at.ensures ∙ c.if-is_byte_at.false in
    subst (λ b. IfErr c.end_list.result (λ e. StopsWithin g.V.ValueVisitor.stopped (list_events b []) c.args.visitor.now e c.end_list.new.self)) (sym other)
    (within_after c.end_list.result (λ e p. record {
      shown = begin_list 0 ∷ end_list ∷ [];
      stopped = g.met.V.ValueVisitor.stopped_later (begin_list 0 ∷ []) (end_list ∷ []) _ _ e _ c.in_ok-begin_list.ensures.ok p;
      first = record { rest = []; parts = refl };
    }) c.end_list.ensures.err)
