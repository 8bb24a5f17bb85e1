use Rattle.std.proofs.Common.{◌≡◌, ℕ, List, Option, ◌+◌, ◌∷◌, [], option_map, ap, sym, ◌∙◌, length, length-append}
use Rattle.scale_info_value.specs.declared.value.Value.{Value}
use Rattle.scale_info_value_typed.specs.Meanings.{all_of, and_others}
use Rattle.scale_info_value_typed.specs.Places.{part_at}
use Rattle.scale_info_value_typed.proofs.Errors.{returned}
use Rattle.scale_info_value_typed.proofs.TupleParts.{others_missing}
use Rattle.scale_info_value_typed.proofs.members.Tuple2RefMemberValues.append_values.Goals as goal

pub returns-clause-err : goal.returns-clause-err
returns-clause-err g c =
    let others : ℕ → Option (List Value) = λ n. all_of (g.B.MemberValues.values_at (g.D.Definitions.table c.args.table.now) c.args.place n c.args.self.now.1) in
    let first = g.A.EncodeAs.value_at (g.D.Definitions.table c.args.table.now) (part_at (g.D.Definitions.table c.args.table.now) c.args.place (length c.args.values.now)) c.args.self.now.0.now in
    let more : length c.push.new.self ≡ length c.args.values.now + 1 =
    ap length c.in_ok-push.ensures.list ∙ length-append c.args.values.now (c.in_ok-first.first ∷ []) in
    returned c.append_values.result (others (length c.push.new.self))
    (option_map (λ both. both.0 ∷ both.1) (and_others first (others (length c.args.values.now + 1))))
    (λ none. others_missing first (others (length c.args.values.now + 1)) (ap others (sym more) ∙ none)) c.append_values.ensures.err
