use Rattle.std.proofs.Common.{◌/◌, ◌-◌, length, take, drop, get_or, arith, refl, subst, IfNone}
use Rattle.scale_info_bytes.specs.Encodings.{HasPrefix, HasNoPrefix}
use Rattle.scale_info_bytes.specs.Integers.{EncodesCompact}
use Rattle.scale_info_bytes.proofs.CompactAt.{prefix_one, whole}
use Rattle.scale_info_bytes.proofs.integer.decode_compact.Goals as goal

pub returns-in-0-clause-some : goal.returns-in-0-clause-some
returns-in-0-clause-some c =
    let input = c.args.input.now in
    let after = take (length input - 1) (drop 1 input) in
    subst (λ t. HasPrefix (EncodesCompact (get_or input 0 0 / 4)) t after)
    (whole input (omega arith))
    (prefix_one _ (get_or input 0 0) after after (c.type_inv.input 0) (omega arith) refl refl)

pub returns-in-1-clause-none : goal.returns-in-1-clause-none
returns-in-1-clause-none c =
    subst (λ t. IfNone c.compact_of_two.result (HasNoPrefix EncodesCompact t))
    (whole c.args.input.now (omega arith)) c.compact_of_two.ensures.none

pub returns-in-2-clause-none : goal.returns-in-2-clause-none
returns-in-2-clause-none c =
    subst (λ t. IfNone c.compact_of_four.result (HasNoPrefix EncodesCompact t))
    (whole c.args.input.now (omega arith)) c.compact_of_four.ensures.none

pub returns-in_default-clause-none : goal.returns-in_default-clause-none
returns-in_default-clause-none c =
    subst (λ t. IfNone c.compact_of_five.result (HasNoPrefix EncodesCompact t))
    (whole c.args.input.now (omega arith)) c.compact_of_five.ensures.none
