use Rattle.scale_info_calls.proofs.Values.{no_value}
use Rattle.scale_info_calls.proofs.value.text_of.Goals as goal

pub returns-clause-err : goal.returns-clause-err
returns-clause-err c =
    no_value c.args.input.now c.args.id c.args.value.now c.in_ok-registry.registry.types
    c.error_of.result c.in_ok-registry.ensures.ok (c.error_of.ensures _ c.in-Err.ensures.err)
