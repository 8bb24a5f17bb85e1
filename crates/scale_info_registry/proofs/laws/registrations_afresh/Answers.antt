use Rattle.std.proofs.Common.{[], ◌∷◌}
use Rattle.scale_info_registry.specs.Registrations.{last_step, registered, step_roots}
use Rattle.scale_info_registry.proofs.Composed.{registered_afresh}
use Rattle.scale_info_registry.proofs.Steps.{all_steps}
use Rattle.scale_info_registry.proofs.laws.registrations_afresh.Goals as goal

pub returns : goal.returns
returns c = λ first later r steps long.
    registered_afresh (last_step first later).catalogue (step_roots (first ∷ later)) (last_step first later).registry
    (all_steps (registered [] []) first.roots first later r steps) long
