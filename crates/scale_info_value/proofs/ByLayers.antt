-- What holds of each layer of values holds of every value.
use Rattle.std.proofs.Common.{subst}
use Rattle.scale_info_value.specs.declared.value.Value.{Value}
use Rattle.scale_info_value.specs.declared.value.Value.TheOpen.{Value-F}
use Rattle.scale_info_value.specs.declared.value.Value.TheViews.{roll-Value}
use Rattle.scale_info_value.specs.declared.value.Value.TheFolds.{ind-Value, map-Value}

-- a value of which something is known
abbrev pub Known : (Value → Type 0) → Type 0
Known P = (d : Value) × P d

-- a layer of such values
abbrev pub lower : (P : Value → Type 0) → Value-F (Known P) → Value-F Value
lower P y = map-Value (Known P) Value (λ e. e.0) y

-- what holds of each layer of values of which it is known holds of every value
pub by_layers :
    (P : Value → Type 0) → ((y : Value-F (Known P)) → P (roll-Value (lower P y))) → (d : Value) → P d
by_layers P layers = ind-Value P (λ x y joined. subst (λ z. P (roll-Value z)) joined (layers y))
