-- A call with another amount.
use Rattle.std.specs.Prelude.{◌≡◌, ℕ, List, [], Option, map, cond}
use Rattle.scale_info.specs.Types.{PortableRegistry, Value}
use Rattle.scale_info.specs.Outcomes.{decoded}
use Rattle.scale_info.specs.Readings.{reading}
use Rattle.scale_info_value.specs.declared.value.Value.TheVariants as Values
use Rattle.example_callers.specs.Transfers.{is_amount}

-- the name and the value of a field, with this amount if the field is one
abbrev pub with_amount : ℕ → Option (List ℕ) × Value → Option (List ℕ) × Value
with_amount amount field = (field.0, cond (is_amount field.0) (Values.Unsigned amount) field.1)

-- two calls are one but for their amounts, and those of the second are this one
pub record HasAmount (amount : ℕ) (old new : Value) : Type 0 where
  pub name : List ℕ
  pub index : ℕ
  pub fields : List (Option (List ℕ) × Value)
  pub before : old ≡ Values.Variant name index fields
  pub after : new ≡ Values.Variant name index (map (with_amount amount) fields)

-- the input is a call, and the output is that call with this amount
pub record IsCallWith (table : PortableRegistry) (id amount : ℕ) (input output : List ℕ)
    : Type 0 where
  pub old : Value
  pub new : Value
  pub changed : HasAmount amount old new
  pub was_read : reading table id 1 input ≡ decoded old []
  pub is_read : reading table id 1 output ≡ decoded new []
