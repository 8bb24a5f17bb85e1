-- Values of primitive types, as values.
use Rattle.std.specs.Prelude.{FitsSigned}
use Rattle.std.specs.Int.{w128}
use Rattle.scale_info_value.specs.declared.value.Value.{Value}
use Rattle.scale_info_value.specs.declared.value.Value.TheVariants as Values
use Rattle.scale_info_value.specs.declared.primitive.PrimitiveValue.{PrimitiveValue}
use Rattle.scale_info_value.specs.declared.primitive.PrimitiveValue.TheVariants as primitive_value

-- the value that has no parts
abbrev pub owned_value : PrimitiveValue → Value
owned_value (primitive_value.Bool b) = Values.Bool b
owned_value (primitive_value.Unsigned n) = Values.Unsigned n
owned_value (primitive_value.Signed n) = Values.Signed n
owned_value (primitive_value.Text t) = Values.Text t.now

-- an integer with a sign has no more than 128 bits
abbrev pub IsInRange : PrimitiveValue → Type 0
IsInRange (primitive_value.Signed n) = FitsSigned w128 n
IsInRange _ = Unit {0}
