-- What an error of reading says.
use Rattle.scale_info_json_tree.specs.declared.error.JsonError.{JsonError}
use Rattle.scale_info_json_tree.specs.declared.error.JsonError.TheVariants as error

-- the fact, where the error is Shape
abbrev pub IfShape : Type 0 → JsonError → Type 0
IfShape P error.Shape = P
IfShape P error.Memory = Unit {0}
