-- The text of a path.
use Rattle.std.specs.Prelude.{ℕ, List, [], ◌∷◌, ◌++◌, codes}
use Rattle.std.specs.Fmt.{decimal}
use Rattle.scale_info_value_encode.specs.declared.path.Step.{Step}
use Rattle.scale_info_value_encode.specs.declared.path.Step.TheVariants as step

-- the name, or the index in decimal digits
abbrev pub step_text : Step → List ℕ
step_text (step.Field name) = name
step_text (step.Index index) = decimal index

-- the steps, each after a dot
abbrev pub dotted : List Step → List ℕ
dotted [] = []
dotted (s ∷ more) = codes "." ++ (step_text s ++ dotted more)

-- the steps with dots between them, and `value` where there is none
abbrev pub path_text : List Step → List ℕ
path_text [] = codes "value"
path_text (first ∷ more) = step_text first ++ dotted more
