-- What an error that is passed on by `?` says.
use Rattle.std.proofs.Common.{◌≡◌, Result, Ok, Err, sym, subst}
use Rattle.std.specs.Prelude.{IfErr}
use Rattle.std.specs.Result.{IsErrAnd}
use Rattle.scale_info_json_tree.specs.declared.error.JsonError.{JsonError}
use Rattle.scale_info_json_tree.specs.declared.error.JsonError.TheVariants as error
use Rattle.scale_info_json_tree.specs.JsonErrors.{IfShape}

shape_on : {P Q : Type 0} (e : JsonError) → (P → Q) → IfShape P e → IfShape Q e
shape_on error.Shape f p = f p
shape_on error.Memory f p = tt

-- an error that is passed on by `?` says the same
pub passed_shape :
    {A : Type 0} {P Q : Type 0} (r : Result A JsonError) (e : JsonError) → IsErrAnd r (λ d. d ≡ e)
    → (P → Q) → IfShape P e → IfErr r (IfShape Q)
passed_shape (Ok x) e h f p = tt
passed_shape {P = P} (Err d) e h f p = shape_on d f (subst (λ t. IfShape P t) (sym h) p)

-- what an error says may be weakened
pub shape_weaker :
    {A : Type 0} {P Q : Type 0} (r : Result A JsonError) → (P → Q) → IfErr r (IfShape P)
    → IfErr r (IfShape Q)
shape_weaker (Ok x) f p = tt
shape_weaker (Err d) f p = shape_on d f p
