-- What an error that is passed on by `?` says.
use Rattle.std.proofs.Common.{◌≡◌, Result, Ok, Err, sym, subst}
use Rattle.std.proofs.lemmas.Result.{err_from_is_err_and}
use Rattle.std.specs.Prelude.{IfErr}
use Rattle.std.specs.Result.{IsErrAnd}
use Rattle.scale_info_json_text.specs.declared.stop.Stop.{Stop}
use Rattle.scale_info_json_text.specs.declared.stop.Stop.TheVariants as stop
use Rattle.scale_info_json_text.specs.Readings.{IfSyntax}

-- what the error of a result says may be weakened
pub syntax_weaker :
    {A : Type 0} {P Q : Type 0} (r : Result A Stop) → (P → Q) → IfErr r (IfSyntax P)
    → IfErr r (IfSyntax Q)
syntax_weaker (Ok x) f p = tt
syntax_weaker (Err stop.Syntax) f p = f p
syntax_weaker (Err stop.Memory) f p = tt

-- an error that is passed on by `?` says the same
pub passed_syntax :
    {A : Type 0} {P Q : Type 0} (r : Result A Stop) (e : Stop) → IsErrAnd r (λ d. d ≡ e)
    → (P → Q) → IfSyntax P e → IfErr r (IfSyntax Q)
passed_syntax {P = P} r e h f p =
    let d = err_from_is_err_and r h in
    let same = subst (λ y. IfSyntax P y) (sym d.2) p in
    syntax_weaker r f (subst (λ x. IfErr x (IfSyntax P)) (sym d.1) same)

-- what is so anyway is so where the text is no JSON
pub syntax_anyway : {A : Type 0} {P : Type 0} (r : Result A Stop) → P → IfErr r (IfSyntax P)
syntax_anyway (Ok x) p = tt
syntax_anyway (Err stop.Syntax) p = p
syntax_anyway (Err stop.Memory) p = tt
