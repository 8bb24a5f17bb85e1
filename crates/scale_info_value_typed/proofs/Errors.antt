-- Errors that are passed on by `?`.
use Rattle.std.proofs.Common.{◌≡◌, Option, None, Result, Ok, Err, sym, subst}
use Rattle.std.specs.Prelude.{IfErr}
use Rattle.std.specs.Result.{IsErrAnd}
use Rattle.scale_info_value_typed.specs.declared.error.ConvertError.{ConvertError}
use Rattle.scale_info_value_typed.specs.declared.error.ConvertError.TheVariants as convert
use Rattle.scale_info_value_typed.specs.ConvertErrors.{IsMissing}

-- the error of a part is that of the whole, which is missing where the part is
passes :
    {A B : Type 0} (part : Option A) (whole : Option B) (e : ConvertError)
    → (part ≡ None → whole ≡ None) → IsMissing part e → IsMissing whole e
passes part whole convert.Mismatch f p = f p
passes part whole convert.Memory f p = tt

-- and so where it is passed on
pub passed :
    {X A B : Type 0} (r : Result X ConvertError) (e : ConvertError) → IsErrAnd r (λ d. d ≡ e)
    → (part : Option A) (whole : Option B) → (part ≡ None → whole ≡ None) → IsMissing part e
    → IfErr r (IsMissing whole)
passed (Ok x) e h part whole f p = tt
passed (Err d) e h part whole f p = passes part whole d f (subst (λ t. IsMissing part t) (sym h) p)

-- and so where it is returned
pub returned :
    {X A B : Type 0} (r : Result X ConvertError) (part : Option A) (whole : Option B) → (part ≡ None → whole ≡ None)
    → IfErr r (IsMissing part) → IfErr r (IsMissing whole)
returned (Ok x) part whole f p = tt
returned (Err e) part whole f p = passes part whole e f p
