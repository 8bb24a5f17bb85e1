-- What an error that is passed on by `?` says.
use Rattle.std.proofs.Common.{◌≡◌, ℕ, ◌<◌, List, replicate, Result, Ok, Err, sym, subst}
use Rattle.std.specs.Prelude.{IfErr}
use Rattle.std.specs.Result.{IsErrAnd}
use Rattle.scale_info_value.specs.declared.value.Failure.{Failure}
use Rattle.scale_info_value.specs.declared.value.Failure.TheVariants as failure
use Rattle.scale_info_value.specs.declared.value.ValueError.{ValueError}
use Rattle.scale_info_value.specs.Outcomes.{Outcome, Decoder, failed, in_turn, error_of, IsErrorOf}
use Rattle.scale_info_value.proofs.InOrder.{passes, Done, done_fails}

-- an error of a part is an error of the whole
pub passed :
    {X A B : Type 0} (r : Result X ValueError) (e : ValueError) → IsErrAnd r (λ d. d ≡ e)
    → (part : Outcome A) (whole : Outcome B)
    → ((why : Failure) → part ≡ failed why → whole ≡ failed why) → IsErrorOf part e → IfErr r (IsErrorOf whole)
passed (Ok x) e h part whole f p = tt
passed (Err d) e h part whole f p = passes part whole d f (subst (λ t. IsErrorOf part t) (sym h) p)

-- the next of so many fails, and so do all
pub repeat_fails :
    {X A : Type 0} (count : ℕ) (read : Decoder A) (input : List ℕ) (k : ℕ) (done : List A) (rest : List ℕ)
    (r : Result X ValueError) (e : ValueError)
    → IsErrAnd r (λ d. d ≡ e) → k < count → Done count read input k done rest → IsErrorOf (read rest) e
    → IfErr r (IsErrorOf (in_turn (replicate count read) input))
repeat_fails count read input k done rest r e h less so_far f =
    passed r e h (read rest) (in_turn (replicate count read) input)
    (λ why g. done_fails count read input k done rest why less so_far g) f

-- a failure is the error that it becomes
fails_as : {A : Type 0} (whole : Outcome A) (why : Failure) → whole ≡ failed why → IsErrorOf whole (error_of why)
fails_as whole failure.NoSuchType f = f
fails_as whole why f = f

-- the failure of the whole, passed on as an error
pub failed_as :
    {X A : Type 0} (r : Result X ValueError) (why : Failure) → IsErrAnd r (λ d. d ≡ error_of why)
    → (whole : Outcome A) → whole ≡ failed why → IfErr r (IsErrorOf whole)
failed_as (Ok x) why h whole f = tt
failed_as (Err d) why h whole f = subst (λ t. IsErrorOf whole t) (sym h) (fails_as whole why f)
