-- What is said of a result that is returned as it is.
use Rattle.std.proofs.Common.{Result, Ok, Err}
use Rattle.std.specs.Prelude.{IfOk, IfErr, OnErr}
use Rattle.scale_info_bytes.specs.declared.error.DecodeError.{DecodeError}
use Rattle.scale_info_bytes.specs.Encodings.{IfMalformed}
use Rattle.scale_info_bytes.proofs.Errors.{malformed_on}

-- what follows from what is said of the value
pub ok_on :
    {X E : Type 0} {P Q : X → Type 0} (r : Result X E) → ((x : X) → P x → Q x) → IfOk r P → IfOk r Q
ok_on (Ok x) f p = f x p
ok_on (Err e) f p = tt

-- what follows from what a Malformed error says
pub malformed_in :
    {X : Type 0} {P Q : Type 0} (r : Result X DecodeError) → (P → Q) → IfErr r (IfMalformed P)
    → IfErr r (IfMalformed Q)
malformed_in (Ok x) f p = tt
malformed_in (Err e) f p = malformed_on e f p

-- what holds in any case
pub err_is : {X E : Type 0} {Q : Type 0} (r : Result X E) → Q → OnErr r Q
err_is (Ok x) q = tt
err_is (Err e) q = q
