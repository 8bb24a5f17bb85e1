-- What an error that is passed on by `?` says.
use Rattle.std.proofs.Common.{◌≡◌, Result, Ok, Err, sym, subst}
use Rattle.std.specs.Prelude.{IfErr}
use Rattle.std.specs.Result.{IsErrAnd}
use Rattle.scale_info_bytes.specs.declared.error.EncodeError.{EncodeError}
use Rattle.scale_info_bytes.specs.declared.error.EncodeError.TheVariants as encode
use Rattle.scale_info_bytes.specs.declared.error.DecodeError.{DecodeError}
use Rattle.scale_info_bytes.specs.declared.error.DecodeError.TheVariants as decode
use Rattle.scale_info_bytes.specs.Encodings.{IfTooLong, IfMalformed}

-- what a Malformed error says is replaced by what follows from it
pub malformed_on : {P Q : Type 0} (e : DecodeError) → (P → Q) → IfMalformed P e → IfMalformed Q e
malformed_on decode.Malformed f p = f p
malformed_on decode.Memory f p = tt

-- what a TooLong error says is replaced by what follows from it
pub too_long_on : {P Q : Type 0} (e : EncodeError) → (P → Q) → IfTooLong P e → IfTooLong Q e
too_long_on encode.TooLong f p = f p
too_long_on encode.Memory f p = tt

-- an error of decoding that is passed on says what follows from what it said before
pub passed_malformed :
    {A : Type 0} {P Q : Type 0} (r : Result A DecodeError) (e : DecodeError)
    → IsErrAnd r (λ d. d ≡ e) → (P → Q) → IfMalformed P e → IfErr r (IfMalformed Q)
passed_malformed (Ok x) e h f p = tt
passed_malformed {P = P} (Err d) e h f p = malformed_on d f (subst (λ t. IfMalformed P t) (sym h) p)

-- an error of encoding that is passed on says what follows from what it said before
pub passed_too_long :
    {A : Type 0} {P Q : Type 0} (r : Result A EncodeError) (e : EncodeError)
    → IsErrAnd r (λ d. d ≡ e) → (P → Q) → IfTooLong P e → IfErr r (IfTooLong Q)
passed_too_long (Ok x) e h f p = tt
passed_too_long {P = P} (Err d) e h f p = too_long_on d f (subst (λ t. IfTooLong P t) (sym h) p)

-- equal results report TooLong alike, for a fact and for what follows from it
pub same_too_long :
    {A : Type 0} {P Q : Type 0} (r s : Result A EncodeError) → r ≡ s → (P → Q)
    → IfErr s (IfTooLong P) → IfErr r (IfTooLong Q)
same_too_long {P} {Q} r (Ok x) e f p = subst (λ t. IfErr t (IfTooLong Q)) (sym e) tt
same_too_long {P} {Q} r (Err d) e f p =
    subst (λ t. IfErr t (IfTooLong Q)) (sym e) (too_long_on d f p)
