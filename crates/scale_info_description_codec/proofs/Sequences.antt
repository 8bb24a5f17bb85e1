-- Parts that are encoded one after another.
use Rattle.std.proofs.Common.{◌≡◌, List, ℕ, ◌++◌, ◌∙◌, ap, append_assoc, Result, Ok, Err}
use Rattle.std.specs.Prelude.{IfErr, OnErr, OnOk}
use Rattle.scale_info_bytes.specs.declared.error.EncodeError.{EncodeError}
use Rattle.scale_info_bytes.specs.Encodings.{AppendsEncoding, IfTooLong, IsPrefix}
use Rattle.scale_info_bytes.proofs.Errors.{too_long_on}

-- what follows from what is said of an Ok
pub on_ok : {X E P Q : Type 0} (r : Result X E) → (P → Q) → OnOk r P → OnOk r Q
on_ok (Ok x) f p = f p
on_ok (Err e) f p = tt

-- what follows from what is said of an Err
pub on_err : {X E P Q : Type 0} (r : Result X E) → (P → Q) → OnErr r P → OnErr r Q
on_err (Ok x) f p = tt
on_err (Err e) f p = f p

-- what follows from what a TooLong error says
pub too_long_in :
    {X P Q : Type 0} (r : Result X EncodeError) → (P → Q) → IfErr r (IfTooLong P)
    → IfErr r (IfTooLong Q)
too_long_in (Ok x) f p = tt
too_long_in (Err e) f p = too_long_on e f p

-- what stood before an encoding still stands before what was appended after it
pub before :
    {P : List ℕ → Type 0} {a b c : List ℕ} → AppendsEncoding P a b → IsPrefix b c → IsPrefix a c
before {a = a} p q = record {
  rest = p.encoding ++ q.rest;
  parts = q.parts ∙ ap (λ t. t ++ q.rest) p.parts ∙ append_assoc a p.encoding q.rest;
}
