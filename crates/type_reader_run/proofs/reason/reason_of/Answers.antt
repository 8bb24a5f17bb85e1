use Rattle.std.proofs.Common.{inl, inr, refl}
use Rattle.std.proofs.Math.Logic.{⊎_map}
use Rattle.type_reader_run.proofs.reason.reason_of.Goals as goal

pub returns-in-Ok-clause-ok : goal.returns-in-Ok-clause-ok
returns-in-Ok-clause-ok c = inl c.in-Ok.ensures.ok

pub returns-in-Err-Dangling-clause-ok : goal.returns-in-Err-Dangling-clause-ok
returns-in-Err-Dangling-clause-ok c =
    inr (
      (
        c.in-Err-Dangling.field-0-0,
        ⊎_map (λ own. own) (λ theirs. theirs.1) (rw c.in-Err-Dangling.field-0-is at c.in-Err-Dangling.ensures.cause),
      ),
      refl,
    )
