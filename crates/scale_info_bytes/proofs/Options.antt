-- What is said of an option that is returned as it is.
use Rattle.std.proofs.Common.{Option, Some, None}
use Rattle.std.specs.Prelude.{IfSome, IfNone}

-- what follows from what is said of the value that is there
pub some_on :
    {X : Type 0} {P Q : X → Type 0} (r : Option X) → ((x : X) → P x → Q x) → IfSome r P → IfSome r Q
some_on None f p = tt
some_on (Some x) f p = f x p

-- what follows from what is said where no value is there
pub none_on : {X : Type 0} {P Q : Type 0} (r : Option X) → (P → Q) → IfNone r P → IfNone r Q
none_on None f p = f p
none_on (Some x) f p = tt

-- what holds in any case
pub none_is : {X : Type 0} {Q : Type 0} (r : Option X) → Q → IfNone r Q
none_is None q = q
none_is (Some x) q = tt
