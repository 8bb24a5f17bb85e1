-- What comes of decoding bytes.
use Rattle.std.specs.Prelude.{◌≡◌, ℕ, List, [], ◌∷◌}
use Rattle.std.specs.Borrow.{Bor}
use Rattle.scale_info_value.specs.declared.value.Failure.{Failure}
use Rattle.scale_info_value.specs.declared.value.Failure.TheVariants as failure
use Rattle.scale_info_value.specs.declared.value.ValueError.{ValueError}
use Rattle.scale_info_value.specs.declared.value.ValueError.TheVariants as error

-- an id is no index of the table
abbrev pub no_such_type : Failure
no_such_type = failure.NoSuchType

-- values of a type are not decoded
abbrev pub unsupported : Failure
unsupported = failure.Unsupported

-- a value is more than 128 deep
abbrev pub too_deep : Failure
too_deep = failure.TooDeep

-- no prefix of the bytes is a value of the type
abbrev pub malformed : Failure
malformed = failure.Malformed

-- a value and the rest of the bytes, or why there is none
pub data Outcome (A : Type 0) : Type 0 where
  decoded : A → List ℕ → Outcome A
  failed : Failure → Outcome A

-- what comes of each list of bytes
abbrev pub Decoder : Type 0 → Type 0
Decoder A = List ℕ → Outcome A

-- goes on with the value and the rest; a failure stays
abbrev pub and_then : {A B : Type 0} → Outcome A → (A → Decoder B) → Outcome B
and_then (decoded value rest) next = next value rest
and_then (failed why) next = failed why

-- the outcome with a function applied to its value
abbrev pub outcome_map : {A B : Type 0} → (A → B) → Outcome A → Outcome B
outcome_map f (decoded value rest) = decoded (f value) rest
outcome_map f (failed why) = failed why

-- one decoder after another, each on the rest that the one before left; the first failure counts
abbrev pub in_turn : {A : Type 0} → List (Decoder A) → Decoder (List A)
in_turn [] input = decoded [] input
in_turn (first ∷ more) input =
    and_then (first input)
    (λ value rest. outcome_map (λ values. value ∷ values) (in_turn more rest))

-- what was returned is the value of the outcome, and the rest
abbrev pub IsValueOf : {A : Type 0} → Outcome A → A × Bor (List ℕ) → Type 0
IsValueOf outcome found = outcome ≡ decoded found.0 found.1.now

-- the error is the failure of the outcome; a failed allocation says nothing of the bytes
abbrev pub IsErrorOf : {A : Type 0} → Outcome A → ValueError → Type 0
IsErrorOf outcome error.NoSuchType = outcome ≡ failed no_such_type
IsErrorOf outcome error.Unsupported = outcome ≡ failed unsupported
IsErrorOf outcome error.TooDeep = outcome ≡ failed too_deep
IsErrorOf outcome error.Malformed = outcome ≡ failed malformed
IsErrorOf outcome error.Memory = Unit {0}

-- the failure as an error
abbrev pub error_of : Failure → ValueError
error_of failure.NoSuchType = error.NoSuchType
error_of failure.Unsupported = error.Unsupported
error_of failure.TooDeep = error.TooDeep
error_of failure.Malformed = error.Malformed
