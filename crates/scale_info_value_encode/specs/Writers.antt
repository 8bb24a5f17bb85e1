-- What comes of encoding a value.
use Rattle.std.specs.Prelude.{◌≡◌, ℕ, ◌+◌, List, [], ◌∷◌, ◌++◌, Option, Some, None}
use Rattle.std.specs.Prelude.{Bool, if◌then◌else◌}
use Rattle.scale_info_bytes.specs.Encodings.{AppendsEncoding}
use Rattle.scale_info_types.specs.Portable.{Text}
use Rattle.scale_info_value_encode.specs.declared.path.Step.{Step}
use Rattle.scale_info_value_encode.specs.declared.path.Step.TheVariants as step
use Rattle.scale_info_value_encode.specs.declared.error.EncodeValueError.{EncodeValueError}
use Rattle.scale_info_value_encode.specs.declared.error.EncodeValueError.TheVariants as error

-- Why a value has no bytes: an id is no index of the table, values of a type are not encoded, a
-- value is more than 128 deep, or the part to which these steps lead is none of its type.
pub data Refusal : Type 0 where
  no_such_type : Refusal
  unsupported : Refusal
  too_deep : Refusal
  mismatch_at : List Step → Refusal

-- the value itself is none of the type
abbrev pub mismatch : Refusal
mismatch = mismatch_at []

-- the bytes of a value, or why it has none
pub data Written : Type 0 where
  written : List ℕ → Written
  refused : Refusal → Written

-- what comes of each value
abbrev pub Writer : Type 0 → Type 0
Writer A = A → Written

-- these bytes, if the test passes
abbrev pub if_fits : Bool → List ℕ → Written
if_fits test bytes = if test then written bytes else refused mismatch

-- the bytes of two values, one after the other; the first refusal counts
abbrev pub followed_by : Written → Written → Written
followed_by (written first) (written second) = written (first ++ second)
followed_by (written first) (refused why) = refused why
followed_by (refused why) second = refused why

-- the refusal of a part as that of the whole, where this step leads to the part
abbrev pub after : Step → Refusal → Refusal
after s no_such_type = no_such_type
after s unsupported = unsupported
after s too_deep = too_deep
after s (mismatch_at steps) = mismatch_at (s ∷ steps)

-- what comes of a part of a value, where this step leads to the part
abbrev pub of_part : Step → Written → Written
of_part s (written bytes) = written bytes
of_part s (refused why) = refused (after s why)

-- the step to the part at this place, which has this name, if it has one
abbrev pub step_to : ℕ → Option Text → Step
step_to place (Some name) = step.Field name
step_to place None = step.Index place

-- an item at its place
abbrev pub item : {A : Type 0} → Writer A → ℕ → Writer A
item write place value = of_part (step.Index place) (write value)

-- The values in order, of which the first has this place, each by the writer in its place; the
-- first refusal counts. Where there are more values than writers, or fewer, those that have both
-- come first.
abbrev pub in_turn : {A : Type 0} → ℕ → List (ℕ → Writer A) → Writer (List A)
in_turn place [] [] = written []
in_turn place [] (value ∷ values) = refused mismatch
in_turn place (first ∷ more) [] = refused mismatch
in_turn place (first ∷ more) (value ∷ values) =
    followed_by (first place value) (in_turn (place + 1) more values)

-- what was written was appended
abbrev pub Appends : Written → List ℕ → List ℕ → Type 0
Appends outcome old new = AppendsEncoding (λ bytes. outcome ≡ written bytes) old new

-- The error is the refusal of the value, and its path that of the part that is none of its type; a
-- failed allocation says nothing of the value.
abbrev pub IsErrorOf : Written → EncodeValueError → Type 0
IsErrorOf outcome error.NoSuchType = outcome ≡ refused no_such_type
IsErrorOf outcome error.Unsupported = outcome ≡ refused unsupported
IsErrorOf outcome error.TooDeep = outcome ≡ refused too_deep
IsErrorOf outcome (error.Mismatch path) = outcome ≡ refused (mismatch_at path.steps)
IsErrorOf outcome error.Memory = Unit {0}
