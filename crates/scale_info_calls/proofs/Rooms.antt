-- What a call says of the caller's room, by what it gives.
use Rattle.std.proofs.Common.{List, Ok, Err, IfErr, IfOk}
use Rattle.scale_info_calls.specs.Rooms.{Gives, Holds, IsShortFor, Refuses}
use Rattle.scale_info_calls.specs.Statuses.{Outcome}
use Rattle.scale_info_calls.specs.declared.error.CallError.{CallError}
use Rattle.scale_info_calls.specs.declared.error.CallError.TheVariants as errors

-- items that are an output, and are held, are given
pub given :
    {A : Type 0} (IsOutput : List A → Type 0) (outcome : Outcome) (items old new : List A)
    → IsOutput items → IfOk outcome (Holds items old new) → IfOk outcome (Gives IsOutput old new)
given IsOutput (Ok count) items old new is holds =
    record { output = items; is_output = is; holds = holds }
given IsOutput (Err error) items old new is holds = tt

-- items that are an output, and do not fit, are too long for the room
pub too_short :
    {A : Type 0} (IsOutput : List A → Type 0) (HasNone : CallError → Type 0) (outcome : Outcome)
    (items old : List A)
    → IsOutput items → IfErr outcome (IsShortFor items old)
    → IfErr outcome (Refuses IsOutput HasNone old)
too_short IsOutput HasNone (Ok count) items old is lacks = tt
too_short IsOutput HasNone (Err (errors.NoRoom wanted)) items old is lacks =
    record { output = items; is_output = is; lacks = lacks }
too_short IsOutput HasNone (Err errors.Malformed) items old is lacks = absurd lacks
too_short IsOutput HasNone (Err errors.TrailingBytes) items old is lacks = absurd lacks
too_short IsOutput HasNone (Err (errors.NoSuchType id)) items old is lacks = absurd lacks
too_short IsOutput HasNone (Err (errors.Dangling id)) items old is lacks = absurd lacks
too_short IsOutput HasNone (Err errors.Memory) items old is lacks = absurd lacks
too_short IsOutput HasNone (Err (errors.Version version)) items old is lacks = absurd lacks
too_short IsOutput HasNone (Err errors.NoText) items old is lacks = absurd lacks
too_short IsOutput HasNone (Err errors.NoJson) items old is lacks = absurd lacks
too_short IsOutput HasNone (Err errors.Unsupported) items old is lacks = absurd lacks
too_short IsOutput HasNone (Err errors.TooDeep) items old is lacks = absurd lacks
too_short IsOutput HasNone (Err errors.MalformedValue) items old is lacks = absurd lacks
too_short IsOutput HasNone (Err errors.TrailingValue) items old is lacks = absurd lacks
too_short IsOutput HasNone (Err errors.Mismatch) items old is lacks = absurd lacks
