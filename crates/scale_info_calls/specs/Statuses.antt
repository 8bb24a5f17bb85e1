-- What a call returns, as numbers.
use Rattle.std.specs.Prelude.{ℕ, Result, Ok, Err}
use Rattle.scale_info_calls.specs.declared.error.CallError.{CallError}
use Rattle.scale_info_calls.specs.declared.error.CallError.TheVariants as errors

-- the status of an error
abbrev pub status_of_error : CallError → ℕ
status_of_error errors.Malformed = 1
status_of_error errors.TrailingBytes = 2
status_of_error (errors.NoSuchType id) = 3
status_of_error (errors.Dangling id) = 4
status_of_error errors.Memory = 5
status_of_error (errors.NoRoom wanted) = 6
status_of_error (errors.Version version) = 7
status_of_error errors.NoText = 8
status_of_error errors.NoJson = 9
status_of_error errors.Unsupported = 10
status_of_error errors.TooDeep = 11
status_of_error errors.MalformedValue = 12
status_of_error errors.TrailingValue = 13
status_of_error errors.Mismatch = 14

-- the number that goes with an error
abbrev pub count_of_error : CallError → ℕ
count_of_error errors.Malformed = 0
count_of_error errors.TrailingBytes = 0
count_of_error (errors.NoSuchType id) = id
count_of_error (errors.Dangling id) = id
count_of_error errors.Memory = 0
count_of_error (errors.NoRoom wanted) = wanted
count_of_error (errors.Version version) = version
count_of_error errors.NoText = 0
count_of_error errors.NoJson = 0
count_of_error errors.Unsupported = 0
count_of_error errors.TooDeep = 0
count_of_error errors.MalformedValue = 0
count_of_error errors.TrailingValue = 0
count_of_error errors.Mismatch = 0

-- what a call returned: how much it gives, or why it gives nothing
abbrev pub Outcome : Type 0
Outcome = Result ℕ CallError

-- its status
abbrev pub status_of : Outcome → ℕ
status_of (Ok count) = 0
status_of (Err error) = status_of_error error

-- its count
abbrev pub count_of : Outcome → ℕ
count_of (Ok count) = count
count_of (Err error) = count_of_error error
