-- What a call returned, told by its status and its count.
use Rattle.std.proofs.Common.{◌≡◌, ◌∙◌, ℕ, ◌==◌, Ok, Err, IfErr, ap, refl, subst, sym}
use Rattle.std.proofs.Common.{if◌then◌else◌}
use Rattle.scale_info_calls.specs.Statuses.{Outcome, count_of, count_of_error, status_of}
use Rattle.scale_info_calls.specs.declared.error.CallError.{CallError}
use Rattle.scale_info_calls.specs.declared.error.CallError.TheVariants as errors

-- the outcome with this status and this count
abbrev pub outcome_by : (status count : ℕ) → Outcome
outcome_by status count =
    if status == 0 then Ok count
    else if status == 1 then Err errors.Malformed
    else if status == 2 then Err errors.TrailingBytes
    else if status == 3 then Err (errors.NoSuchType count)
    else if status == 4 then Err (errors.Dangling count)
    else if status == 5 then Err errors.Memory
    else if status == 6 then Err (errors.NoRoom count)
    else if status == 7 then Err (errors.Version count)
    else if status == 8 then Err errors.NoText
    else if status == 9 then Err errors.NoJson
    else if status == 10 then Err errors.Unsupported
    else if status == 11 then Err errors.TooDeep
    else if status == 12 then Err errors.MalformedValue
    else if status == 13 then Err errors.TrailingValue
    else Err errors.Mismatch

-- an outcome is the one with its status and its count
pub outcome_by-own : (outcome : Outcome) → outcome ≡ outcome_by (status_of outcome) (count_of outcome)
outcome_by-own (Ok count) = refl
outcome_by-own (Err errors.Malformed) = refl
outcome_by-own (Err errors.TrailingBytes) = refl
outcome_by-own (Err (errors.NoSuchType id)) = refl
outcome_by-own (Err (errors.Dangling id)) = refl
outcome_by-own (Err errors.Memory) = refl
outcome_by-own (Err (errors.NoRoom wanted)) = refl
outcome_by-own (Err (errors.Version version)) = refl
outcome_by-own (Err errors.NoText) = refl
outcome_by-own (Err errors.NoJson) = refl
outcome_by-own (Err errors.Unsupported) = refl
outcome_by-own (Err errors.TooDeep) = refl
outcome_by-own (Err errors.MalformedValue) = refl
outcome_by-own (Err errors.TrailingValue) = refl
outcome_by-own (Err errors.Mismatch) = refl

-- what a call returned, by the numbers that stand for it
pub record IsTold (outcome : Outcome) (status count : ℕ) : Type 0 where
  pub has_status : status ≡ status_of outcome
  pub has_count : count ≡ count_of outcome

-- so the outcome is that of a status that it has
pub outcome_at : (outcome : Outcome) (status count known : ℕ)
    → IsTold outcome status count → status ≡ known → outcome ≡ outcome_by known count
outcome_at outcome status count known told is =
    outcome_by-own outcome
    ∙ ap (λ s. outcome_by s (count_of outcome)) (sym told.has_status ∙ is)
    ∙ ap (outcome_by known) (sym told.has_count)

-- what holds of the error, and which count goes with it, at a status of an error
pub error_at : (P : CallError → Type 0) (outcome : Outcome) (status count known : ℕ) (error : CallError)
    → outcome_by known count ≡ Err error
    → IsTold outcome status count → IfErr outcome P → status ≡ known
    → P error × (count ≡ count_of_error error)
error_at P outcome status count known error by told holds is =
    let same : outcome ≡ Err error = outcome_at outcome status count known told is ∙ by in (
      subst (λ o. IfErr o P) same holds,
      told.has_count ∙ ap count_of same,
    )
