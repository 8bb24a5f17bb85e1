-- Equality of errors decides whether they are one value.
use Rattle.std.proofs.Common.{◌≡◌, ◌==◌, ℕ, List, refl, ap}
use Rattle.std.specs.Bool.{Decides}
use Rattle.std.proofs.lemmas.Bool.Decides.{Decides-eqb}
use Rattle.std.proofs.lemmas.Slice.Eq.{slice_eq-Decides}
use lib.Pointwise.{pointwise}
use Rattle.scale_info_value_encode.specs.declared.path.Step.{Step}
use Rattle.scale_info_value_encode.specs.declared.path.Step.TheVariants as step
use Rattle.scale_info_value_encode.specs.contracts.path.StepPartialEq.TheImpl.{ghosts as steps}
use Rattle.scale_info_value_encode.specs.declared.error.EncodeValueError.{EncodeValueError}
use Rattle.scale_info_value_encode.specs.declared.error.EncodeValueError.TheVariants as error
use Rattle.scale_info_value_encode.specs.contracts.error.EncodeValueErrorPartialEq.TheImpl.{ghosts as errors}

-- names are equal where they are one
same_name : (a b : List ℕ) → Decides (pointwise ◌==◌ a b) (a ≡ b)
same_name a b = slice_eq-Decides Decides-eqb a b (pointwise ◌==◌ a b) refl

-- steps are equal where they are one
same_step : (a b : Step) → Decides (steps.eq a b) (a ≡ b)
same_step (step.Field a) (step.Field b) =
    let d = same_name a b in (λ h. ap step.Field (d.0 h), λ e. d.1 (let same : a ≡ b = cc in same))
same_step (step.Field a) (step.Index n) = (λ h. cc, λ e. cc)
same_step (step.Index m) (step.Field b) = (λ h. cc, λ e. cc)
same_step (step.Index m) (step.Index n) =
    let d = Decides-eqb m n in (λ h. ap step.Index (d.0 h), λ e. d.1 (let same : m ≡ n = cc in same))

-- paths are equal where they are one
same_steps : (a b : List Step) → Decides (pointwise steps.eq a b) (a ≡ b)
same_steps a b = slice_eq-Decides same_step a b (pointwise steps.eq a b) refl

-- errors are equal where they are one
pub same_error : (a b : EncodeValueError) → Decides (errors.eq a b) (a ≡ b)
same_error error.NoSuchType error.NoSuchType = (λ h. refl, λ e. refl)
same_error error.Unsupported error.Unsupported = (λ h. refl, λ e. refl)
same_error error.TooDeep error.TooDeep = (λ h. refl, λ e. refl)
same_error (error.Mismatch p) (error.Mismatch q) =
    let d = same_steps p.steps q.steps in
    (λ h. ap (λ s. error.Mismatch (record { steps = s })) (d.0 h), λ e. d.1 (let same : p ≡ q = cc in ap (λ x. x.steps) same))
same_error error.Memory error.Memory = (λ h. refl, λ e. refl)
same_error _ _ = (λ h. cc, λ e. cc)
