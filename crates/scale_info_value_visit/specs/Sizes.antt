-- How many values there are in a value.
use Rattle.std.specs.Prelude.{◌+◌, ◌<◌, ◌≤◌, ℕ, List, [], ◌∷◌, ◌++◌, length}
use Rattle.std.specs.List.{sum, sum_by}
use Rattle.scale_info_value.specs.Outcomes.{Outcome}
use Rattle.scale_info_value.specs.declared.value.Value.{Value}
use Rattle.scale_info_value.specs.declared.value.Value.TheOpen.{Value-F}
use Rattle.scale_info_value.specs.declared.value.Value.TheOpen as layer
use Rattle.scale_info_value.specs.declared.value.Value.TheFolds.{fold-Value}
use Rattle.scale_info_value.specs.declared.value.Failure.{Failure}
use Rattle.scale_info_value_visit.specs.Events.{Event, truth, unsigned, signed, text, bytes, begin_list}
use Rattle.scale_info_value_visit.specs.Events.{begin_record, begin_variant}
use Rattle.scale_info_value_visit.specs.Visits.{BeginsWith, HasFailed, StopsWithin}
use Rattle.scale_info_value_visit.specs.declared.within.WithinError.{WithinError}
use Rattle.scale_info_value_visit.specs.declared.within.WithinError.TheVariants as error
use Rattle.scale_info_value_visit.specs.declared.within.Refusal.{Refusal}
use Rattle.scale_info_value_visit.specs.declared.within.Refusal.TheVariants as refusal

-- how many values there are, by how many are in each part
abbrev pub size_step : Value-F ℕ → ℕ
size_step (layer.Bool b) = 1
size_step (layer.Unsigned n) = 1
size_step (layer.Signed n) = 1
size_step (layer.Text t) = 1
size_step (layer.List items) = 1 + sum items
size_step (layer.Record fields) = 1 + sum_by (λ f. f.1) fields
size_step (layer.Variant name index fields) = 1 + sum_by (λ f. f.1) fields

-- how many values a value is, with all inside it
abbrev pub size : Value → ℕ
size = fold-Value ℕ size_step

-- how many values an event shows or begins; bytes are a list, and each byte is a value
abbrev pub values : Event → ℕ
values (truth b) = 1
values (unsigned n) = 1
values (signed n) = 1
values (text t) = 1
values (bytes b) = 1 + length b
values (begin_list n) = 1
values (begin_record names known) = 1
values (begin_variant name index names shared known) = 1
values _ = 0

-- how many values some events show or begin
abbrev pub values_in : List Event → ℕ
values_in events = sum_by values events

-- All these events are of more values than the limit. The visitor was shown the first of them, which
-- are not, and with the next event they are.
pub record HasPassed {V : Type 0} (Visited : List Event → V → V → Type 0) (all : List Event)
    (limit : ℕ) (old new : V) : Type 0 where
  pub shown : List Event
  pub next : Event
  pub visited : Visited shown old new
  pub first : BeginsWith all (shown ++ next ∷ [])
  pub fits : values_in shown ≤ limit
  pub past : limit < values_in (shown ++ next ∷ [])

-- the outcome is this failure, and the visitor was shown all these events, which are not of more
-- values than the limit
pub record HasFailedWithin {A V : Type 0} (Visited : List Event → V → V → Type 0)
    (all : List Event) (outcome : Outcome A) (why : Failure) (limit : ℕ) (old new : V) : Type 0
  where
    pub failed : HasFailed Visited all outcome why old new
    pub fits : values_in all ≤ limit

-- the visitor was shown the first of these events, which are not of more values than the limit, and
-- refused the last that it was shown
pub record HasStoppedWithin {V E : Type 0} (Stopped : List Event → V → E → V → Type 0)
    (all : List Event) (limit : ℕ) (old : V) (why : E) (new : V) : Type 0 where
  pub stops : StopsWithin Stopped all old why new
  pub fits : values_in stops.shown ≤ limit

-- Of bytes that are read these events are shown. The error is the failure of the outcome, after all
-- of them, or more values come than the limit, or the visitor stopped.
abbrev pub IsWithinErrorOf :
    {A V E : Type 0} → (List Event → V → V → Type 0) → (List Event → V → E → V → Type 0)
    → List Event → Outcome A → ℕ → V → V → WithinError E → Type 0
IsWithinErrorOf Visited Stopped all outcome limit old new (error.Failed why) =
    HasFailedWithin Visited all outcome why limit old new
IsWithinErrorOf Visited Stopped all outcome limit old new error.TooLarge =
    HasPassed Visited all limit old new
IsWithinErrorOf Visited Stopped all outcome limit old new (error.Stopped e) =
    HasStoppedWithin Stopped all limit old e new

-- Shown these events, of which the last was refused, a visitor with a limit stops. It passes on all
-- but the last, and with that they are of more values than the limit; or it passes on all, and the
-- visitor that it passes them to stopped.
abbrev pub StopsAt :
    {V E : Type 0} → (List Event → V → V → Type 0) → (List Event → V → E → V → Type 0)
    → List Event → ℕ → V → Refusal E → V → Type 0
StopsAt Visited Stopped events limit old refusal.TooLarge new =
    HasPassed Visited events limit old new
StopsAt Visited Stopped events limit old (refusal.Stopped e) new =
    Stopped events old e new × (values_in events ≤ limit)
