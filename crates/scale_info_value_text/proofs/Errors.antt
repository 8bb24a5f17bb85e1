-- Errors of visits.
use Rattle.std.proofs.Common.{List}
use Rattle.scale_info_value.specs.declared.value.Failure.TheVariants as failure
use Rattle.scale_info_value.specs.declared.value.Value.{Value}
use Rattle.scale_info_value.specs.Outcomes.{Outcome, IsErrorOf}
use Rattle.scale_info_value_visit.specs.Events.{Event}
use Rattle.scale_info_value_visit.specs.Visits.{IsVisitErrorOf}
use Rattle.scale_info_value_visit.specs.declared.visitor.VisitError.{VisitError}
use Rattle.scale_info_value_visit.specs.declared.visitor.VisitError.TheVariants as visit
use Rattle.scale_info_value_text.specs.ValueTexts.{error_by}

-- the error of a visit is that of the outcome
pub same_error :
    {V E : Type 0} (Visited : List Event → V → V → Type 0) (Stopped : List Event → V → E → V → Type 0)
    (all : List Event) (outcome : Outcome Value) (old new : V) (e : VisitError E)
    → IsVisitErrorOf Visited Stopped all outcome old new e → IsErrorOf outcome (error_by e)
same_error Visited Stopped all outcome old new (visit.Failed failure.NoSuchType) h = h.read
same_error Visited Stopped all outcome old new (visit.Failed failure.Unsupported) h = h.read
same_error Visited Stopped all outcome old new (visit.Failed failure.TooDeep) h = h.read
same_error Visited Stopped all outcome old new (visit.Failed failure.Malformed) h = h.read
same_error Visited Stopped all outcome old new (visit.Stopped e) h = tt
