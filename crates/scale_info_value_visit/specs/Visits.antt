-- What comes of showing a value to a visitor.
use Rattle.std.specs.Prelude.{◌≡◌, ◌++◌, ℕ, Bool, List, [], ◌∷◌, Option}
use Rattle.std.specs.Prelude.{Result, Ok, Err}
use Rattle.std.specs.Borrow.{Bor}
use Rattle.std.specs.List.{flat_map}
use Rattle.scale_info_types.specs.Portable.{Text, Field, TypeDef}
use Rattle.scale_info_types.specs.Shapes.{map_field}
use Rattle.scale_info_table.specs.declared.portable.PortableRegistry.{PortableRegistry}
use Rattle.scale_info_value.specs.declared.value.Failure.{Failure}
use Rattle.scale_info_value.specs.Outcomes.{Decoder, Outcome, decoded, failed}
use Rattle.scale_info_value.specs.ValueDefinitions.{field}
use Rattle.scale_info_value.specs.Readings.{part_within}
use Rattle.scale_info_value.specs.declared.value.Value.{Value}
use Rattle.scale_info_value_visit.specs.Events as event
use Rattle.scale_info_value_visit.specs.Events.{Event, in_place, events_by, field_type}
use Rattle.scale_info_value_visit.specs.Reads.{Read}
use Rattle.scale_info_value_visit.specs.declared.visitor.VisitError.{VisitError}
use Rattle.scale_info_value_visit.specs.declared.visitor.VisitError.TheVariants as error

-- `Visited events old new` says what events do to a visitor. The outcome is a value and the rest,
-- and the visitor was shown the events of that value.
pub record HasVisited {A V : Type 0} (Visited : List Event → V → V → Type 0)
    (events : A → List Event) (outcome : Outcome A) (rest : List ℕ) (old new : V) : Type 0 where
  pub value : A
  pub read : outcome ≡ decoded value rest
  pub visited : Visited (events value) old new

-- the first of all events are these
pub record BeginsWith (all first : List Event) : Type 0 where
  pub rest : List Event
  pub parts : all ≡ first ++ rest

-- the outcome is this failure, and the visitor was shown all these events
pub record HasFailed {A V : Type 0} (Visited : List Event → V → V → Type 0)
    (all : List Event) (outcome : Outcome A) (why : Failure) (old new : V) : Type 0 where
  pub read : outcome ≡ failed why
  pub visited : Visited all old new

-- `Stopped events old e new` says that a visitor was shown events, refused the last of them with an
-- error, and is left as `new`. It was shown the first of these events, and refused the last that it
-- was shown.
pub record StopsWithin {V E : Type 0} (Stopped : List Event → V → E → V → Type 0)
    (all : List Event) (old : V) (why : E) (new : V) : Type 0 where
  pub shown : List Event
  pub stopped : Stopped shown old why new
  pub first : BeginsWith all shown

-- Of bytes that are read these events are shown. The error is the failure of the outcome, after all
-- of them, or the visitor stopped with it at one of them.
abbrev pub IsVisitErrorOf :
    {A V E : Type 0} → (List Event → V → V → Type 0) → (List Event → V → E → V → Type 0)
    → List Event → Outcome A → V → V → VisitError E → Type 0
IsVisitErrorOf Visited Stopped all outcome old new (error.Failed why) =
    HasFailed Visited all outcome why old new
IsVisitErrorOf Visited Stopped all outcome old new (error.Stopped e) =
    StopsWithin Stopped all old e new

-- what a visitor returned for events: it was shown them, or it refused the last of them
abbrev pub HasReturned :
    {V E : Type 0} → (List Event → V → V → Type 0) → (List Event → V → E → V → Type 0)
    → List Event → V → V → Result (Unit {0}) E → Type 0
HasReturned Visited Stopped events old new (Ok _) = Visited events old new
HasReturned Visited Stopped events old new (Err e) = Stopped events old e new

-- What a visit returned, where this is read of the bytes: the rest or the failure with which that
-- ends, after all its events; or the visitor stopped at one of them.
pub data HasShown {V E : Type 0} (Visited : List Event → V → V → Type 0)
    (Stopped : List Event → V → E → V → Type 0) (read : Read) (old new : V)
    : Result (Bor (List ℕ)) (VisitError E) → Type 0 where
  all_shown : {rest : Bor (List ℕ)}
      → read.end ≡ decoded tt rest.now → Visited read.events old new
      → HasShown Visited Stopped read old new (Ok rest)
  then_failed : {why : Failure}
      → read.end ≡ failed why → Visited read.events old new
      → HasShown Visited Stopped read old new (Err (error.Failed why))
  has_stopped : {e : E}
      → StopsWithin Stopped read.events old e new
      → HasShown Visited Stopped read old new (Err (error.Stopped e))

-- the outcome is some value and this rest
pub record HasRest {A : Type 0} (outcome : Outcome A) (rest : List ℕ) : Type 0 where
  pub value : A
  pub read : outcome ≡ decoded value rest

-- a field's value under the field's name, where so many levels are left
abbrev pub field_within : ℕ → PortableRegistry → Field → Decoder (Option Text × Value)
field_within left table f input =
    field (map_field {G = Unit {0}} (part_within left table) (λ t. t) f) input

-- the events of parts between two events
abbrev pub bracketed : {A : Type 0} → Event → (A → List Event) → Event → A → List Event
bracketed first inner last parts = first ∷ inner parts ++ last ∷ []

-- parts, each shown with what is known at its place
abbrev pub placed : {A T : Type 0} → (A → Option T → List Event)
    → List (Option T) → List A → List Event
placed shows known parts = flat_map (λ e. e) (in_place shows parts known)

-- a value with a definition
abbrev pub value_by : PortableRegistry → Value → Option TypeDef → List Event
value_by table value type = events_by table type value

-- a field with what the table has of it
abbrev pub field_by :
    PortableRegistry → Bool → Option Text × Value → Option Field → List Event
field_by table named f known =
    event.field f.0 named known ∷ events_by table (field_type table known) f.1
