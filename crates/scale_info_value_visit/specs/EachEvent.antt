-- Events that are taken each for itself.
use Rattle.std.specs.Prelude.{◌≡◌, ◌++◌, List, [], ◌∷◌}
use Rattle.scale_info_value_visit.specs.Events.{Event, truth, unsigned, signed, text, bytes, begin_list}
use Rattle.scale_info_value_visit.specs.Events.{end_list, begin_fields, end_fields, begin_of, end_of}
use Rattle.scale_info_value_visit.specs.Events.{field_of}
use Rattle.scale_info_value_visit.specs.declared.event.ValueEvent.{ValueEvent}
use Rattle.scale_info_value_visit.specs.declared.event.ValueEvent.TheVariants as value_event

-- the event that a function is given
abbrev pub event_of : ValueEvent → Event
event_of (value_event.Truth b) = truth b
event_of (value_event.Unsigned n) = unsigned n
event_of (value_event.Signed n) = signed n
event_of (value_event.Text t) = text t.now
event_of (value_event.Bytes b) = bytes b.now
event_of (value_event.BeginList n) = begin_list n
event_of value_event.EndList = end_list
event_of (value_event.BeginRecord fields) = begin_fields fields.now
event_of (value_event.EndRecord fields) = end_fields fields.now
event_of (value_event.BeginVariant choice v) = begin_of choice.now v.now
event_of (value_event.EndVariant choice v) = end_of choice.now v.now
event_of (value_event.Field f named) = field_of named f.now

-- `Taken event old new` says what one event does. These events were taken, one after another.
abbrev pub TakesEach : {V : Type 0} → (Event → V → V → Type 0) → List Event → V → V → Type 0
TakesEach Taken [] old new = new ≡ old
TakesEach {V} Taken (event ∷ events) old new =
    (now : V) × Taken event old now × TakesEach Taken events now new

-- `Refused event old e new` says what it is to refuse one event with an error. All of these events
-- but the last were taken, and the last was refused.
pub record RefusesLast {V E : Type 0} (Taken : Event → V → V → Type 0)
    (Refused : Event → V → E → V → Type 0) (events : List Event) (old : V) (why : E) (new : V)
    : Type 0 where
  pub before : List Event
  pub last : Event
  pub now : V
  pub parts : events ≡ before ++ last ∷ []
  pub taken : TakesEach Taken before old now
  pub refused : Refused last now why new
