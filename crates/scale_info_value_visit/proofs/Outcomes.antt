-- What a visit says of the value that is decoded.
use Rattle.std.proofs.Common.{◌≡◌, ℕ, List, Result, ap, sym, subst, ◌∙◌}
use Rattle.std.specs.Prelude.{IfOk, IfErr}
use Rattle.std.specs.Borrow.{Bor}
use Rattle.scale_info_table.specs.declared.portable.PortableRegistry.{PortableRegistry}
use Rattle.scale_info_value.specs.declared.value.Failure.{Failure}
use Rattle.scale_info_value.specs.Outcomes.{Outcome, decoded, failed}
use Rattle.scale_info_value.specs.Readings.{reading}
use Rattle.scale_info_value_visit.specs.declared.visitor.VisitError.{VisitError}
use Rattle.scale_info_value_visit.specs.Events.{Event, events}
use Rattle.scale_info_value_visit.specs.Reads.{Read, read_of}
use Rattle.scale_info_value_visit.specs.Visits.{HasShown, all_shown, then_failed, has_stopped, HasVisited, IsVisitErrorOf}
use Rattle.scale_info_value_visit.proofs.Agreement.{Agrees, value_agrees}

-- what is read by a table agrees
pub read_agrees :
    (table : PortableRegistry) (id : ℕ) (input : List ℕ)
    → Agrees (events table id) (reading table id 1 input) (read_of table id input)
read_agrees table id input = value_agrees table 128 id input

-- where a value is decoded, its events are read
pub events_of_value :
    {A : Type 0} (shown : A → List Event) (o : Outcome A) (read : Read) (value : A) (rest : List ℕ)
    → Agrees shown o read → o ≡ decoded value rest → read.events ≡ shown value
events_of_value shown (decoded v r) read value rest h e =
    let same : v ≡ value = cc in
    ap (λ r. r.events) h ∙ ap shown same
events_of_value shown (failed why) read value rest h e = cc

-- and the rest is left
pub rest_of_value :
    {A : Type 0} (shown : A → List Event) (o : Outcome A) (read : Read) (value : A) (rest : List ℕ)
    → Agrees shown o read → o ≡ decoded value rest → read.end ≡ decoded tt rest
rest_of_value shown (decoded v r) read value rest h e =
    let same : r ≡ rest = cc in
    ap (λ r. r.end) h ∙ ap (decoded tt) same
rest_of_value shown (failed why) read value rest h e = cc

-- where none is, what is read ends with the failure
pub end_of_failure :
    {A : Type 0} (shown : A → List Event) (o : Outcome A) (read : Read) (why : Failure)
    → Agrees shown o read → o ≡ failed why → read.end ≡ failed why
end_of_failure shown (decoded v r) read why h e = cc
end_of_failure shown (failed w) read why h e = let same : w ≡ why = cc in h ∙ ap failed same

-- what was read and ended with a rest was decoded
pub read_through :
    {A : Type 0} (shown : A → List Event) (o : Outcome A) (read : Read) (rest : List ℕ)
    → Agrees shown o read → read.end ≡ decoded tt rest
    → (value : A) × (o ≡ decoded value rest) × (read.events ≡ shown value)
read_through shown (decoded value left) read rest h e =
    let end : decoded tt left ≡ read.end = ap (λ r. r.end) (sym h) in
    let same : left ≡ rest = cc in
    (value, ap (decoded value) same, ap (λ r. r.events) h)
read_through shown (failed why) read rest h e = cc

-- what was read and ended with a failure failed
pub read_short :
    {A : Type 0} (shown : A → List Event) (o : Outcome A) (read : Read) (why : Failure)
    → Agrees shown o read → read.end ≡ failed why → o ≡ failed why
read_short shown (decoded value left) read why h e =
    let end : decoded tt left ≡ read.end = ap (λ r. r.end) (sym h) in cc
read_short shown (failed w) read why h e = let same : w ≡ why = cc in ap failed same

-- a value was shown
pub value_shown :
    {A V E : Type 0} {Visited : List Event → V → V → Type 0} {Stopped : List Event → V → E → V → Type 0}
    (shown : A → List Event) (o : Outcome A) {read : Read} {old new : V} (agrees : Agrees shown o read)
    {r : Result (Bor (List ℕ)) (VisitError E)} → HasShown Visited Stopped read old new r
    → IfOk r (λ rest. HasVisited Visited shown o rest.now old new)
value_shown {Visited = Visited} shown o {read} {old} {new} agrees (all_shown {rest = rest} e v) =
    let p = read_through shown o read rest.now agrees e in
    record { value = p.0; read = p.1; visited = subst (λ es. Visited es old new) p.2 v }
value_shown shown o agrees (then_failed e v) = tt
value_shown shown o agrees (has_stopped s) = tt

-- or there was an error
pub error_shown :
    {A V E : Type 0} {Visited : List Event → V → V → Type 0} {Stopped : List Event → V → E → V → Type 0}
    (shown : A → List Event) (o : Outcome A) {read : Read} {old new : V} (agrees : Agrees shown o read)
    {r : Result (Bor (List ℕ)) (VisitError E)} → HasShown Visited Stopped read old new r
    → IfErr r (IsVisitErrorOf Visited Stopped read.events o old new)
error_shown shown o agrees (all_shown e v) = tt
error_shown shown o {read} agrees (then_failed {why = why} e v) =
    record { read = read_short shown o read why agrees e; visited = v }
error_shown shown o agrees (has_stopped s) = s
