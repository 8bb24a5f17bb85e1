-- What a visitor that sums up transfers has after some events.
use Rattle.std.proofs.Common.{◌≡◌, ◌+◌, ◌++◌, ◌≤◌, ◌^◌, ℕ, List, [], ◌∷◌, ap, ◌∙◌, arith}
use Rattle.scale_info.specs.Types.{Value, VisitError}
use Rattle.scale_info.specs.VisitErrors as error
use Rattle.scale_info.specs.Outcomes.{Outcome, decoded}
use Rattle.scale_info.specs.Events.{Event}
use Rattle.scale_info.specs.Visits.{IsVisitErrorOf}
use Rattle.scale_info.specs.EachEvent.{TakesEach, RefusesLast}
use Rattle.example_callers.specs.Transfers.{Place, outside, after, amount, moved, place, Adds, AddsTooMuch, IsMovedError}
use Rattle.example_callers.specs.declared.transfers.Transfers.{Transfers}
use Rattle.example_callers.specs.declared.transfers.TooMuch.{TooMuch}

-- where events lead, one after another
abbrev pub after_all : Place → List Event → Place
after_all p [] = p
after_all p (event ∷ events) = after_all (after event p) events

-- some events and more
moved_append : (p : Place) (es fs : List Event) → moved p (es ++ fs) ≡ moved p es + moved (after_all p es) fs
moved_append p [] fs = omega arith
moved_append p (e ∷ es) fs = let more = moved_append (after e p) es fs in omega arith

-- events that were taken
pub has_moved : (es : List Event) (a b : Transfers) → TakesEach Adds es a b
    → (b.total ≡ a.total + moved (place a) es) × (place b ≡ after_all (place a) es)
has_moved [] a b h = (omega (arith, ap (λ v. v.total) h), ap place h)
has_moved (e ∷ es) a b h =
    let now = h.0 in
    let step = h.1 in
    let more = has_moved es now b h.2 in
    let on = ap (λ p. moved p es) step.1 in
    (omega (arith, step.0, more.0, on), more.1 ∙ ap (λ p. after_all p es) step.1)

-- events of which the last was refused, and more
pub moves_too_much : (es fs : List Event) (a : Transfers) (e : TooMuch) (c : Transfers)
    → RefusesLast Adds AddsTooMuch es a e c → 2 ^ 128 ≤ a.total + moved (place a) (es ++ fs)
moves_too_much es fs a e c h =
    let before = has_moved h.before a h.now h.taken in
    let all = ap (λ l. moved (place a) (l ++ fs)) h.parts in
    let first = moved_append (place a) (h.before ++ h.last ∷ []) fs in
    let last = moved_append (place a) h.before (h.last ∷ []) in
    let here = ap (λ p. amount h.last p) before.1 in
    omega (arith, h.refused, before.0, all, first, last, here)

-- the error of a visit, as that of summing up, where of a value its events are read
pub is_moved_error :
    (all : List Event) (events : Value → List Event) (outcome : Outcome Value) (a c : Transfers) (e : VisitError TooMuch)
    → a.total ≡ 0 → place a ≡ outside
    → ((value : Value) (rest : List ℕ) → outcome ≡ decoded value rest → all ≡ events value)
    → IsVisitErrorOf (TakesEach Adds) (RefusesLast Adds AddsTooMuch) all outcome a c e → IsMovedError events outcome e
is_moved_error all events outcome a c (error.Failed why) none out read h = h.read
is_moved_error all events outcome a c (error.Stopped e) none out read h = λ value rest is.
    let first = h.first in
    let much = moves_too_much h.shown first.rest a e c h.stopped in
    let whole = ap (λ es. moved outside es) first.parts in
    let same = ap (λ es. moved outside es) (read value rest is) in
    let from = ap (λ p. moved p (h.shown ++ first.rest)) out in
    omega (arith, much, none, whole, same, from)
