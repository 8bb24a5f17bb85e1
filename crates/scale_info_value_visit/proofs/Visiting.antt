-- Visits of one part after another.
use Rattle.std.proofs.Common.{◌≡◌, ℕ, ◌+◌, ◌-◌, ◌<◌, ◌≤◌, arith, replicate, List, [], ◌∷◌, ◌++◌, length, map, drop, ap, sym, subst, refl, ◌∙◌, append_assoc}
use Rattle.std.proofs.Common.{Result, Ok, Err}
use Rattle.std.specs.Prelude.{OnOk, IfErr}
use Rattle.std.specs.Borrow.{Bor}
use Rattle.std.specs.Result.{IsErrAnd}
use Rattle.std.proofs.lemmas.Result.{IfOk-at_ok}
use Rattle.std.proofs.lemmas.List.{append-nil, drop_all}
use Rattle.scale_info_value.specs.declared.value.Failure.{Failure}
use Rattle.scale_info_value.specs.Outcomes.{Outcome, decoded, failed}
use Rattle.scale_info_value.proofs.Ranks.{calls_left}
use Rattle.scale_info_value.proofs.InOrder.{take_next}
use Rattle.scale_info_value_visit.specs.declared.visitor.VisitError.{VisitError}
use Rattle.scale_info_value_visit.specs.declared.visitor.VisitError.TheVariants as error
use Rattle.scale_info_value_visit.specs.Events.{Event}
use Rattle.scale_info_value_visit.specs.Reads.{Read, Reader, shows, fails, after, then_read, followed_by, each, between}
use Rattle.scale_info_value_visit.specs.Visits.{BeginsWith, StopsWithin, HasReturned, HasShown, all_shown, then_failed, has_stopped}

-- The rank of a call of the visit, where so many levels are left. Of the functions that a value
-- goes through at its level, and the list before it, so many come before this one, of eight at most.
abbrev pub visits_left : ℕ → ℕ → ℕ
visits_left made left = calls_left 8 made left

-- events do what they do one after another
abbrev pub Appends : {V : Type 0} → (List Event → V → V → Type 0) → Type 0
Appends {V} Visited = (es fs : List Event) (a b c : V) → Visited es a b → Visited fs b c → Visited (es ++ fs) a c

-- some events and more, which are all of these
pub appended :
    {V : Type 0} {Visited : List Event → V → V → Type 0} {es fs all : List Event} {a b c : V}
    → Appends Visited → es ++ fs ≡ all → Visited es a b → Visited fs b c → Visited all a c
appended {Visited = Visited} {es} {fs} {all} {a} {b} {c} append parts h k =
    subst (λ events. Visited events a c) parts (append es fs a b c h k)

-- where it stopped after some events, these were shown before
abbrev pub StopsLater :
    {V E : Type 0} → (List Event → V → V → Type 0) → (List Event → V → E → V → Type 0) → Type 0
StopsLater {V} {E} Visited Stopped =
    (es fs : List Event) (a b : V) (e : E) (c : V) → Visited es a b → Stopped fs b e c → Stopped (es ++ fs) a e c

-- an error that is passed on
pub passed_on :
    {X D : Type 0} (r : Result X D) (e : D) (P : D → Type 0) → IsErrAnd r (λ d. d ≡ e) → P e → IfErr r P
passed_on (Ok x) e P h p = tt
passed_on (Err d) e P h p = subst P (sym h) p

-- what an answer gives, by what it gives
pub on_ok_after : {E : Type 0} {P Q : Type 0} (answer : Result (Unit {0}) E) → (P → Q) → OnOk answer P → OnOk answer Q
on_ok_after (Ok x) f h = f h
on_ok_after (Err e) f h = tt

-- what an error gives, by what it gives
pub within_after :
    {X E : Type 0} {P Q : E → Type 0} (answer : Result X E) → ((e : E) → P e → Q e) → IfErr answer P → IfErr answer Q
within_after (Ok x) f h = tt
within_after (Err e) f h = f e h

-- what a visitor's answer says, where it is no error
pub by_answer : {E : Type 0} (P : Type 0) {r : Result (Unit {0}) E} → r ≡ Ok tt → OnOk r P → P
by_answer P {r} e h = IfOk-at_ok (λ _. P) e h

module _
    {V E : Type 0} (Visited : List Event → V → V → Type 0) (Stopped : List Event → V → E → V → Type 0) (es : List Event)
    (old new : V) where
  -- what a visitor returned, by what holds where it is no error, and where it is one
  pub returned :
      (r : Result (Unit {0}) E)
      → OnOk r (Visited es old new) → IfErr r (λ e. Stopped es old e new) → HasReturned Visited Stopped es old new r
  returned (Ok x) h k = h
  returned (Err e) h k = k

  -- where it is no error
  pub took : (r : Result (Unit {0}) E) → HasReturned Visited Stopped es old new r → OnOk r (Visited es old new)
  took (Ok x) h = h
  took (Err e) h = tt

  -- where it is one
  pub refused : (r : Result (Unit {0}) E) → HasReturned Visited Stopped es old new r → IfErr r (λ e. Stopped es old e new)
  refused (Ok x) h = tt
  refused (Err e) h = h

-- A visit has come to what is left of what is read: the events before it were shown.
pub record IsAt {V : Type 0} (Visited : List Event → V → V → Type 0) (whole left : Read) (old now : V) : Type 0 where
  pub before : List Event
  pub parts : whole ≡ after before left
  pub visited : Visited before old now

-- it begins with all that is read
pub starts :
    {V : Type 0} {Visited : List Event → V → V → Type 0} {old : V} (whole : Read) → Visited [] old old
    → IsAt Visited whole whole old old
starts whole none = record { before = []; parts = refl; visited = none }

-- what is left is the same as this
pub at_same :
    {V : Type 0} {Visited : List Event → V → V → Type 0} {whole left other : Read} {old now : V}
    → left ≡ other → IsAt Visited whole left old now → IsAt Visited whole other old now
at_same {Visited = Visited} {whole} {old = old} {now} e at = subst (λ read. IsAt Visited whole read old now) e at

-- events after others
after_more : (es fs : List Event) (read : Read) → after es (after fs read) ≡ after (es ++ fs) read
after_more es fs read = ap (λ all. record { events = all; end = read.end }) (sym (append_assoc es fs read.events))

-- the events that come next are shown
pub next_shown :
    {V : Type 0} {Visited : List Event → V → V → Type 0} {whole left : Read} {es : List Event} {old now new : V}
    → Appends Visited → IsAt Visited whole (after es left) old now → Visited es now new → IsAt Visited whole left old new
next_shown {left = left} {es} {old} {now} {new} append at h = record {
  before = at.before ++ es;
  parts = at.parts ∙ after_more at.before es left;
  visited = append at.before es old now new at.visited h;
}

-- a read that ends with a rest, and what is read of it
goes_on :
    (read : Read) (next : Reader) (rest : List ℕ) → read.end ≡ decoded tt rest
    → followed_by read next ≡ after read.events (next rest)
goes_on read next rest e = ap (λ o. then_read read.events o next) e

-- a part is shown, and what is read of the rest is left
pub part_shown :
    {V E : Type 0} {Visited : List Event → V → V → Type 0} {Stopped : List Event → V → E → V → Type 0}
    {whole read : Read} {old now new : V} {rest : Bor (List ℕ)} (next : Reader)
    → Appends Visited → IsAt Visited whole (followed_by read next) old now
    → HasShown Visited Stopped read now new (Ok rest)
    → IsAt Visited whole (next rest.now) old new
part_shown {read = read} {rest = rest} next append at (all_shown e v) =
    next_shown append (at_same (goes_on read next rest.now e) at) v

-- the events of a read come first where more is read after it
begins_longer :
    (o : Outcome (Unit {0})) (next : Reader) (all first : List Event) → BeginsWith all first
    → BeginsWith (then_read all o next).events first
begins_longer (decoded x rest) next all first h = record {
  rest = h.rest ++ (next rest).events;
  parts = ap (λ es. es ++ (next rest).events) h.parts ∙ append_assoc first h.rest (next rest).events;
}
begins_longer (failed why) next all first h = h

-- an error of a part is one of what begins with it
pub error_stays :
    {V E : Type 0} {Visited : List Event → V → V → Type 0} {Stopped : List Event → V → E → V → Type 0}
    {read : Read} {old new : V} {e : VisitError E} (next : Reader)
    → HasShown Visited Stopped read old new (Err e) → HasShown Visited Stopped (followed_by read next) old new (Err e)
error_stays {Visited = Visited} {read = read} {old} {new} next (then_failed e v) =
    then_failed (ap (λ o. (then_read read.events o next).end) e)
    (subst (λ o. Visited (then_read read.events o next).events old new) (sym e) v)
error_stays {read = read} next (has_stopped s) =
    has_stopped (record { shown = s.shown; stopped = s.stopped; first = begins_longer read.end next read.events s.shown s.first })

-- what is shown of what is left, after what was shown before
shown_later :
    {V : Type 0} {Visited : List Event → V → V → Type 0} {whole left : Read} {old now new : V}
    → Appends Visited → IsAt Visited whole left old now → Visited left.events now new → Visited whole.events old new
shown_later {Visited = Visited} {left = left} {old} {now} {new} append at v =
    subst (λ read. Visited read.events old new) (sym at.parts) (append at.before left.events old now new at.visited v)

-- what comes of what is left comes of the whole
pub comes :
    {V E : Type 0} {Visited : List Event → V → V → Type 0} {Stopped : List Event → V → E → V → Type 0}
    {whole left : Read} {old now new : V} {r : Result (Bor (List ℕ)) (VisitError E)}
    → Appends Visited → StopsLater Visited Stopped → IsAt Visited whole left old now
    → HasShown Visited Stopped left now new r → HasShown Visited Stopped whole old new r
comes append later at (all_shown e v) =
    all_shown (ap (λ read. read.end) at.parts ∙ e) (shown_later append at v)
comes append later at (then_failed e v) =
    then_failed (ap (λ read. read.end) at.parts ∙ e) (shown_later append at v)
comes {old = old} {now} {new} append later at (has_stopped {e = e} s) =
    has_stopped (record {
      shown = at.before ++ s.shown;
      stopped = later at.before s.shown old now e new at.visited s.stopped;
      first = record {
        rest = s.first.rest;
        parts =
            ap (λ read. read.events) at.parts ∙ ap (λ es. at.before ++ es) s.first.parts
            ∙ sym (append_assoc at.before s.shown s.first.rest);
      };
    })

-- an error that is passed on, as what was returned
pub returned_as :
    {V E : Type 0} {Visited : List Event → V → V → Type 0} {Stopped : List Event → V → E → V → Type 0}
    {read : Read} {old new : V} (r : Result (Bor (List ℕ)) (VisitError E)) (e : VisitError E)
    → IsErrAnd r (λ d. d ≡ e) → HasShown Visited Stopped read old new (Err e) → HasShown Visited Stopped read old new r
returned_as (Ok x) e h p = absurd h
returned_as {Visited = Visited} {Stopped} {read} {old} {new} (Err d) e h p =
    subst (λ x. HasShown Visited Stopped read old new (Err x)) (sym h) p

-- an error of the part that comes next is passed on
pub part_stops :
    {V E : Type 0} {Visited : List Event → V → V → Type 0} {Stopped : List Event → V → E → V → Type 0}
    {whole read : Read} {old now new : V} (next : Reader) (r : Result (Bor (List ℕ)) (VisitError E)) (e : VisitError E)
    → Appends Visited → StopsLater Visited Stopped → IsErrAnd r (λ d. d ≡ e)
    → IsAt Visited whole (followed_by read next) old now
    → HasShown Visited Stopped read now new (Err e) → HasShown Visited Stopped whole old new r
part_stops next r e append later h at p = returned_as r e h (comes append later at (error_stays next p))

-- where a visitor refused one of these events, which come next
pub refused_within :
    {V E : Type 0} {Visited : List Event → V → V → Type 0} {Stopped : List Event → V → E → V → Type 0}
    {whole : Read} {old now : V} (es : List Event) (left : Read) (new : V) (r : Result (Bor (List ℕ)) (VisitError E)) (e : VisitError E)
    (answer : Result (Unit {0}) E)
    → Appends Visited → StopsLater Visited Stopped → IsErrAnd r (λ d. d ≡ e)
    → (why : E) × (answer ≡ Err why) × (e ≡ error.Stopped why)
    → IsAt Visited whole (after es left) old now
    → IfErr answer (λ d. StopsWithin Stopped es now d new)
    → HasShown Visited Stopped whole old new r
refused_within {Visited = Visited} {Stopped} {whole} {old} {now} es left new r e answer append later h was at p =
    let stops : StopsWithin Stopped es now was.0 new =
    subst (λ a. IfErr a (λ d. StopsWithin Stopped es now d new)) was.1 p in
    returned_as r e h
    (subst (λ d. HasShown Visited Stopped whole old new (Err d)) (sym was.2)
    (comes append later at (has_stopped (record {
      shown = stops.shown;
      stopped = stops.stopped;
      first = record {
        rest = stops.first.rest ++ left.events;
        parts =
            ap (λ all. all ++ left.events) stops.first.parts
            ∙ append_assoc stops.shown stops.first.rest left.events;
      };
    }))))

-- where a visitor refused the last of these events, which come next
pub next_refused :
    {V E : Type 0} {Visited : List Event → V → V → Type 0} {Stopped : List Event → V → E → V → Type 0}
    {whole : Read} {old now : V} (es : List Event) (left : Read) (new : V) (r : Result (Bor (List ℕ)) (VisitError E)) (e : VisitError E)
    (answer : Result (Unit {0}) E)
    → Appends Visited → StopsLater Visited Stopped → IsErrAnd r (λ d. d ≡ e)
    → (why : E) × (answer ≡ Err why) × (e ≡ error.Stopped why)
    → IsAt Visited whole (after es left) old now
    → IfErr answer (λ d. Stopped es now d new)
    → HasShown Visited Stopped whole old new r
next_refused es left new r e answer append later h was at p =
    refused_within es left new r e answer append later h was at (within_after answer (λ d s. record {
      shown = es;
      stopped = s;
      first = record { rest = []; parts = sym (append-nil es) };
    }) p)

-- the last events come next, and then the rest
pub at_end :
    {V : Type 0} {Visited : List Event → V → V → Type 0} {whole : Read} {es : List Event} {rest : List ℕ} {old now : V}
    → IsAt Visited whole (shows es rest) old now → IsAt Visited whole (after es (shows [] rest)) old now
at_end {es = es} {rest} at = at_same (ap (λ all. shows all rest) (sym (append-nil es))) at

-- nothing more is read: this is the rest
pub ended :
    {V E : Type 0} {Visited : List Event → V → V → Type 0} {Stopped : List Event → V → E → V → Type 0}
    {whole : Read} {rest : Bor (List ℕ)} {old now : V}
    → IsAt Visited whole (shows [] rest.now) old now → HasShown Visited Stopped whole old now (Ok rest)
ended {Visited = Visited} {old = old} {now} at =
    all_shown (ap (λ read. read.end) at.parts)
    (subst (λ read. Visited read.events old now) (sym at.parts)
    (subst (λ es. Visited es old now) (sym (append-nil at.before)) at.visited))

-- what comes of the only part that is left comes of the whole
pub alone_comes :
    {V E : Type 0} {Visited : List Event → V → V → Type 0} {Stopped : List Event → V → E → V → Type 0}
    {whole read : Read} {old now new : V} {r : Result (Bor (List ℕ)) (VisitError E)}
    → Appends Visited → StopsLater Visited Stopped → IsAt Visited whole (followed_by read (each [])) old now
    → HasShown Visited Stopped read now new r → HasShown Visited Stopped whole old new r
alone_comes {read = read} append later at (all_shown {rest = rest} e v) =
    ended (next_shown append (at_same (goes_on read (each []) rest.now e) at) v)
alone_comes append later at (then_failed e v) = comes append later at (error_stays (each []) (then_failed e v))
alone_comes append later at (has_stopped s) = comes append later at (error_stays (each []) (has_stopped s))

-- what is read is the same as this
pub shown_as :
    {V E : Type 0} {Visited : List Event → V → V → Type 0} {Stopped : List Event → V → E → V → Type 0}
    {read other : Read} {old new : V} {r : Result (Bor (List ℕ)) (VisitError E)}
    → read ≡ other → HasShown Visited Stopped other old new r → HasShown Visited Stopped read old new r
shown_as {Visited = Visited} {Stopped} {old = old} {new} {r} e h =
    subst (λ read. HasShown Visited Stopped read old new r) (sym e) h

-- a failure before any event
pub fails_first :
    {V E : Type 0} {Visited : List Event → V → V → Type 0} {Stopped : List Event → V → E → V → Type 0}
    {read : Read} {old : V} {why : Failure}
    → Visited [] old old → read ≡ fails why → HasShown Visited Stopped read old old (Err (error.Failed why))
fails_first none e = shown_as e (then_failed refl none)

-- the same, passed on
pub failure_passed :
    {V E : Type 0} {Visited : List Event → V → V → Type 0} {Stopped : List Event → V → E → V → Type 0}
    {read : Read} {old : V} (r : Result (Bor (List ℕ)) (VisitError E)) (why : Failure)
    → Visited [] old old → IsErrAnd r (λ d. d ≡ error.Failed why) → read ≡ fails why
    → HasShown Visited Stopped read old old r
failure_passed r why none h e = returned_as r (error.Failed why) h (fails_first none e)

-- some of so many alike are left, of which one comes next
pub next_of :
    {V : Type 0} {Visited : List Event → V → V → Type 0} {whole : Read} (count k : ℕ) (read : Reader) (rest : List ℕ) {old now : V}
    → k < count → IsAt Visited whole (each (replicate (count - k) read) rest) old now
    → IsAt Visited whole (followed_by (read rest) (each (replicate (count - (k + 1)) read))) old now
next_of count k read rest h at = at_same (ap (λ all. each all rest) (take_next count k read h)) at

-- all of them are left
pub all_left :
    {V : Type 0} {Visited : List Event → V → V → Type 0} (count : ℕ) (read : Reader) (input : List ℕ) {old : V}
    → Visited [] old old → IsAt Visited (each (replicate count read) input) (each (replicate (count - 0) read) input) old old
all_left count read input none =
    let all : count ≡ count - 0 = omega arith in
    at_same (ap (λ n. each (replicate n read) input) all) (starts (each (replicate count read) input) none)

-- none of a list is left
pub none_of :
    {V E A : Type 0} {Visited : List Event → V → V → Type 0} {Stopped : List Event → V → E → V → Type 0}
    {whole : Read} {rest : Bor (List ℕ)} (of : A → Reader) (all : List A) (k : ℕ) {old now : V}
    → length all ≤ k → IsAt Visited whole (each (map of (drop k all)) rest.now) old now
    → HasShown Visited Stopped whole old now (Ok rest)
none_of {rest = rest} of all k h at = ended (at_same (ap (λ l. each (map of l) rest.now) (drop_all k all h)) at)

-- none of them is left
pub none_left :
    {V E : Type 0} {Visited : List Event → V → V → Type 0} {Stopped : List Event → V → E → V → Type 0}
    {whole : Read} {rest : Bor (List ℕ)} (count k : ℕ) (read : Reader) {old now : V}
    → count ≤ k → IsAt Visited whole (each (replicate (count - k) read) rest.now) old now
    → HasShown Visited Stopped whole old now (Ok rest)
none_left {rest = rest} count k read h at =
    let none : count - k ≡ 0 = omega arith in
    ended (at_same (ap (λ n. each (replicate n read) rest.now) none) at)

-- What stands between two events.
module _ (first last : Event) (inner : Reader) (input : List ℕ) where
  -- after the first event
  pub inside :
      {V : Type 0} {Visited : List Event → V → V → Type 0} {old now : V}
      → Appends Visited → Visited [] old old → Visited (first ∷ []) old now
      → IsAt Visited (between first inner last input) (followed_by (inner input) (shows (last ∷ []))) old now
  inside append none h = next_shown append (starts (between first inner last input) none) h

  -- after all that stands there
  pub at_last :
      {V E : Type 0} {Visited : List Event → V → V → Type 0} {Stopped : List Event → V → E → V → Type 0}
      {old now new : V} {rest : Bor (List ℕ)} → Appends Visited → Visited [] old old → Visited (first ∷ []) old now
      → HasShown Visited Stopped (inner input) now new (Ok rest)
      → IsAt Visited (between first inner last input) (shows (last ∷ []) rest.now) old new
  at_last append none h p = part_shown (shows (last ∷ [])) append (inside append none h) p

  -- after the last event
  pub past_last :
      {V E : Type 0} {Visited : List Event → V → V → Type 0} {Stopped : List Event → V → E → V → Type 0}
      {old now then new : V} {rest : Bor (List ℕ)} → Appends Visited → Visited [] old old → Visited (first ∷ []) old now
      → HasShown Visited Stopped (inner input) now then (Ok rest) → Visited (last ∷ []) then new
      → HasShown Visited Stopped (between first inner last input) old new (Ok rest)
  past_last append none h p q = ended (next_shown append (at_last append none h p) q)
