-- What an implementation cites of events that are taken each for itself.
use Rattle.std.specs.Prelude.{List, [], ◌∷◌, ◌++◌}
use Rattle.std.proofs.Common.{ap, sym, subst, ◌∙◌, append_assoc}
use Rattle.scale_info_value_visit.specs.Events.{Event}
use Rattle.scale_info_value_visit.specs.EachEvent.{TakesEach, RefusesLast}

-- some events and more
pub takes_append :
    {V : Type 0} (Taken : Event → V → V → Type 0) (es fs : List Event) (a b c : V)
    → TakesEach Taken es a b → TakesEach Taken fs b c → TakesEach Taken (es ++ fs) a c
takes_append Taken [] fs a b c h k = subst (λ v. TakesEach Taken fs v c) h k
takes_append Taken (e ∷ es) fs a b c h k =
    (h.0, h.1, takes_append Taken es fs h.0 b c h.2 k)

-- a refusal after some events
pub refuses_later :
    {V E : Type 0} (Taken : Event → V → V → Type 0) (Refused : Event → V → E → V → Type 0)
    (es fs : List Event) (a b : V) (why : E) (c : V)
    → TakesEach Taken es a b → RefusesLast Taken Refused fs b why c
    → RefusesLast Taken Refused (es ++ fs) a why c
refuses_later Taken Refused es fs a b why c h k = record {
  before = es ++ k.before;
  last = k.last;
  now = k.now;
  parts = ap (λ events. es ++ events) k.parts ∙ sym (append_assoc es k.before (k.last ∷ []));
  taken = takes_append Taken es k.before a b k.now h k.taken;
  refused = k.refused;
}
