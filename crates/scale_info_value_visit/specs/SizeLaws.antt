-- What an implementation cites of how many values there are.
use Rattle.std.specs.Prelude.{◌≡◌, ◌+◌, ℕ, List, [], ◌∷◌, ◌++◌}
use Rattle.std.proofs.Common.{arith, ap, sym, ◌∙◌, append_assoc}
use Rattle.std.proofs.lemmas.List.Sums.{sum_by-append}
use Rattle.scale_info_value_visit.specs.Events.{Event}
use Rattle.scale_info_value_visit.specs.Sizes.{values, values_in, HasPassed, StopsAt}
use Rattle.scale_info_value_visit.specs.declared.within.Refusal.{Refusal}
use Rattle.scale_info_value_visit.specs.declared.within.Refusal.TheVariants as refusal

-- what is left after some events and more
pub left_after :
    (es fs : List Event) (a b c : ℕ)
    → b + values_in es ≡ a → c + values_in fs ≡ b → c + values_in (es ++ fs) ≡ a
left_after es fs a b c h k = let both = sum_by-append values es fs in omega arith

-- where what is left is passed after some events, so is what was left before them
passes_later :
    {V : Type 0} {Visited : List Event → V → V → Type 0}
    → ((es fs : List Event) (a b c : V)
    → Visited es a b → Visited fs b c → Visited (es ++ fs) a c)
    → (es fs : List Event) (limit left : ℕ) (a b c : V)
    → Visited es a b → left + values_in es ≡ limit
    → HasPassed Visited fs left b c → HasPassed Visited (es ++ fs) limit a c
passes_later append es fs limit left a b c h k p =
    let both = sum_by-append values es p.shown in
    let more = sum_by-append values es (p.shown ++ p.next ∷ []) in
    let whole = ap values_in (append_assoc es p.shown (p.next ∷ [])) in
    let fits = p.fits in
    let past = p.past in
    record {
      shown = es ++ p.shown;
      next = p.next;
      visited = append es p.shown a b c h p.visited;
      first = record {
        rest = p.first.rest;
        parts =
            ap (λ all. es ++ all) p.first.parts
            ∙ sym (append_assoc es (p.shown ++ p.next ∷ []) p.first.rest)
            ∙ ap (λ all. all ++ p.first.rest) (sym (append_assoc es p.shown (p.next ∷ [])));
      };
      fits = omega arith;
      past = omega arith;
    }

-- where a visitor stops after some events, it was shown these before
pub stops_later :
    {V E : Type 0} {Visited : List Event → V → V → Type 0}
    {Stopped : List Event → V → E → V → Type 0}
    → ((es fs : List Event) (a b c : V)
    → Visited es a b → Visited fs b c → Visited (es ++ fs) a c)
    → ((es fs : List Event) (a b : V) (e : E) (c : V)
    → Visited es a b → Stopped fs b e c → Stopped (es ++ fs) a e c)
    → (es fs : List Event) (limit left : ℕ) (a b : V) (e : Refusal E) (c : V)
    → Visited es a b → left + values_in es ≡ limit
    → StopsAt Visited Stopped fs left b e c → StopsAt Visited Stopped (es ++ fs) limit a e c
stops_later append later es fs limit left a b refusal.TooLarge c h k s =
    passes_later append es fs limit left a b c h k s
stops_later append later es fs limit left a b (refusal.Stopped e) c h k s =
    let both = sum_by-append values es fs in
    let fits = s.1 in
    (later es fs a b e c h s.0, omega arith)
