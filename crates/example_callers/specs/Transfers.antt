-- What the transfers of a value move together.
use Rattle.std.specs.Prelude.{◌≡◌, ◌≤◌, ◌^◌, ℕ, ◌+◌, Bool, false, ◌&&◌, cond, List, [], ◌∷◌}
use Rattle.std.specs.Prelude.{Option, Some, None, codes}
use Rattle.std.specs.Str.{bytes_eq}
use Rattle.scale_info.specs.Types.{Value}
use Rattle.scale_info.specs.Events.{Event, unsigned, begin_variant, field}
use Rattle.scale_info.specs.Outcomes.{Outcome, decoded, failed}
use Rattle.scale_info.specs.Types.{VisitError}
use Rattle.scale_info.specs.VisitErrors as error
use Rattle.example_callers.specs.declared.transfers.Transfers.{Transfers}
use Rattle.example_callers.specs.declared.transfers.TooMuch.{TooMuch}

-- whether the variant that began last is a transfer, and whether the event before was the field of
-- an amount
pub record Place : Type 0 where
  pub in_transfer : Bool
  pub at_amount : Bool

-- before the first event
abbrev pub outside : Place
outside = record { in_transfer = false; at_amount = false }

-- whether a field is an amount
abbrev pub is_amount : Option (List ℕ) → Bool
is_amount (Some name) = bytes_eq name (codes "amount")
is_amount None = false

-- where an event leads
abbrev pub after : Event → Place → Place
after (begin_variant name index names shared known) place =
    record { in_transfer = bytes_eq name (codes "Transfer"); at_amount = false }
after (field name named known) place =
    record { in_transfer = place.in_transfer; at_amount = is_amount name }
after _ place = record { in_transfer = place.in_transfer; at_amount = false }

-- what an event adds
abbrev pub amount : Event → Place → ℕ
amount (unsigned n) place = cond (place.in_transfer && place.at_amount) n 0
amount _ place = 0

-- what some events add: each integer that comes right after the field `amount` of a `Transfer`
abbrev pub moved : Place → List Event → ℕ
moved place [] = 0
moved place (event ∷ events) = amount event place + moved (after event place) events

-- where a visitor is
abbrev pub place : Transfers → Place
place v = record { in_transfer = v.in_transfer; at_amount = v.at_amount }

-- what an event does to a visitor
abbrev pub Adds : Event → Transfers → Transfers → Type 0
Adds event old new =
    (new.total ≡ old.total + amount event (place old)) × (place new ≡ after event (place old))

-- an event adds more than there is room for
abbrev pub AddsTooMuch : Event → Transfers → TooMuch → Transfers → Type 0
AddsTooMuch event old why new = 2 ^ 128 ≤ old.total + amount event (place old)

-- the outcome is some value, and its transfers move this much
pub record HasMoved (events : Value → List Event) (outcome : Outcome Value) (total : ℕ) : Type 0 where
  pub value : Value
  pub rest : List ℕ
  pub read : outcome ≡ decoded value rest
  pub sum : total ≡ moved outside (events value)

-- the error is the failure of the outcome, or the transfers of its value move too much
abbrev pub IsMovedError : (Value → List Event) → Outcome Value → VisitError TooMuch → Type 0
IsMovedError events outcome (error.Failed why) = outcome ≡ failed why
IsMovedError events outcome (error.Stopped e) =
    (value : Value) (rest : List ℕ) → outcome ≡ decoded value rest
    → 2 ^ 128 ≤ moved outside (events value)
