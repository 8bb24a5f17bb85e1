-- A value's events are of as many values as it is.
use Rattle.std.proofs.Common.{◌≡◌, ◌+◌, ◌≤◌, ◌<◌, ℕ, Bool, false, List, [], ◌∷◌, ◌++◌, length, map, Option, None, refl, ap, sym, subst, ◌∙◌, append_assoc, arith}
use Rattle.std.specs.List.{flat_map, sum, sum_by}
use Rattle.std.proofs.lemmas.List.Sums.{sum_by-append}
use Rattle.scale_info_types.specs.Portable.{Text}
use Rattle.scale_info_table.specs.declared.portable.PortableRegistry.{PortableRegistry}
use Rattle.scale_info_value.specs.Outcomes.{Outcome, decoded}
use Rattle.scale_info_value.specs.declared.value.Value.{Value}
use Rattle.scale_info_value.specs.declared.value.Value.TheOpen.{Value-F}
use Rattle.scale_info_value.specs.declared.value.Value.TheOpen as layer
use Rattle.scale_info_value.specs.declared.value.Value.TheViews.{roll-Value}
use Rattle.scale_info_value.specs.declared.value.Value.TheFolds.{fold-roll-Value, map-Value}
use Rattle.scale_info_value.proofs.ByLayers.{Known, lower, by_layers}
use Rattle.scale_info_value_visit.specs.Events.{Event, truth, unsigned, signed, text, bytes, begin_list, end_list, begin_record, end_record}
use Rattle.scale_info_value_visit.specs.Events.{begin_variant, end_variant, field, field_events, keys, all_named, events_step, events_of, events, definition_at}
use Rattle.scale_info_value_visit.specs.Sizes.{size_step, size, values, values_in, HasPassed}
use Rattle.scale_info_value.specs.declared.value.Failure.{Failure}
use Rattle.scale_info_value_visit.specs.Visits.{BeginsWith, HasFailed, StopsWithin, IsVisitErrorOf}
use Rattle.scale_info_value_visit.specs.declared.visitor.VisitError.{VisitError}
use Rattle.scale_info_value_visit.specs.declared.visitor.VisitError.TheVariants as error
use Rattle.scale_info_value_visit.proofs.OneByOne.{without_type, all_alike}

-- a sum by its first
sum_more : {X : Type 0} (f : X → ℕ) (x : X) (xs : List X) → sum_by f (x ∷ xs) ≡ f x + sum_by f xs
sum_more f x xs = let both = sum_by-append f (x ∷ []) xs in let one : sum_by f (x ∷ []) ≡ f x = omega arith in omega arith

-- integers in a row are so many values
integers_many : (all : List ℕ) → values_in (map unsigned all ++ end_list ∷ []) ≡ length all
integers_many [] = refl
integers_many (n ∷ all) =
    let rest = integers_many all in
    let more = sum_more values (unsigned n) (map unsigned all ++ end_list ∷ []) in
    omega arith

-- an event with all forgotten that a type says is of as many values
one_apart : (e : Event) → values e ≡ values_in (without_type e)
one_apart (truth b) = refl
one_apart (unsigned n) = refl
one_apart (signed n) = refl
one_apart (text t) = refl
one_apart (bytes b) =
    let many = integers_many b in
    let more = sum_more values (begin_list (length b)) (map unsigned b ++ end_list ∷ []) in
    omega arith
one_apart (begin_list n) = refl
one_apart end_list = refl
one_apart (begin_record ns known) = refl
one_apart (end_record ns known) = refl
one_apart (begin_variant t n ns b known) = refl
one_apart (end_variant t n ns b known) = refl
one_apart (field t b known) = refl

-- so are all
all_apart : (es : List Event) → values_in es ≡ values_in (flat_map without_type es)
all_apart [] = refl
all_apart (e ∷ es) =
    let here = one_apart e in
    let rest = all_apart es in
    let more = sum_more values e es in
    let both = sum_by-append values (without_type e) (flat_map without_type es) in
    omega arith

-- its events are of as many values as it is
abbrev Counted : Value → Type 0
Counted d = values_in (events_of d) ≡ size d

-- parts in a row are of as many values as all of them
items_many :
    (ks : List (Known Counted)) (last : Event) → values last ≡ 0
    → values_in (flat_map (λ e. e) (map events_of (map (λ (h : Known Counted). h.0) ks)) ++ last ∷ [])
    ≡ sum (map size (map (λ (h : Known Counted). h.0) ks))
items_many [] last none = omega arith
items_many (k ∷ ks) last none =
    let here = k.1 in
    let rest = items_many ks last none in
    let others : List Event =
    flat_map (λ e. e) (map events_of (map (λ (h : Known Counted). h.0) ks)) in
    let both =
    ap values_in (append_assoc (events_of k.0) others (last ∷ [])) ∙ sum_by-append values (events_of k.0) (others ++ last ∷ []) in
    let more = sum_more (λ n. n) (size k.0) (map size (map (λ (h : Known Counted). h.0) ks)) in
    omega arith

-- fields of such values
abbrev fields_of : List (Option Text × Known Counted) → List (Option Text × Value)
fields_of ks = map (λ (k : Option Text × Known Counted). (k.0, k.1.0)) ks

-- they with their events
abbrev plain_fields : List (Option Text × Known Counted) → List (Option Text × List Event)
plain_fields ks = map (λ (f : Option Text × Value). (f.0, events_of f.1)) (fields_of ks)

-- the events of fields
abbrev shown_fields : Bool → List (Option Text × Known Counted) → List Event
shown_fields named ks = flat_map (field_events named) (plain_fields ks)

-- so are fields
fields_many :
    (named : Bool) (ks : List (Option Text × Known Counted)) (last : Event) → values last ≡ 0
    → values_in (shown_fields named ks ++ last ∷ [])
    ≡ sum_by (λ (f : Option Text × ℕ). f.1) (map (λ (f : Option Text × Value). (f.0, size f.1)) (fields_of ks))
fields_many named [] last none = omega arith
fields_many named (k ∷ ks) last none =
    let here = k.1.1 in
    let rest = fields_many named ks last none in
    let name = sum_more values (field k.0 named None) (events_of k.1.0 ++ (shown_fields named ks ++ last ∷ [])) in
    let both =
    ap (λ es. values_in (field k.0 named None ∷ es)) (append_assoc (events_of k.1.0) (shown_fields named ks) (last ∷ [])) in
    let parts = sum_by-append values (events_of k.1.0) (shown_fields named ks ++ last ∷ []) in
    let more =
    sum_more (λ (f : Option Text × ℕ). f.1) (k.0, size k.1.0) (map (λ (f : Option Text × Value). (f.0, size f.1)) (fields_of ks)) in
    omega arith

-- what begins with one value
begins_with :
    (first : Event) (es : List Event) (n : ℕ) → values first ≡ 1 → values_in es ≡ n → values_in (first ∷ es) ≡ 1 + n
begins_with first es n one many = let more = sum_more values first es in omega arith

-- one step of a layer
step_counted :
    (y : Value-F (Known Counted))
    → values_in (events_step (map-Value Value (List Event) events_of (lower Counted y)))
    ≡ size_step (map-Value Value ℕ size (lower Counted y))
step_counted (layer.Bool b) = refl
step_counted (layer.Unsigned n) = refl
step_counted (layer.Signed n) = refl
step_counted (layer.Text t) = refl
step_counted (layer.List ks) =
    let items : List (List Event) = map events_of (map (λ (h : Known Counted). h.0) ks) in
    begins_with (begin_list (length items)) (flat_map (λ e. e) items ++ end_list ∷ []) _ refl (items_many ks end_list refl)
step_counted (layer.Record ks) =
    let names = keys (plain_fields ks) in
    begins_with (begin_record names None) (shown_fields (all_named names) ks ++ end_record names None ∷ []) _ refl
    (fields_many (all_named names) ks (end_record names None) refl)
step_counted (layer.Variant name index ks) =
    let names = keys (plain_fields ks) in
    begins_with (begin_variant name index names false None) (shown_fields (all_named names) ks ++ end_variant name index names false None ∷ []) _ refl
    (fields_many (all_named names) ks (end_variant name index names false None) refl)

-- each layer
layers_counted : (y : Value-F (Known Counted)) → Counted (roll-Value (lower Counted y))
layers_counted y =
    ap values_in (fold-roll-Value (List Event) events_step (lower Counted y)) ∙ step_counted y
    ∙ sym (fold-roll-Value ℕ size_step (lower Counted y))

-- the events of a value are of as many values as it is
pub events_many : (table : PortableRegistry) (id : ℕ) (value : Value) → values_in (events table id value) ≡ size value
events_many table id value =
    all_apart (events table id value) ∙ ap values_in (all_alike table value (definition_at table id))
    ∙ by_layers Counted layers_counted value

-- one value that was decoded twice is the same
same_value :
    {A : Type 0} (outcome : Outcome A) (v w : A) (r s : List ℕ)
    → outcome ≡ decoded v r → outcome ≡ decoded w s → v ≡ w
same_value outcome v w r s e f = let h : decoded v r ≡ decoded w s = sym e ∙ f in cc

-- a value that was shown is of as many values as its events, which are so many
pub fits :
    (table : PortableRegistry) (id left limit : ℕ) (outcome : Outcome Value) (shown value : Value) (rest other : List ℕ)
    → outcome ≡ decoded shown rest → left + values_in (events table id shown) ≡ limit
    → outcome ≡ decoded value other → size value ≤ limit
fits table id left limit outcome shown value rest other e h f =
    let same = ap size (same_value outcome value shown other rest f e) in
    let many = events_many table id shown in
    omega arith

-- what begins with some events begins with the first of them
pub begins_with_both : {all some first : List Event} → BeginsWith all some → BeginsWith some first → BeginsWith all first
begins_with_both {first = first} h k = record {
  rest = k.rest ++ h.rest;
  parts = h.parts ∙ ap (λ es. es ++ h.rest) k.parts ∙ append_assoc first k.rest h.rest;
}

-- it failed so
pub failed_with :
    {A V E : Type 0} (Visited : List Event → V → V → Type 0) (Stopped : List Event → V → E → V → Type 0)
    (all : List Event) (outcome : Outcome A) (old new : V) (e : VisitError E) (why : Failure)
    → e ≡ error.Failed why → IsVisitErrorOf Visited Stopped all outcome old new e
    → HasFailed Visited all outcome why old new
failed_with Visited Stopped all outcome old new e why f h =
    subst (λ d. IsVisitErrorOf Visited Stopped all outcome old new d) f h

-- the visitor stopped with this error
pub stopped_with :
    {A V E : Type 0} (Visited : List Event → V → V → Type 0) (Stopped : List Event → V → E → V → Type 0)
    (all : List Event) (outcome : Outcome A) (old new : V) (e : VisitError E) (why is : E)
    → e ≡ error.Stopped why → why ≡ is → IsVisitErrorOf Visited Stopped all outcome old new e
    → StopsWithin Stopped all old is new
stopped_with Visited Stopped all outcome old new e why is f g h =
    subst (λ w. StopsWithin Stopped all old w new) g
    (subst (λ d. IsVisitErrorOf Visited Stopped all outcome old new d) f h)

-- where fewer are left than an event is of, a visitor with a limit stops before it
pub past_limit :
    {V : Type 0} {Visited : List Event → V → V → Type 0} {old : V} (event : Event) (left : ℕ)
    → Visited [] old old → left < values event → HasPassed Visited (event ∷ []) left old old
past_limit event left none h =
    let one = sum_more values event [] in
    record {
      shown = [];
      next = event;
      visited = none;
      first = record { rest = []; parts = refl };
      fits = omega arith;
      past = omega arith;
    }
