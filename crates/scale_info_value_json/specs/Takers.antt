-- What comes of taking a value from a tree. A tree is what `serde_json` shows of its `Value`.
use Rattle.std.specs.Prelude.{◌≡◌, List, [], ◌∷◌, Option, Some, None}
use Rattle.serde_json.specs.Data.{Data}
use Rattle.scale_info_value_json.specs.declared.error.ValueJsonError.{ValueJsonError}
use Rattle.scale_info_value_json.specs.declared.error.ValueJsonError.TheVariants as error

-- Why no value is taken from a tree: an id is no index of the table, values of a type are not
-- taken, a value is more than 128 deep, or the tree is no value of the type.
pub data Refusal : Type 0 where
  no_such_type : Refusal
  unsupported : Refusal
  too_deep : Refusal
  mismatch : Refusal

-- what was taken from a tree, or why nothing was
pub data Taken (A : Type 0) : Type 0 where
  taken : A → Taken A
  refused : Refusal → Taken A

-- what comes of each tree
abbrev pub Taker : Type 0 → Type 0
Taker A = Data → Taken A

-- what was taken, with a function applied to it
abbrev pub taken_map : {A B : Type 0} → (A → B) → Taken A → Taken B
taken_map f (taken value) = taken (f value)
taken_map f (refused why) = refused why

-- goes on with what was taken; a refusal stays
abbrev pub and_then : {A B : Type 0} → Taken A → (A → Taken B) → Taken B
and_then (taken value) next = next value
and_then (refused why) next = refused why

-- goes on with what was found; where nothing was, the tree is no value of the type
abbrev pub if_found : {A B : Type 0} → Option A → (A → Taken B) → Taken B
if_found None next = refused mismatch
if_found (Some found) next = next found

-- all that was taken, in order; the first refusal counts
abbrev pub all_taken : {A : Type 0} → List (Taken A) → Taken (List A)
all_taken [] = taken []
all_taken (first ∷ more) =
    and_then first (λ value. taken_map (λ values. value ∷ values) (all_taken more))

-- The trees in order, each by the taker in its place; the first refusal counts. Where there are
-- more trees than takers, or fewer, those that have both come first.
abbrev pub in_turn : {A : Type 0} → List (Taker A) → List Data → Taken (List A)
in_turn [] [] = taken []
in_turn [] (tree ∷ trees) = refused mismatch
in_turn (first ∷ more) [] = refused mismatch
in_turn (first ∷ more) (tree ∷ trees) =
    and_then (first tree) (λ value. taken_map (λ values. value ∷ values) (in_turn more trees))

-- the error is the refusal of the tree; a failed allocation says nothing of the tree
abbrev pub IsErrorOf : {A : Type 0} → Taken A → ValueJsonError → Type 0
IsErrorOf outcome error.NoSuchType = outcome ≡ refused no_such_type
IsErrorOf outcome error.Unsupported = outcome ≡ refused unsupported
IsErrorOf outcome error.TooDeep = outcome ≡ refused too_deep
IsErrorOf outcome error.Mismatch = outcome ≡ refused mismatch
IsErrorOf outcome error.Memory = Unit {0}
