-- What a decoded value is as a value of a program's type: a function to an option, which is None
-- where the value is none of the type.
use Rattle.std.specs.Prelude.{ℕ, ℤ, ◌==◌, List, [], ◌∷◌, Option, Some, None, option_map, codes}
use Rattle.std.specs.Prelude.{option_and_then, length, map, if◌then◌else◌, nat_lt, int_lt}
use Rattle.std.specs.Str.{bytes_eq}
use Rattle.scale_info_types.specs.Portable.{Text}
use Rattle.scale_info_value.specs.declared.value.Value.{Value}
use Rattle.scale_info_value_borrowed.specs.ValueParts.{unsigned_in, signed_in, items_in, fields_in}
use Rattle.scale_info_value_borrowed.specs.ValueParts.{variant_in}

-- the number, where it is below the limit
abbrev pub below : ℕ → ℕ → Option ℕ
below limit n = if nat_lt n limit then Some n else None

-- an integer of an unsigned type, below the limit
abbrev pub unsigned : ℕ → Value → Option ℕ
unsigned limit value = option_and_then (below limit) (unsigned_in value)

-- the number, where it is neither less than the least nor more than the most
abbrev pub between : ℤ → ℤ → ℤ → Option ℤ
between least most n = if int_lt n least then None else if int_lt most n then None else Some n

-- an integer of a signed type, in that range
abbrev pub signed : ℤ → ℤ → Value → Option ℤ
signed least most value = option_and_then (between least most) (signed_in value)

-- one after another: the first, and then the others
abbrev pub and_others : {A B : Type 0} → Option A → Option B → Option (A × B)
and_others first others = option_and_then (λ x. option_map (λ xs. (x, xs)) others) first

-- all of them, where none is missing
abbrev pub all_of : {A : Type 0} → List (Option A) → Option (List A)
all_of [] = Some []
all_of (first ∷ others) = option_map (λ both. both.0 ∷ both.1) (and_others first (all_of others))

-- a list: what each of its items is
abbrev pub list : {A : Type 0} → (Value → Option A) → Value → Option (List A)
list meant value = option_and_then (λ items. all_of (map meant items)) (items_in value)

-- the list, where it is of that length
abbrev pub of_length : {A : Type 0} → ℕ → List A → Option (List A)
of_length n xs = if length xs == n then Some xs else None

-- a list of that many items
abbrev pub array : {A : Type 0} → ℕ → (Value → Option A) → Value → Option (List A)
array n meant value = option_and_then (of_length n) (list meant value)

-- no value is left: the end of the members of a tuple
abbrev pub no_members : List Value → Option (Unit {0})
no_members [] = Some tt
no_members (value ∷ values) = None

-- the first member, and then the others
abbrev pub member_and :
    {A B : Type 0} → (Value → Option A) → (List Value → Option B) → List Value → Option (A × B)
member_and first others [] = None
member_and first others (value ∷ values) = and_others (first value) (others values)

-- a tuple: a list of just its members
abbrev pub tuple : {A : Type 0} → (List Value → Option A) → Value → Option A
tuple members value = option_and_then members (items_in value)

-- the variant `None` with no field holds no value, and `Some` with one field holds that field
abbrev pub held_by : Text → List (Option Text × Value) → Option (Option Value)
held_by name [] = if bytes_eq name (codes "None") then Some None else None
held_by name (field ∷ []) = if bytes_eq name (codes "Some") then Some (Some field.1) else None
held_by name (field ∷ second ∷ more) = None

-- what an option holds, whatever the indices of its variants are
abbrev pub option_in : Value → Option (Option Value)
option_in value = option_and_then (λ name. held_by name (fields_in value)) (variant_in value)

-- what a value is that is held
abbrev pub if_held : {A : Type 0} → (Value → Option A) → Option Value → Option (Option A)
if_held meant None = Some None
if_held meant (Some value) = option_map Some (meant value)

-- an option: what it holds, if anything
abbrev pub optional : {A : Type 0} → (Value → Option A) → Value → Option (Option A)
optional meant value = option_and_then (if_held meant) (option_in value)
