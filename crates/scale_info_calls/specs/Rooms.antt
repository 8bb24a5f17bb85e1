-- What a call leaves in the caller's room.
use Rattle.std.specs.Prelude.{◌≡◌, ◌<◌, ◌++◌, ℕ, List, drop, length}
use Rattle.scale_info_calls.specs.declared.error.CallError.{CallError}
use Rattle.scale_info_calls.specs.declared.error.CallError.TheVariants as errors

-- the room begins with the items, of which there are so many, and what comes after them is as before
pub record Holds {A : Type 0} (items old new : List A) (count : ℕ) : Type 0 where
  pub long : count ≡ length items
  pub room : new ≡ items ++ drop (length items) old

-- the items do not fit the room, and so many are wanted
pub record LacksRoom {A : Type 0} (items room : List A) (wanted : ℕ) : Type 0 where
  pub long : wanted ≡ length items
  pub short : length room < length items

-- the error is that the items do not fit the room
abbrev pub IsShortFor : {A : Type 0} → (items room : List A) → CallError → Type 0
IsShortFor items room (errors.NoRoom wanted) = LacksRoom items room wanted
IsShortFor items room error = ⊥

-- an output is given: the room begins with it, and what comes after it is as before
pub record Gives {A : Type 0} (IsOutput : List A → Type 0) (old new : List A) (count : ℕ)
    : Type 0 where
  pub output : List A
  pub is_output : IsOutput output
  pub holds : Holds output old new count

-- there is an output, which does not fit the room, and this much is wanted
pub record IsTooShort {A : Type 0} (IsOutput : List A → Type 0) (room : List A) (wanted : ℕ)
    : Type 0 where
  pub output : List A
  pub is_output : IsOutput output
  pub lacks : LacksRoom output room wanted

-- why no output is given: it does not fit the room; or there is none, for this reason
abbrev pub Refuses : {A : Type 0} → (IsOutput : List A → Type 0) → (HasNone : CallError → Type 0)
    → (room : List A) → CallError → Type 0
Refuses IsOutput HasNone room (errors.NoRoom wanted) = IsTooShort IsOutput room wanted
Refuses IsOutput HasNone room error = HasNone error
