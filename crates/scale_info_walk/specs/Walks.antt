-- Walks along references: what they keep, and why they stop.
use Rattle.std.specs.Prelude.{◌≡◌, ◌≢◌, ℕ, ◌+◌, ◌*◌, ◌^◌, ◌<◌, ◌≤◌, List, [], ◌∷◌, ◌++◌, Option}
use Rattle.std.specs.Prelude.{Some, None, ◌⊎◌, ⊤, Contains, length, slice_get}
use Rattle.scale_info_numberings.specs.Systems.{Entry, System, IsFirstOutside, looks}
use Rattle.scale_info_numberings.specs.Numberings.{IsNumbering}
use Rattle.scale_info_walk.specs.declared.walk.Renumbering.{Renumbering}
use Rattle.scale_info_walk.specs.declared.walk.RetainError.{RetainError}
use Rattle.scale_info_walk.specs.declared.walk.RetainError.TheVariants.{Dangling, TooManyTypes}
use Rattle.scale_info_walk.specs.declared.walk.RetainError.TheVariants.{Memory}

-- the next of these is taken out and counted; where there is none, nothing changes
abbrev pub IsNextOf : List ℕ → Option ℕ → List ℕ → ℕ → ℕ → Type 0
IsNextOf [] next left before after = (next ≡ None) × (left ≡ []) × (after ≡ before)
IsNextOf (r ∷ rs) next left before after = (next ≡ Some r) × (left ≡ rs) × (after ≡ before + 1)

-- a dense list of an order: at each index that the order has, its place in the order; at each other
-- one the number 4294967295
pub record AreNumbers (order numbers : List ℕ) : Type 0 where
  pub numbered :
      (k n : ℕ) → slice_get numbers k ≡ Some n → n ≢ 4294967295 → slice_get order n ≡ Some k
  pub placed : (n k : ℕ) → slice_get order n ≡ Some k → slice_get numbers k ≡ Some n

-- Why a numbering of what the roots reach can stop, where there are count indices and the known
-- ones are not entered: an id is met that is no index, and it is the first such; there are more than
-- 4294967295 indices; or an allocation failed.
abbrev pub IsWalkError : {Sh : Type 0} → System Sh ℕ → ℕ → List ℕ → List ℕ → RetainError → Type 0
IsWalkError S count known roots (Dangling id) = IsFirstOutside S known roots id × (count ≤ id)
IsWalkError S count known roots TooManyTypes = 4294967295 < count
IsWalkError S count known roots Memory = ⊤

-- what a walk has so far: an order, its dense list, and no more steps than there are references
pub record IsWalk {Sh : Type 0} (S : System Sh ℕ) (count : ℕ) (order numbers : List ℕ)
    (steps : ℕ) : Type 0 where
  pub dense : AreNumbers order numbers
  pub long : length numbers ≡ count
  pub few : count ≤ 4294967295
  pub counted : steps ≤ looks S order
  pub bounded : looks S order ≤ length order * 2 ^ 63

-- an earlier numbering of so many entries, whose buffers another can reuse, if there is one
abbrev pub IsRoom : (count : ℕ) → Option Renumbering → Type 0
IsRoom count None = ⊤
IsRoom count (Some found) =
    AreNumbers found.order.items found.numbers.items × (length found.numbers.items ≡ count)
    × (count ≤ 4294967295)

-- a numbering of what the roots reach, with its dense list, and as many steps as there are
-- references in what is reached
pub record IsWalked {Sh : Type 0} (S : System Sh ℕ) (count : ℕ) (roots : List ℕ)
    (found : Renumbering) : Type 0 where
  pub numbering : IsNumbering S roots found.order.items
  pub walk : IsWalk S count found.order.items found.numbers.items found.steps
  pub steps : found.steps ≡ looks S found.order.items

-- one look: the id stands in the order, and nothing changes; or it is added to the order, and its
-- references come before those that are left
abbrev pub IsLook : {Sh : Type 0} → System Sh ℕ → ℕ → List ℕ → List ℕ → List ℕ → List ℕ → Type 0
IsLook {Sh} S id order left order_after left_after =
    (Contains order id × (order_after ≡ order) × (left_after ≡ left))
    ⊎ ((d : Entry Sh ℕ) × (S id ≡ Some d) × ¬ (Contains order id)
    × (order_after ≡ order ++ id ∷ []) × (left_after ≡ d.refs ++ left) × (length d.refs < 2 ^ 63))
