-- Trees that are written. A tree is what `serde_json` shows of a `Value`.
use Rattle.std.specs.Prelude.{ℕ, List, [], ◌∷◌, Option, Some, None, map}
use Rattle.serde_json.specs.Data.{Data, null, array, object, Members, no_members, member}
use Rattle.serde_json.specs.View.{items_of}

-- the array of the values' trees, in order
abbrev pub list_tree : {A : Type 0} → (A → Data) → List A → Data
list_tree W vs = array (items_of (map W vs))

-- a key and its tree; None where the key is left out
abbrev pub Row : Type 0
Row = List ℕ × Option Data

-- the members with one more in front, if there is a tree for its key
abbrev pub member_if : List ℕ → Option Data → Members → Members
member_if k None ms = ms
member_if k (Some d) ms = member k d ms

-- the members of the rows that aren't left out, in order
abbrev pub members_of : List Row → Members
members_of [] = no_members
members_of (row ∷ rows) = member_if row.0 row.1 (members_of rows)

-- the object with these members
abbrev pub object_tree : List Row → Data
object_tree rows = object (members_of rows)

-- the list's array; left out where the list is empty
abbrev pub unless_empty : {A : Type 0} → (A → Data) → List A → Option Data
unless_empty W [] = None
unless_empty W (v ∷ vs) = Some (list_tree W (v ∷ vs))

-- the value's tree; null for None
abbrev pub or_null : {A : Type 0} → (A → Data) → Option A → Data
or_null W None = null
or_null W (Some v) = W v
