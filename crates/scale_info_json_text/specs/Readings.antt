-- What reading a text says of the tree that `serde_json` makes of it.
use Rattle.std.specs.Prelude.{◌≡◌, ℕ, List, [], ◌∷◌, ◌++◌, length, Option, Some, None}
use Rattle.json.specs.Token.{Token}
use Rattle.json.specs.Json.{items, members, value}
use Rattle.serde_json.specs.Data.{Data, Members, no_members}
use Rattle.serde_json.specs.Read.{of_json, of_items, of_members, converted}
use Rattle.serde_json.specs.View.{items_of}
use Rattle.scale_info_json_trees.specs.Meaning.{IsMeaningless}
use Rattle.scale_info_json_text.specs.declared.stop.Stop.{Stop}
use Rattle.scale_info_json_text.specs.declared.stop.Stop.TheVariants as stop

-- the fact, where the text is no JSON
abbrev pub IfSyntax : Type 0 → Stop → Type 0
IfSyntax P stop.Syntax = P
IfSyntax P stop.Memory = Unit {0}

-- the value that is meant, or None where none is
abbrev pub IsMeant : {A : Type 0} → (A → Type 0) → Option A → Type 0
IsMeant P None = IsMeaningless P
IsMeant P (Some v) = P v

-- the tokens begin with those of a tree, nested no deeper, of which P is so; the rest follows
pub record Reads (P : Data → Type 0) (depth : ℕ) (tokens rest : List Token) : Type 0 where
  pub tree : Data
  pub begins : converted of_json (value depth tokens) ≡ Some (tree, rest)
  pub is : P tree

-- the tokens begin with those of no tree
abbrev pub HasNoTree : ℕ → List Token → Type 0
HasNoTree depth tokens = converted of_json (value depth tokens) ≡ None

-- the tokens begin with an array's trees, of which P is so, and its bracket; the rest follows
pub record ReadsItems (P : List Data → Type 0) (depth : ℕ) (tokens rest : List Token) : Type 0 where
  pub trees : List Data
  pub begins :
      converted of_items (items (value depth) (length tokens) tokens)
      ≡ Some (items_of trees, rest)
  pub is : P trees

-- the tokens begin with no array's trees and its bracket
abbrev pub HasNoItems : ℕ → List Token → Type 0
HasNoItems depth tokens = converted of_items (items (value depth) (length tokens) tokens) ≡ None

-- the members of an object in the order of the text, put into a map: the last of a key stays
abbrev pub members_put : ℕ → List Token → Option (Members × List Token)
members_put depth tokens =
    converted (λ ms. of_members ms no_members) (members (value depth) (length tokens) tokens)

-- the tokens begin with an object's members, of whose map P is so, and its brace; the rest follows
pub record ReadsMembers (P : Members → Type 0) (depth : ℕ) (tokens rest : List Token) : Type 0 where
  pub found : Members
  pub begins : members_put depth tokens ≡ Some (found, rest)
  pub is : P found

-- the tokens begin with no object's members and its brace
abbrev pub HasNoMembers : ℕ → List Token → Type 0
HasNoMembers depth tokens = members_put depth tokens ≡ None

-- the list with one more value at its end; None where the list or the value is
abbrev pub with_last : {A : Type 0} → Option (List A) → Option A → Option (List A)
with_last None found = None
with_last (Some vs) None = None
with_last (Some vs) (Some v) = Some (vs ++ v ∷ [])
