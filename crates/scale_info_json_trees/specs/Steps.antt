-- How an object is written: row after row, into a tree or as tokens.
use Rattle.std.specs.Prelude.{ℕ, List, [], ◌∷◌, ◌++◌, Bool, true, false, ◌&&◌, Option, Some, None}
use Rattle.std.specs.Ordering.{nat_cmp, match_ordering}
use Rattle.std.specs.Cmp.Lexicographic.{slice_cmp}
use Rattle.json.specs.Token.{Token}
use Rattle.json.specs.Token as token
use Rattle.json.specs.Tree.{json_tokens}
use Rattle.serde_json.specs.Data.{Data, Members, put}
use Rattle.serde_json.specs.Written.{outline}
use Rattle.scale_info_json_trees.specs.Written.{Row}

-- the tokens of a tree's compact text
abbrev pub tokens_of : Data → List Token
tokens_of d = json_tokens (outline d)

-- what a state becomes by the rows, one after another
abbrev pub after_rows : {S : Type 0} → (Row → S → S) → List Row → S → S
after_rows step [] s = s
after_rows step (row ∷ rows) s = after_rows step rows (step row s)

-- the members with this key put to this tree, if there is one
abbrev pub put_if : List ℕ → Option Data → Members → Members
put_if k None ms = ms
put_if k (Some d) ms = put k d ms

-- a row put into a map of members
abbrev pub put_row : Row → Members → Members
put_row row ms = put_if row.0 row.1 ms

-- the tokens of a member appended, if there is a tree for its key
abbrev pub append_if : List ℕ → Option Data → List ℕ × List Token → List ℕ × List Token
append_if k None s = s
append_if k (Some d) s = (s.0, s.1 ++ token.key k ∷ tokens_of d)

-- a row appended to the tokens of a writer, which stand after its first bytes
abbrev pub append_row : Row → List ℕ × List Token → List ℕ × List Token
append_row row s = append_if row.0 row.1 s

-- whether a key stands after another in byte order
abbrev pub is_above : List ℕ → List ℕ → Bool
is_above k l = match_ordering (slice_cmp nat_cmp k l) false false true

-- whether the rows' keys stand after a key
abbrev pub are_above : List ℕ → List Row → Bool
are_above l [] = true
are_above l (row ∷ rows) = is_above row.0 l && are_above l rows

-- whether each key stands after those before it
abbrev pub in_order : List Row → Bool
in_order [] = true
in_order (row ∷ rows) = are_above row.0 rows && in_order rows
