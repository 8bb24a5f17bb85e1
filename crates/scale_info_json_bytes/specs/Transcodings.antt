-- What is read from bytes and written as JSON.
use Rattle.std.specs.Prelude.{◌≡◌, ℕ, List, [], ◌∷◌, ◌++◌, Some, length}
use Rattle.json.specs.Token.{Token}
use Rattle.json.specs.Written.{Written}
use Rattle.serde_json.specs.Data.{Data}
use Rattle.serde_json.specs.Written.{compact_text}
use Rattle.scale_info_bytes.specs.Encodings.{HasPrefix}
use Rattle.scale_info_bytes.specs.Parts.{EncodesItems, EncodesList}
use Rattle.scale_info_grammar.specs.Ty.{EncodesTypes}
use Rattle.scale_info_json_trees.specs.EntryTrees.{types_tree}
use Rattle.scale_info_json_trees.specs.Steps.{after_rows, append_row, tokens_of}
use Rattle.scale_info_json_trees.specs.Written.{list_tree, Row}
use Rattle.scale_info_types.specs.declared.ty.PortableType.{PortableType}

-- the tokens of the values' trees, one tree after another
abbrev pub tokens_of_each : {A : Type 0} → (A → Data) → List A → List Token
tokens_of_each W [] = []
tokens_of_each W (v ∷ values) = tokens_of (W v) ++ tokens_of_each W values

-- the input begins with a value, this is the rest, and the tokens grew by those of its tree
pub record WritesOne {A : Type 0} (S : A → List ℕ → Type 0) (W : A → Data)
    (input rest : List ℕ) (old new : List Token) : Type 0 where
  pub value : A
  pub read : HasPrefix (S value) input rest
  pub tokens : new ≡ old ++ tokens_of (W value)

-- what a writer's buffer held at the start, and the tokens after it
abbrev pub state_of : Written → List ℕ × List Token
state_of writer = (writer.before, writer.tokens)

-- the row was appended to what a writer has written
pub record AppendsRow (row : Row) (old new : Written) : Type 0 where
  pub state : state_of new ≡ append_row row (state_of old)

-- the input begins with a value, this is the rest, and the value's row was appended
pub record WritesRow {A : Type 0} (S : A → List ℕ → Type 0) (R : A → Row)
    (input rest : List ℕ) (old new : Written) : Type 0 where
  pub value : A
  pub read : HasPrefix (S value) input rest
  pub appends : AppendsRow (R value) old new

-- the input begins with a value, this is the rest, and the value's rows were appended
pub record WritesRows {A : Type 0} (S : A → List ℕ → Type 0) (R : A → List Row)
    (input rest : List ℕ) (old new : Written) : Type 0 where
  pub value : A
  pub read : HasPrefix (S value) input rest
  pub append : state_of new ≡ after_rows append_row (R value) (state_of old)

-- the rows of a pair: each part under its key
abbrev pub two_rows_of :
    {A B : Type 0} → List ℕ → List ℕ → (A → Data) → (B → Data) → A × B → List Row
two_rows_of first second W V v = (first, Some (W v.0)) ∷ (second, Some (V v.1)) ∷ []

-- the input begins with so many values, this is the rest, and the tokens grew by those of their
-- trees
pub record WritesItems {A : Type 0} (S : A → List ℕ → Type 0) (W : A → Data) (count : ℕ)
    (input rest : List ℕ) (old new : List Token) : Type 0 where
  pub values : List A
  pub counted : length values ≡ count
  pub read : HasPrefix (EncodesItems S values) input rest
  pub tokens : new ≡ old ++ tokens_of_each W values

-- the input begins with a list, this is the rest, and the tokens grew by those of its array
pub record WritesList {A : Type 0} (S : A → List ℕ → Type 0) (W : A → Data)
    (input rest : List ℕ) (old new : List Token) : Type 0 where
  pub values : List A
  pub read : HasPrefix (EncodesList S values) input rest
  pub tokens : new ≡ old ++ tokens_of (list_tree W values)

-- the input begins with a table of these entries, this is the rest, and the text grew by that of
-- the table's tree
pub record AppendsJson (input rest old new : List ℕ) : Type 0 where
  pub types : List PortableType
  pub read : HasPrefix (EncodesTypes types) input rest
  pub text : new ≡ old ++ compact_text (types_tree types)
