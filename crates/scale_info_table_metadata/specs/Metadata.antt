-- Metadata of a node, and the byte strings in which it comes.
use Rattle.std.specs.Prelude.{◌≡◌, ℕ, ◌≤◌, List, [], ◌∷◌, ◌++◌, length}
use Rattle.scale_info_bytes.specs.Integers.{EncodesCompact}

-- the word "meta", with which metadata begins
abbrev pub word : List ℕ
word = 109 ∷ 101 ∷ 116 ∷ 97 ∷ []

-- the input encodes a byte string: the count of its bytes as a compact integer, and its bytes
pub record EncodesBytes (bytes input : List ℕ) : Type 0 where
  pub count : List ℕ
  pub counts : EncodesCompact (length bytes) count
  pub parts : input ≡ count ++ bytes

-- the input encodes an option of a byte string that has these bytes: a byte 1, and the byte string
pub record EncodesSomeBytes (bytes input : List ℕ) : Type 0 where
  pub string : List ℕ
  pub encodes : EncodesBytes bytes string
  pub parts : input ≡ 1 ∷ string

-- The input is metadata, which this follows after its word: alone, in a byte string, or in an
-- option of one.
pub data IsMetadata : List ℕ → List ℕ → Type 0 where
  alone : {after input : List ℕ} → input ≡ word ++ after → IsMetadata after input
  in_string : {after input : List ℕ} → EncodesBytes (word ++ after) input → IsMetadata after input
  in_option :
      {after input : List ℕ} → EncodesSomeBytes (word ++ after) input → IsMetadata after input

-- the input is no metadata
abbrev pub IsNoMetadata : List ℕ → Type 0
IsNoMetadata input = (after : List ℕ) → IsMetadata after input → ⊥

-- in metadata of this version a table follows the version
abbrev pub HasTable : ℕ → Type 0
HasTable version = (14 ≤ version) × (version ≤ 16)
