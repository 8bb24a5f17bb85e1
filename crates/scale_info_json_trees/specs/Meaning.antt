-- What a tree means. A tree is what `serde_json` shows of a `Value`.
use Rattle.std.specs.Prelude.{◌≡◌, ℕ, ◌<◌, List, [], ◌∷◌, Option, Some, None, is_some}
use Rattle.std.specs.Prelude.{if◌then◌else◌}
use Rattle.serde_json.specs.Data.{Data, null, number, unsigned, string, array, object, Members}
use Rattle.serde_json.specs.Find.{get, as_null}
use Rattle.serde_json.specs.View.{items_of}

-- a tree means at most one value, and null means none
pub record IsMeaning {A : Type 0} (M : Data → A → Type 0) : Type 0 where
  pub unique : (d : Data) (v w : A) → M d v → M d w → v ≡ w
  pub not_null : (v : A) → M null v → ⊥

-- no value is meant
pub record IsMeaningless {A : Type 0} (P : A → Type 0) : Type 0 where
  pub none : (v : A) → P v → ⊥

-- ---- numbers, texts and lists

-- an integer that isn't negative, below the limit
pub record MeansNumber (limit : ℕ) (d : Data) (n : ℕ) : Type 0 where
  pub fits : n < limit
  pub is : d ≡ number (unsigned n)

-- a string with the bytes of the text
pub record MeansText (d : Data) (text : List ℕ) : Type 0 where
  pub is : d ≡ string text

-- each tree means the value at its index, and there are as many
abbrev pub MeansEach : {A : Type 0} → (Data → A → Type 0) → List Data → List A → Type 0
MeansEach M [] [] = Unit {0}
MeansEach M [] (v ∷ vs) = ⊥
MeansEach M (d ∷ ds) [] = ⊥
MeansEach M (d ∷ ds) (v ∷ vs) = M d v × MeansEach M ds vs

-- an array whose items mean the values, in order
pub record MeansList {A : Type 0} (M : Data → A → Type 0) (d : Data) (vs : List A) : Type 0 where
  pub trees : List Data
  pub is : d ≡ array (items_of trees)
  pub means : MeansEach M trees vs

-- ---- what a key has: None is a missing key

-- null counts as missing
abbrev pub unless_null : Option Data → Option Data
unless_null None = None
unless_null (Some d) = if is_some (as_null d) then None else Some d

-- the key is required
abbrev pub MeansRequired : {A : Type 0} → (Data → A → Type 0) → Option Data → A → Type 0
MeansRequired M None v = ⊥
MeansRequired M (Some d) v = M d v

-- where the key is missing, the list is empty
abbrev pub MeansOrEmpty : {A : Type 0} → (Data → A → Type 0) → Option Data → List A → Type 0
MeansOrEmpty M None vs = vs ≡ []
MeansOrEmpty M (Some d) vs = MeansList M d vs

-- null means None
abbrev pub MeansOrNull : {A : Type 0} → (Data → A → Type 0) → Data → Option A → Type 0
MeansOrNull M d None = d ≡ null
MeansOrNull M d (Some v) = M d v

-- where the key is missing or has null, it is None
abbrev pub MeansOrNone : {A : Type 0} → (Data → A → Type 0) → Option Data → Option A → Type 0
MeansOrNone M None v = v ≡ None
MeansOrNone M (Some d) v = MeansOrNull M d v

-- ---- members of an object; other keys are not looked at

-- the tree is an object
pub record IsObject (d : Data) : Type 0 where
  pub members : Members
  pub is : d ≡ object members

-- the tree has the key, and what it has means the value
abbrev pub HasValue : {A : Type 0} → List ℕ → (Data → A → Type 0) → Data → A → Type 0
HasValue key M d v = MeansRequired M (get key d) v

-- the key has the list, or is missing and the list is empty
abbrev pub HasList : {A : Type 0} → List ℕ → (Data → A → Type 0) → Data → List A → Type 0
HasList key M d vs = MeansOrEmpty M (get key d) vs

-- the key has the value, or is missing or null and there is none
abbrev pub HasOption : {A : Type 0} → List ℕ → (Data → A → Type 0) → Data → Option A → Type 0
HasOption key M d v = MeansOrNone M (get key d) v
