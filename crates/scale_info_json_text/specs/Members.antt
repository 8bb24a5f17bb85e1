-- What is read under the keys of an object.
use Rattle.std.specs.Prelude.{◌≡◌, ℕ, List, Option, Some, None}
use Rattle.json.specs.Token.{Token}
use Rattle.serde_json.specs.Data.{Data, Members, put}
use Rattle.serde_json.specs.Find.{get_member}
use Rattle.scale_info_json_trees.specs.Meaning.{IsMeaningless}
use Rattle.scale_info_json_text.specs.declared.member.Member.{Member}
use Rattle.scale_info_json_text.specs.declared.member.Member.TheVariants as found
use Rattle.scale_info_json_text.specs.Readings.{Reads}

-- what was read is what the tree of a key means, or the key is missing
abbrev pub HoldsAt : {A : Type 0} → (Data → A → Type 0) → Member A → Option Data → Type 0
HoldsAt M found.Missing o = o ≡ None
HoldsAt M found.Meaningless o = (tree : Data) × (o ≡ Some tree) × IsMeaningless (M tree)
HoldsAt M (found.Value v) o = (tree : Data) × (o ≡ Some tree) × M tree v

-- what was read of the members is what the key has
abbrev pub HoldsOne : {A : Type 0} → List ℕ → (Data → A → Type 0) → Member A → Members → Type 0
HoldsOne key M found members = HoldsAt M found (get_member key members)

-- each part of what was read is what its keys have
abbrev pub HoldsBoth :
    {F G : Type 0} → (F → Members → Type 0) → (G → Members → Type 0)
    → F × G → Members → Type 0
HoldsBoth P Q found members = P found.0 members × Q found.1 members

-- what was read of the members is what the two keys have
abbrev pub HoldsTwo :
    {A B : Type 0} → List ℕ → List ℕ → (Data → A → Type 0) → (Data → B → Type 0)
    → Member A × Member B → Members → Type 0
HoldsTwo key other M N = HoldsBoth (HoldsOne key M) (HoldsOne other N)

-- no key is one of both
abbrev pub AreApart : (List ℕ → Type 0) → (List ℕ → Type 0) → Type 0
AreApart P Q = (key : List ℕ) → P key → Q key → ⊥

-- a tree is read, with which as the key's value Q is so of any members of which P was so
abbrev pub ReadsInto :
    List ℕ → (Members → Type 0) → (Members → Type 0) → ℕ → List Token → List Token → Type 0
ReadsInto key P Q depth tokens rest =
    Reads (λ tree. (members : Members) → P members → Q (put key tree members)) depth tokens rest
