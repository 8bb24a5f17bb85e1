-- What is read of definitions.
use Rattle.std.specs.Prelude.{◌≡◌, ℕ, List, Option}
use Rattle.serde_json.specs.Data.{Data, Members, no_members, member}
use Rattle.scale_info_json_trees.specs.Meaning.{IsMeaningless, IsObject}
use Rattle.scale_info_json_trees.specs.DefinitionTrees.{MeansTypeDef, MeansUnder}
use Rattle.scale_info_types.specs.Portable as portable
use Rattle.scale_info_json_text.specs.declared.definition.FoundDefinition.{FoundDefinition}
use Rattle.scale_info_json_text.specs.declared.definition.FoundDefinition.TheVariants as found
use Rattle.scale_info_json_text.specs.Readings.{IsMeant}

-- the tree means a value of which this one is made
abbrev pub MeansFrom :
    {A B : Type 0} → (Data → A → Type 0) → (A → B → Type 0) → Data → B → Type 0
MeansFrom {A} {B} M makes tree made = (v : A) × M tree v × makes v made

-- the key names no kind of definitions
abbrev pub IsUnknown : List ℕ → Type 0
IsUnknown key = (tree : Data) → IsMeaningless (MeansUnder key tree)

-- the members are one with this key, and the definition is what it means with its tree
pub record IsOne (key : List ℕ) (def : Option portable.TypeDef) (members : Members) : Type 0 where
  pub tree : Data
  pub only : members ≡ member key tree no_members
  pub means : IsMeant (MeansUnder key tree) def

-- there are members, and if they are one, its key names no kind of definitions
pub record AreRefused (members : Members) : Type 0 where
  pub some : members ≡ no_members → ⊥
  pub unknown : (key : List ℕ) (tree : Data) → members ≡ member key tree no_members → IsUnknown key

-- what was read of a definition is what its members mean
abbrev pub HoldsDefinition : FoundDefinition → Members → Type 0
HoldsDefinition found.Nothing members = members ≡ no_members
HoldsDefinition (found.One key def) members = IsOne key.now def members
HoldsDefinition found.Refused members = AreRefused members

-- only an object means a definition
pub only_object_is_definition :
    (tree : Data) (v : portable.TypeDef) → MeansTypeDef tree v → IsObject tree
only_object_is_definition tree v m =
    record { members = member m.key m.tree no_members; is = m.only }
