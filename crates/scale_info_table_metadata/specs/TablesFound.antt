-- Where the table of an input is.
use Rattle.std.specs.Prelude.{◌≡◌, ◌≢◌, ℕ, List, [], ◌∷◌, ◌++◌, ◌⊎◌}
use Rattle.scale_info_bytes.specs.Encodings.{HasPrefix, HasNoPrefix}
use Rattle.scale_info_grammar.specs.Ty.{EncodesTypes}
use Rattle.scale_info_types.specs.declared.ty.PortableType.{PortableType}
use Rattle.scale_info_table_metadata.specs.Metadata.{IsMetadata, IsNoMetadata, HasTable}
use Rattle.scale_info_table_metadata.specs.declared.metadata.Source.{Source}
use Rattle.scale_info_table_metadata.specs.declared.metadata.Source.TheVariants as source
use Rattle.scale_info_table_metadata.specs.declared.metadata.MetadataError.{MetadataError}
use Rattle.scale_info_table_metadata.specs.declared.metadata.MetadataError.TheVariants as error

-- this table is the whole input, which is no metadata
pub record IsAlone (input table : List ℕ) : Type 0 where
  pub types : List PortableType
  pub encodes : EncodesTypes types table
  pub whole : table ≡ input
  pub no_metadata : IsNoMetadata input

-- the input is metadata of this version, which begins with this table
pub record IsInside (version : ℕ) (input table : List ℕ) : Type 0 where
  pub types : List PortableType
  pub encodes : EncodesTypes types table
  pub more : List ℕ
  pub metadata : IsMetadata (version ∷ table ++ more) input
  pub known : HasTable version

-- what the input is, and the bytes of its table
abbrev pub IsTableOf : List ℕ → Source → List ℕ → Type 0
IsTableOf input source.Table table = IsAlone input table
IsTableOf input (source.Metadata version) table = IsInside version input table

-- the input is metadata of a version that is not read
pub record HasOtherVersion (input : List ℕ) (version : ℕ) : Type 0 where
  pub more : List ℕ
  pub metadata : IsMetadata (version ∷ more) input
  pub other : HasTable version → ⊥

-- the input is metadata that ends before its version, or in which no table follows the version
pub data IsCutShort : List ℕ → Type 0 where
  no_version : {input : List ℕ} → IsMetadata [] input → IsCutShort input
  no_table :
      {input after : List ℕ} {version : ℕ} → IsMetadata (version ∷ after) input → HasTable version
      → HasNoPrefix EncodesTypes after → IsCutShort input

-- the input is no metadata, and begins with no table
pub record IsNothing (input : List ℕ) : Type 0 where
  pub no_metadata : IsNoMetadata input
  pub no_table : HasNoPrefix EncodesTypes input

-- the input is no metadata, and begins with a table after which more comes
pub record HasMore (input : List ℕ) : Type 0 where
  pub types : List PortableType
  pub rest : List ℕ
  pub prefix : HasPrefix (EncodesTypes types) input rest
  pub more : rest ≢ []
  pub no_metadata : IsNoMetadata input

-- why no table is found in the input
abbrev pub IsErrorOf : List ℕ → MetadataError → Type 0
IsErrorOf input (error.Version version) = HasOtherVersion input version
IsErrorOf input error.Malformed = IsCutShort input ⊎ IsNothing input
IsErrorOf input error.Trailing = HasMore input

-- the input is this table, and then the rest
pub record BeginsWith (table input rest : List ℕ) : Type 0 where
  pub types : List PortableType
  pub encodes : EncodesTypes types table
  pub parts : input ≡ table ++ rest
