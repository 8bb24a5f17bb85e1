-- Tables that stay bytes.
use Rattle.std.specs.Prelude.{◌≡◌, ◌≢◌, ℕ, ◌<◌, ◌≤◌, List, ◌++◌, Some, length, drop, slice_get}
use Rattle.std.specs.List.{AllZip}
use Rattle.scale_info_bytes.specs.Encodings.{HasPrefix}
use Rattle.scale_info_grammar.specs.Ty.{EncodesPortableType}
use Rattle.scale_info_table.specs.TableEncoding.{EncodesRegistry}
use Rattle.scale_info_table.specs.declared.portable.PortableRegistry.{PortableRegistry}
use Rattle.scale_info_types.specs.Portable.{Text}
use Rattle.scale_info_types.specs.declared.ty.PortableType.{PortableType}

-- from this offset on, the bytes begin with an encoding of the entry
pub record IsEntryAt (bytes : List ℕ) (entry : PortableType) (offset : ℕ) : Type 0 where
  pub within : offset ≤ length bytes
  pub rest : List ℕ
  pub prefix : HasPrefix (EncodesPortableType entry) (drop offset bytes) rest

-- the bytes encode the table, and its entries begin at these offsets
pub record HasEntriesAt (bytes offsets : List ℕ) (table : PortableRegistry) : Type 0 where
  pub encodes : EncodesRegistry table bytes
  pub at_offsets : AllZip (IsEntryAt bytes) table.types offsets

-- the table that the bytes encode, of which the entries begin at these offsets
abbrev pub IsTableView : List ℕ → List ℕ → Type 0
IsTableView bytes offsets = (table : PortableRegistry) × ∥ HasEntriesAt bytes offsets table ∥₁

-- the bytes begin with an encoding of the entry at the index
pub record BeginsWithEntry (types : List PortableType) (index : ℕ) (bytes : List ℕ) : Type 0 where
  pub entry : PortableType
  pub found : slice_get types index ≡ Some entry
  pub begins : ∥ ((rest : List ℕ) × HasPrefix (EncodesPortableType entry) bytes rest) ∥₁

-- no entry with an index below the bound has this path
abbrev pub HasPathAtNone : ℕ → List PortableType → List Text → Type 0
HasPathAtNone bound types path =
    (index : ℕ) (entry : PortableType) → index < bound → slice_get types index ≡ Some entry
    → entry.ty.path.segments ≢ path

-- the entry at the index has this path, and none before it has
pub record IsFirstWithPath (types : List PortableType) (path : List Text) (index : ℕ) : Type 0 where
  pub entry : PortableType
  pub found : slice_get types index ≡ Some entry
  pub has : entry.ty.path.segments ≡ path
  pub before : HasPathAtNone index types path

-- the input begins with an encoding of a table, whose entries begin at these offsets
pub record BeginsWithTable (input rest offsets : List ℕ) : Type 0 where
  pub table : PortableRegistry
  pub bytes : List ℕ
  pub entries : HasEntriesAt bytes offsets table
  pub parts : input ≡ bytes ++ rest
