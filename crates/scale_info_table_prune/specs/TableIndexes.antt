-- Indexes of whole tables, and tables that are kept.
use Rattle.std.specs.Prelude.{◌≡◌, ◌≢◌, ℕ, List, [], Some, length, flat_map, slice_get}
use Rattle.scale_info_bytes.specs.Encodings.{AppendsEncoding, HasPrefix}
use Rattle.scale_info_grammar.specs.Ty.{EncodesDescription, EncodesTypes}
use Rattle.scale_info_passes.specs.Entries.{AreAtOffsets, AreKeptEntries, AreStarts, reference_ids}
use Rattle.scale_info_types.specs.Portable.{Id}
use Rattle.scale_info_types.specs.declared.ty.PortableType.{PortableType}

-- the table that the bytes encode
abbrev pub IsEncodedTable : List ℕ → Type 0
IsEncodedTable bytes = (types : List PortableType) × ∥ EncodesTypes types bytes ∥₁

-- the bytes encode this table of so many entries, with nothing after it; in its body, which is what
-- comes after the count, the descriptions are at these offsets; and the references of each entry
-- begin at these starts
pub record IsTableIndex (types : List PortableType) (count : ℕ)
    (bytes body offsets starts references : List ℕ) : Type 0 where
  pub long : length types ≡ count
  pub encodes : EncodesTypes types bytes
  pub at_offsets : AreAtOffsets body types offsets
  pub are_starts : AreStarts 0 types starts
  pub are_references : references ≡ flat_map reference_ids types

-- the bytes begin with the description of the entry with this id
pub record BeginsWithDescription (types : List PortableType) (id : ℕ) (bytes : List ℕ)
    : Type 0 where
  pub entry : PortableType
  pub found : slice_get types id ≡ Some entry
  pub rest : List ℕ
  pub prefix : HasPrefix (EncodesDescription entry.ty) bytes rest

-- the input begins with a table, and goes on
pub record HasTrailing (input : List ℕ) : Type 0 where
  pub types : List PortableType
  pub rest : List ℕ
  pub prefix : HasPrefix (EncodesTypes types) input rest
  pub more : rest ≢ []

-- new is old followed by an encoding of the table of the entries at these indices, kept with ids
-- from 0 on
pub record AppendsKeptTable (entries : List PortableType) (f : Id → Id) (indices : List ℕ)
    (old new : List ℕ) : Type 0 where
  pub kept : List PortableType
  pub are_kept : AreKeptEntries entries f 0 indices kept
  pub appends : AppendsEncoding (EncodesTypes kept) old new
