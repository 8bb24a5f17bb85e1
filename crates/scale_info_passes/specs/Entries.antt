-- The entries of a table, by the offsets of their descriptions.
use Rattle.std.specs.Prelude.{◌≡◌, ℕ, ◌+◌, ◌≤◌, List, [], ◌∷◌, length, drop, Some, slice_get}
use Rattle.std.specs.List.{AllZip, flat_map}
use Rattle.scale_info_types.specs.KeptEntries.{kept_entry}
use Rattle.scale_info_types.specs.Portable.{Id}
use Rattle.scale_info_types.specs.References.{references}
use Rattle.scale_info_types.specs.declared.ty.PortableType.{PortableType}
use Rattle.scale_info_bytes.specs.Encodings.{HasPrefix, AppendsEncoding}
use Rattle.scale_info_bytes.specs.Parts.{EncodesItems}
use Rattle.scale_info_grammar.specs.Ty.{EncodesDescription, EncodesPortableType}
use Rattle.scale_info_passes.specs.Visits.{ids_of}

-- from this offset the input begins with the entry's description
pub record IsAtOffset (input : List ℕ) (entry : PortableType) (offset : ℕ) : Type 0 where
  pub within : offset ≤ length input
  pub rest : List ℕ
  pub prefix : HasPrefix (EncodesDescription entry.ty) (drop offset input) rest

-- the entries' descriptions are at these offsets of the input
abbrev pub AreAtOffsets : List ℕ → List PortableType → List ℕ → Type 0
AreAtOffsets input entries offsets = AllZip (IsAtOffset input) entries offsets

-- the descriptions of some entries are at these offsets of the input
pub record HasEntriesAt (input offsets : List ℕ) : Type 0 where
  pub entries : List PortableType
  pub at_offsets : AreAtOffsets input entries offsets

-- the input begins with n entries, whose descriptions are at these offsets
pub record HasEntries (n : ℕ) (input rest offsets : List ℕ) : Type 0 where
  pub entries : List PortableType
  pub count : length entries ≡ n
  pub prefix : HasPrefix (EncodesItems EncodesPortableType entries) input rest
  pub at_offsets : AreAtOffsets input entries offsets

-- ---- what entries refer to

-- the ids that an entry refers to, in order
abbrev pub reference_ids : PortableType → List ℕ
reference_ids entry = ids_of (references entry.ty)

-- where each entry's references start in the list of all of them, counted from k
abbrev pub AreStarts : ℕ → List PortableType → List ℕ → Type 0
AreStarts k [] starts = starts ≡ []
AreStarts k (e ∷ es) [] = ⊥
AreStarts k (e ∷ es) (s ∷ ss) = (s ≡ k) × AreStarts (k + length (reference_ids e)) es ss

-- the input begins with n entries, with these offsets, starts and references
pub record IsEntryIndex (n : ℕ) (input rest offsets starts ids : List ℕ) : Type 0 where
  pub at : HasEntries n input rest offsets
  pub are_starts : AreStarts 0 at.entries starts
  pub references : ids ≡ flat_map reference_ids at.entries

-- ---- entries that are kept

-- the entry at index i, kept with id k
pub record IsKeptEntry (entries : List PortableType) (f : Id → Id) (k i : ℕ)
    (kept : PortableType) : Type 0 where
  pub entry : PortableType
  pub found : slice_get entries i ≡ Some entry
  pub is : kept ≡ kept_entry f k entry

-- the entries at these indices, kept with ids from k on
abbrev pub AreKeptEntries : List PortableType → (Id → Id) → ℕ → List ℕ → List PortableType → Type 0
AreKeptEntries entries f k [] kept = kept ≡ []
AreKeptEntries entries f k (i ∷ is) [] = ⊥
AreKeptEntries entries f k (i ∷ is) (e ∷ es) =
    IsKeptEntry entries f k i e × AreKeptEntries entries f (k + 1) is es

-- new is old followed by an encoding of the entry at index i, kept with id k
pub record AppendsKeptEntry (entries : List PortableType) (f : Id → Id) (k i : ℕ)
    (old new : List ℕ) : Type 0 where
  pub kept : PortableType
  pub is_kept : IsKeptEntry entries f k i kept
  pub appends : AppendsEncoding (EncodesPortableType kept) old new

-- new is old followed by encodings of the entries at these indices, kept with ids from 0 on
pub record AppendsKeptEntries (entries : List PortableType) (f : Id → Id) (indices : List ℕ)
    (old new : List ℕ) : Type 0 where
  pub kept : List PortableType
  pub are_kept : AreKeptEntries entries f 0 indices kept
  pub appends : AppendsEncoding (EncodesItems EncodesPortableType kept) old new
