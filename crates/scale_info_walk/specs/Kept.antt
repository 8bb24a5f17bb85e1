-- Entries that are kept, one by one.
use Rattle.std.specs.Prelude.{◌≡◌, ℕ, List, Some, length, slice_get}
use Rattle.scale_info_references.specs.Conversions.{symbol}
use Rattle.scale_info_types.specs.KeptEntries.{kept_entry}
use Rattle.scale_info_types.specs.Portable.{Id}
use Rattle.scale_info_types.specs.declared.ty.PortableType.{PortableType}

-- the entries at these indices in turn, with ids from 0 up and each reference r by the number f r
abbrev pub AreKept : List PortableType → List ℕ → (Id → ℕ) → List PortableType → Type 0
AreKept types order f kept =
    (length kept ≡ length order)
    × ((i k : ℕ) → slice_get order i ≡ Some k
    → (old : PortableType) × (slice_get types k ≡ Some old)
    × (slice_get kept i ≡ Some (kept_entry (λ r. symbol (f r)) i old)))
