-- Closed lists of descriptions.
use Rattle.std.specs.Prelude.{◌≡◌, ℕ, ◌<◌, List, Some, Contains, length, slice_get}
use Rattle.scale_info_types.specs.Portable.{Description}
use Rattle.scale_info_references.specs.Conversions.{ids_in}

-- there are as many descriptions as ids, and each id in a description is one of those
abbrev pub AreClosed : ℕ → List Description → Type 0
AreClosed count types =
    (length types ≡ count)
    × ((i : ℕ) (ty : Description) → slice_get types i ≡ Some ty
    → (p : ℕ) → Contains (ids_in ty) p → p < count)
