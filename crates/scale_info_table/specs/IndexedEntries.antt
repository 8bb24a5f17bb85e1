-- The entries of a table, each with its index.
use Rattle.std.specs.Prelude.{ℕ, ◌+◌, List, [], ◌∷◌}
use Rattle.scale_info_types.specs.Portable.{Description}
use Rattle.scale_info_types.specs.declared.ty.PortableType.{PortableType}

-- the descriptions of the entries, each with its index, where the first one's index is given
abbrev pub indexed_from : ℕ → List PortableType → List (ℕ × Description)
indexed_from index [] = []
indexed_from index (entry ∷ entries) = (index, entry.ty) ∷ indexed_from (index + 1) entries
