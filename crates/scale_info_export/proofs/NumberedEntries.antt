-- The entries that the table of a registry has.
use Rattle.std.proofs.Common.{◌≡◌, ℕ, ◌+◌, List, [], ◌∷◌, map, refl, ap}
use Rattle.scale_info_registry.specs.Registrations.{portable_entry}
use Rattle.scale_info_types.specs.Portable.{Description}
use Rattle.scale_info_walk.specs.TypeSystems.{entry_of}
use Rattle.scale_info_table.specs.BuiltTables.{numbered_from}

-- as nodes of a system numbered entries are what the descriptions are
pub numbered_entries :
    (first : ℕ) (types : List Description)
    → map entry_of (numbered_from first types) ≡ map portable_entry types
numbered_entries first [] = refl
numbered_entries first (ty ∷ types) =
    ap (λ rest. portable_entry ty ∷ rest) (numbered_entries (first + 1) types)
