-- What an implementation cites of a list of descriptions as a reference system.
use Rattle.std.specs.Prelude.{◌≡◌, ◌≤◌, ℕ, List, None, length, option_map}
use Rattle.std.proofs.Common.{ap}
use Rattle.std.proofs.lemmas.Option.{slice_get_past}
use Rattle.scale_info_types.specs.declared.ty.PortableType.{PortableType}
use Rattle.scale_info_walk.specs.TypeSystems.{entry_of, types_system}

-- nothing stands at what is no index
pub nothing_past :
    (types : List PortableType) (id : ℕ) → length types ≤ id → types_system types id ≡ None
nothing_past types id past = ap (option_map entry_of) (slice_get_past types id past)
