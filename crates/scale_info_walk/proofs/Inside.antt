-- What is reached where there is a numbering of a table.
use Rattle.std.proofs.Common.{◌≡◌, ◌<◌, ℕ, List, Option, Some, None, length, slice_get, refl, option_map}
use Rattle.std.proofs.lemmas.Option.{none-some, slice_get_within}
use Rattle.scale_info_numberings.proofs.Reached.{numbering_inside}
use Rattle.scale_info_numberings.specs.Numberings.{IsNumbering}
use Rattle.scale_info_numberings.specs.Systems.{Entry, IsReached}
use Rattle.scale_info_types.specs.Shapes.{Shape}
use Rattle.scale_info_types.specs.declared.ty.PortableType.{PortableType}
use Rattle.scale_info_walk.specs.TypeSystems.{entry_of, types_system}

found_within :
    (types : List PortableType) (id : ℕ) (found : Option PortableType) (d : Entry Shape ℕ)
    → slice_get types id ≡ found → option_map entry_of found ≡ Some d → id < length types
found_within types id None d is some = absurd (none-some d some)
found_within types id (Some entry) d is some = slice_get_within types id entry is

-- each id that is reached is an index
pub inside :
    (types : List PortableType) (roots order : List ℕ)
    → IsNumbering (types_system types) roots order
    → (id : ℕ) → IsReached (types_system types) roots id → id < length types
inside types roots order numbering id reached =
    let at = numbering_inside (types_system types) roots order numbering id reached in
    found_within types id (slice_get types id) at.0 refl at.1
