-- The entries of a table: descriptions with ids of their own.
use Rattle.std.specs.Prelude.{ℕ}
use Rattle.scale_info_types.specs.Portable.{Id, Text}
use Rattle.scale_info_types.specs.Shapes.{map_description}
use Rattle.scale_info_types.specs.declared.ty.PortableType.{PortableType}

-- the entry with this id, each reference r replaced by f r
abbrev pub kept_entry : (Id → Id) → ℕ → PortableType → PortableType
kept_entry f id entry =
    record { id = id; ty = map_description f (λ (text : Text). text) entry.ty }
