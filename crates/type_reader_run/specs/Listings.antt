-- Types as lines of text.
use Rattle.std.specs.Prelude.{◌≡◌, ◌++◌, ℕ, List, [], ◌∷◌, Bool, true, false, not, Option, Some, None}
use Rattle.std.specs.Prelude.{codes, decimal, filter, unwrap_or, length, take}
use Rattle.std.specs.List.{range_with_len}
use Rattle.scale_info_table_describe.specs.TypeDeclarations.{description_at}
use Rattle.scale_info_table_describe.specs.TypeNames.{type_at}
use Rattle.scale_info_segments.specs.TypePaths.{joined}
use Rattle.scale_info_table.specs.declared.portable.PortableRegistry.{PortableRegistry}
use Rattle.scale_info_types.specs.Portable.{Description}
use Rattle.scale_info_types.specs.declared.ty.PortableType.{PortableType}
use Rattle.type_reader_run.specs.Selections.{AreSelected}

-- a blank and the path of these segments; nothing, where there is none
abbrev pub path_text : List (List ℕ) → List ℕ
path_text [] = []
path_text (segment ∷ segments) = codes " " ++ joined (segment ∷ segments)

-- the same of a type; nothing, where there is none
abbrev pub path_of : Option Description → List ℕ
path_of None = []
path_of (Some ty) = path_text ty.path.segments

-- the line of an id and the path of its type
abbrev pub title_line : PortableRegistry → ℕ → List ℕ
title_line table id = decimal id ++ path_of (type_at table id) ++ codes "\n"

-- a type that is listed: `//` and its title, and then its declaration
abbrev pub listed_type : PortableRegistry → ℕ → List ℕ
listed_type table id =
    codes "// " ++ title_line table id ++ unwrap_or (description_at table id) [] ++ codes "\n"

-- there is a segment
abbrev pub has_segment : List (List ℕ) → Bool
has_segment [] = false
has_segment (segment ∷ segments) = true

-- there is a type, and it has a path
abbrev pub is_named : Option Description → Bool
is_named None = false
is_named (Some ty) = has_segment ty.path.segments

-- the type with an id has a path
abbrev pub has_path : List PortableType → ℕ → Bool
has_path types id = is_named (type_at (record { types = types }) id)

-- the ids of all types. An id is below 4294967296.
abbrev pub ids_below : List PortableType → List ℕ
ids_below types = range_with_len 0 (length (take 4294967296 types))

-- the ids of all types: of those that have a path, ascending, and then of the others, ascending
abbrev pub all_ids : List PortableType → List ℕ
all_ids types =
    filter (has_path types) (ids_below types)
    ++ filter (λ id. not (has_path types id)) (ids_below types)

-- the ids of the types that are listed for these texts: those that they give; and those of all
-- types, where there is no text
abbrev pub AreListed : List PortableType → List (List ℕ) → List ℕ → Type 0
AreListed types [] ids = ids ≡ all_ids types
AreListed types (text ∷ texts) ids = AreSelected types (text ∷ texts) ids
