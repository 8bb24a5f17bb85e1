-- Descriptions with ids in place of types.
use Rattle.std.specs.Prelude.{ℕ, List, map, slice_index_or}
use Rattle.scale_info_types.specs.Portable as portable
use Rattle.scale_info_types.specs.declared.ty.Description.{Description}
use Rattle.scale_info_types.specs.References.{references}
use Rattle.scale_info_types.specs.Shapes.{map_description}

-- an id as a description has it
abbrev pub symbol : ℕ → portable.Id
symbol id = record { id = id; marker = record {} }

-- the description with each type replaced by an id, and each text by its bytes
abbrev pub with_ids :
    {F T S : Type 0}
    → (T → ℕ) → (S → List ℕ) → Description F T S → portable.Description
with_ids id_of text d = map_description (λ t. symbol (id_of t)) text d

-- the ids that a description refers to, in order
abbrev pub ids_in : portable.Description → List ℕ
ids_in ty = map (λ (r : portable.Id). r.id) (references ty)

-- the new number of a reference, by a list of the numbers: 0 where the list has none
abbrev pub number_of : List ℕ → portable.Id → ℕ
number_of numbers symbol = slice_index_or numbers symbol.id 0
