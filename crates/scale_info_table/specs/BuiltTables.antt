-- Tables made of a list of descriptions.
use Rattle.std.specs.Prelude.{◌≡◌, ℕ, ◌+◌, List, [], ◌∷◌, Some, slice_get}
use Rattle.scale_info_types.specs.Portable.{Description}
use Rattle.scale_info_types.specs.declared.ty.PortableType.{PortableType}

-- ty is one of the types
abbrev pub IsRegistered : {X : Type 0} → List X → X → Type 0
IsRegistered types ty = (id : ℕ) × (slice_get types id ≡ Some ty)

-- ty is none of the types
abbrev pub IsUnregistered : {X : Type 0} → List X → X → Type 0
IsUnregistered types ty = IsRegistered types ty → ⊥

-- the entries of the descriptions, with ids that count up from the first one
abbrev pub numbered_from : ℕ → List Description → List PortableType
numbered_from id [] = []
numbered_from id (ty ∷ types) = record { id = id; ty = ty } ∷ numbered_from (id + 1) types
