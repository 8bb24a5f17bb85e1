-- Discoveries: what the roots of a registration reach, and why numbering it may fail.
use Rattle.std.specs.Prelude.{◌≡◌, ◌<◌, ◌++◌, ◌∷◌, [], List, Option, None, Some}
use Rattle.std.specs.Prelude.{map, length, reverse, All, Contains, ◌⊎◌, ⊤}
use Rattle.std.specs.Borrow.{Bor}
use Rattle.std.specs.List.{AllZip}
use Rattle.scale_info_interner.specs.Interned.{IsKnown, IsNew}
use Rattle.scale_info_identities.specs.TypeIds.{Term, term_of}
use Rattle.scale_info_identities.specs.contracts.type_id.TypeIdPartialEq.TheImpl.{ghosts as equals}
use Rattle.scale_info_identities.specs.declared.type_id.TypeId.{TypeId}
use Rattle.scale_info_numberings.specs.Numberings.{AreDistinct}
use Rattle.scale_info_numberings.specs.Systems.{System, IsFirstOutside, IsReachedPast}
use Rattle.scale_info_types.specs.Shapes.{Shape}
use Rattle.scale_info_types.specs.declared.meta_type.MetaType.{MetaType}
use Rattle.scale_info_types.specs.MetaDescriptions.{MetaDescription, type_term}
use Rattle.scale_info_catalogue.specs.Catalogues.{described}
use Rattle.scale_info_catalogue.specs.declared.catalogue.Catalogue.{Catalogue}
use Rattle.scale_info_catalogue.specs.declared.discovery.RegisterError.{RegisterError}
use Rattle.scale_info_catalogue.specs.declared.discovery.RegisterError.TheVariants.{
  Undescribed,
  Full,
  Memory,
}

-- the terms of identities, in order
abbrev pub nodes_of : List TypeId → List Term
nodes_of ids = map term_of ids

-- the terms of types, in order
abbrev pub roots_of : List MetaType → List Term
roots_of types = map type_term types

-- the terms of the types on a stack, from its top down
abbrev pub stacked : List (Bor MetaType) → List Term
stacked pending = map (λ r. type_term r.now) (reverse pending)

-- Why a registration of the roots may fail, where these terms are known. `Memory`: any allocation
-- may fail. `Undescribed`: the first term without a description that is met from the roots. `Full`:
-- the known terms and those reached past them are more than 4294967295.
abbrev pub IsCause : System Shape Term → List Term → List Term → RegisterError → Type 0
IsCause S known roots Memory = ⊤
IsCause S known roots (Undescribed id) =
    IsFirstOutside S known roots (term_of id) × (S (term_of id) ≡ None)
IsCause S known roots Full =
    (all : List Term) × AreDistinct all
    × All (λ n. Contains known n ⊎ IsReachedPast S known roots n) all
    × (4294967295 < length all)

-- `more` is `ids` after one identity got its number. With its description, if it was new: then it
-- is the last. With none, if it was known: then nothing is added.
abbrev pub IsNumbered :
    Catalogue → List TypeId → TypeId → Option MetaDescription → List TypeId → Type 0
IsNumbered c ids id None more = IsKnown equals.eq ids id × (more ≡ ids)
IsNumbered c ids id (Some d) more =
    IsNew equals.eq ids id × (described c (term_of id) ≡ Some d) × (more ≡ ids ++ id ∷ [])

-- Why one identity may get no number. `Memory`: any allocation may fail. `Undescribed`: it is new
-- and has no description. `Full`: it is new, and there are 4294967295 identities.
abbrev pub IsNumberError : Catalogue → List TypeId → TypeId → RegisterError → Type 0
IsNumberError c ids id Memory = ⊤
IsNumberError c ids id (Undescribed other) =
    (other ≡ id) × IsNew equals.eq ids id × (described c (term_of id) ≡ None)
IsNumberError c ids id Full = IsNew equals.eq ids id × (length ids ≡ 4294967295)

-- these are the descriptions of the identities, in order
abbrev pub AreFound : Catalogue → List TypeId → List (Bor MetaDescription) → Type 0
AreFound c ids found = AllZip (λ id d. described c (term_of id) ≡ Some d.now) ids found

-- the errors are of one variant, and the identities that they name, if any, have one term
abbrev pub AreSameRegisterErrors : RegisterError → RegisterError → Type 0
AreSameRegisterErrors Memory Memory = ⊤
AreSameRegisterErrors (Undescribed a) (Undescribed b) = term_of a ≡ term_of b
AreSameRegisterErrors Full Full = ⊤
AreSameRegisterErrors _ _ = ⊥
