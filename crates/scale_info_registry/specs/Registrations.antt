-- Registrations: what a registry holds after one.
use Rattle.std.specs.Prelude.{◌≡◌, ℕ, ◌<◌, ◌≤◌, ◌++◌, ◌∷◌, [], suc, Bool, cond, List, Some}
use Rattle.std.specs.Prelude.{slice_get, map, length, ⊤}
use Rattle.std.specs.List.{flat_map}
use Rattle.scale_info_identities.specs.TypeIds.{Term, term_of}
use Rattle.scale_info_identities.specs.contracts.type_id.TypeIdPartialEq.TheImpl.{ghosts as equals}
use Rattle.scale_info_identities.specs.declared.type_id.TypeId.{TypeId}
use Rattle.scale_info_numberings.specs.Extensions.{IsExtension}
use Rattle.scale_info_numberings.specs.Systems.{Entry, Grows, System}
use Rattle.scale_info_numberings.specs.Tables.{ArePlaces}
use Rattle.scale_info_references.specs.Closed.{AreClosed}
use Rattle.scale_info_references.specs.Conversions.{with_ids, ids_in}
use Rattle.scale_info_types.specs.Portable as portable
use Rattle.scale_info_types.specs.Shapes.{Shape, shape}
use Rattle.scale_info_types.specs.declared.meta_type.MetaType.{MetaType}
use Rattle.scale_info_catalogue.specs.Catalogues.{described}
use Rattle.scale_info_types.specs.MetaDescriptions.{MetaDescription}
use Rattle.scale_info_catalogue.specs.declared.catalogue.Catalogue.{Catalogue}
use Rattle.scale_info_catalogue.specs.Discoveries.{nodes_of}

-- the index of the first identity that equals this one; the number of identities, if none does
abbrev pub index_in : (TypeId → TypeId → Bool) → List TypeId → TypeId → ℕ
index_in eq [] id = 0
index_in eq (x ∷ ids) id = cond (eq id x) 0 (suc (index_in eq ids id))

-- what a registry holds: identities, each with its index as id, and their descriptions in the same
-- order
pub record Registered : Type 0 where
  pub identities : List TypeId
  pub types : List portable.Description

-- a registry with these identities and descriptions
abbrev pub registered : List TypeId → List portable.Description → Registered
registered ids types = record { identities = ids; types = types }

-- each identity has a description, and each id in a description is that of an identity
abbrev pub IsClosedRegistry : Registered → Type 0
IsClosedRegistry r = AreClosed (length r.identities) r.types

-- `new` is `old` after a registration of the roots: the numbered terms are extended by the roots;
-- the identities and descriptions that were there stay, at their indices; and each new identity has
-- the shape of its description, with the ids of that description's references, in order
pub record IsRegistration (S : System Shape Term) (old : Registered) (roots : List Term)
    (new : Registered) : Type 0 where
  pub nodes : IsExtension S (nodes_of old.identities) roots (nodes_of new.identities)
  pub identities : (more : List TypeId) × (new.identities ≡ old.identities ++ more)
  pub types : (more : List portable.Description) × (new.types ≡ old.types ++ more)
  pub entries :
      (i : ℕ) (n : Term)
      → length old.identities ≤ i → slice_get (nodes_of new.identities) i ≡ Some n
      → (d : Entry Shape Term) × (ty : portable.Description)
      × (S n ≡ Some d) × (slice_get new.types i ≡ Some ty)
      × (shape (λ bytes. bytes) ty ≡ d.shape)
      × ArePlaces (nodes_of new.identities) d.refs (ids_in ty)

-- from this index on each description is that of its identity in the catalogue, with ids in place
-- of types
abbrev pub AreDescribed : Catalogue → List TypeId → ℕ → List portable.Description → Type 0
AreDescribed c ids from types =
    (i : ℕ) (id : TypeId) → from ≤ i → i < length types → slice_get ids i ≡ Some id
    → (d : MetaDescription) × (described c (term_of id) ≡ Some d)
    × (slice_get types i
    ≡ Some (with_ids (λ ty. index_in equals.eq ids ty.identity) (λ text. text.now) d))

-- `new` begins with what `old` holds
abbrev pub Keeps : Registered → Registered → Type 0
Keeps old new =
    ((more : List TypeId) × (new.identities ≡ old.identities ++ more))
    × ((more : List portable.Description) × (new.types ≡ old.types ++ more))

-- nothing has changed
abbrev pub IsAsBefore : Registered → Registered → Type 0
IsAsBefore old new = new ≡ old

-- the output is the value with the ids of its roots in the registry in place of them
abbrev pub IsConverted :
    {X O : Type 0}
    → (X → List ℕ → O → Type 0) → List Term → Registered → X → O → Type 0
IsConverted replaced roots r value output =
    (ids : List ℕ) × ArePlaces (nodes_of r.identities) roots ids × replaced value ids output

-- The output is the value in which each type has become an id, and `ids` are those of its types, in
-- order. `types` lists the types of a value, and `convert` replaces each by the id that a function
-- gives it.
abbrev pub HasIds :
    {X O : Type 0}
    → (X → List MetaType) → ((MetaType → ℕ) → X → O) → X → List ℕ → O → Type 0
HasIds types convert value ids output =
    (id_of : MetaType → ℕ) × (output ≡ convert id_of value) × (ids ≡ map id_of (types value))

-- a portable description as the entry of a table
abbrev pub portable_entry : portable.Description → Entry Shape ℕ
portable_entry ty = record { shape = shape (λ bytes. bytes) ty; refs = ids_in ty }

-- one of several registrations: the catalogue at that time, the roots, and the registry afterwards
pub record Step : Type 0 where
  pub catalogue : System Shape Term
  pub roots : List Term
  pub registry : Registered

-- after the first registration each one's catalogue holds the one before unchanged, and its
-- registry is the one before after a registration of its roots
abbrev pub AreSteps : Step → List Step → Type 0
AreSteps x [] = ⊤
AreSteps x (y ∷ ys) =
    Grows x.catalogue y.catalogue
    × IsRegistration y.catalogue x.registry y.roots y.registry
    × AreSteps y ys

-- the last registration, where x is the first
abbrev pub last_step : Step → List Step → Step
last_step x [] = x
last_step x (y ∷ ys) = last_step y ys

-- the roots of all registrations, joined in order
abbrev pub step_roots : List Step → List Term
step_roots steps = flat_map (λ x. x.roots) steps
