-- Edges of a type.
use Rattle.std.proofs.Common.{◌≡◌, ◌∙◌, ◌++◌, ℕ, List, [], ◌∷◌, Option, Some, None, ap, sym, refl, map, option_map, slice_get}
use Rattle.std.proofs.lemmas.Option.{none-some, same_Some}
use Rattle.std.specs.Borrow.{Bor}
use Rattle.std.specs.List.{flat_map}
use Rattle.scale_info_table_dot.specs.GraphTexts.{edge_line}
use Rattle.scale_info_numberings.specs.Systems.{refs_in}
use Rattle.scale_info_references.specs.Conversions.{ids_in}
use Rattle.scale_info_references.specs.Gathered.{targets}
use Rattle.scale_info_types.specs.Portable.{Description, Id}
use Rattle.scale_info_types.specs.References.{references}
use Rattle.scale_info_types.specs.declared.ty.PortableType.{PortableType}
use Rattle.scale_info_walk.specs.TypeSystems.{entry_of, types_system}

-- lines for references are lines for their ids
by_ids :
    (line : ℕ → List ℕ) (all : List Id)
    → flat_map (λ (reference : Id). line reference.id) all
    ≡ flat_map line (map (λ (reference : Id). reference.id) all)
by_ids line [] = refl
by_ids line (reference ∷ all) = ap (λ lines. line reference.id ++ lines) (by_ids line all)

refs_of :
    (ty : Description) (found : Option PortableType)
    → Some ty ≡ option_map (λ (entry : PortableType). entry.ty) found
    → ids_in ty ≡ refs_in (option_map entry_of found)
refs_of ty None is = absurd (none-some ty (sym is))
refs_of ty (Some entry) is = ap ids_in (same_Some ty entry.ty is)

-- the edges of a type, by its references
pub edges_of :
    (node : List ℕ) (types : List PortableType) (id : ℕ) (ty : Description)
    (found : List (Bor Id))
    → Some ty ≡ option_map (λ (entry : PortableType). entry.ty) (slice_get types id)
    → targets found ≡ references ty
    → flat_map (λ (reference : Id). edge_line node reference.id) (targets found)
    ≡ flat_map (edge_line node) (refs_in (types_system types id))
edges_of node types id ty found is same =
    by_ids (edge_line node) (targets found)
    ∙ ap (λ all. flat_map (edge_line node) (map (λ (reference : Id). reference.id) all)) same
    ∙ ap (flat_map (edge_line node)) (refs_of ty (slice_get types id) is)

none_of :
    (found : Option PortableType)
    → None ≡ option_map (λ (entry : PortableType). entry.ty) found
    → refs_in (option_map entry_of found) ≡ []
none_of None is = refl
none_of (Some entry) is = absurd (none-some entry.ty is)

-- no edges, where the id is no index
pub no_edges :
    (node : List ℕ) (types : List PortableType) (id : ℕ)
    → None ≡ option_map (λ (entry : PortableType). entry.ty) (slice_get types id)
    → flat_map (edge_line node) (refs_in (types_system types id)) ≡ []
no_edges node types id is = ap (flat_map (edge_line node)) (none_of (slice_get types id) is)
