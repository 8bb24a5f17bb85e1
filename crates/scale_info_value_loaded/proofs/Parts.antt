-- A part of a table unfolds as the table does, and so is read as it is.
use Rattle.std.proofs.Common.{◌≡◌, ℕ, zero, suc, ◌-◌, List, [], ◌∷◌, Option, Some, None, option_map}
use Rattle.std.proofs.Common.{Contains, map, refl, ap, sym, ◌∙◌}
use Rattle.std.proofs.lemmas.List.Elements.{Contains-append_right}
use Rattle.std.proofs.lemmas.Option.{none-some, slice_get-map}
use Rattle.scale_info_value_loaded.specs.LoadedTables.{IsPartOf}
use Rattle.scale_info_numberings.proofs.Places.{contains_at, contains_head, contains_tail, place_of}
use Rattle.scale_info_numberings.specs.Systems.{Entry, System, IsReached, next}
use Rattle.scale_info_numberings.specs.Unfoldings.{node, tree, trees, Tree, tree_of, unfold_to}
use Rattle.scale_info_references.specs.Conversions.{ids_in}
use Rattle.scale_info_table.specs.TableSystems.{system_of}
use Rattle.scale_info_table.specs.declared.portable.PortableRegistry.{PortableRegistry}
use Rattle.scale_info_types.specs.Portable.{Description, Id}
use Rattle.scale_info_types.specs.References.{definition_references, parameter_references}
use Rattle.scale_info_types.specs.References.{references}
use Rattle.scale_info_value.proofs.Unfolded.{unfolding_decides}
use Rattle.scale_info_value.specs.Readings.{reading}
use Rattle.scale_info_walk.specs.TypeSystems.{entry_of}

-- nothing is an element of the empty list
none_there : {A : Type 0} (x : A) → ¬ (Contains [] x)
none_there x c = let p = place_of [] x c in none-some x p.1

-- what an entry that is reached refers to is reached
pub reached_next :
    {Sh : Type 0} (S : System Sh ℕ) (ids : List ℕ) (id r : ℕ) (d : Entry Sh ℕ)
    → IsReached S ids id → S id ≡ Some d → Contains d.refs r → IsReached S ids r
reached_next S ids id r d reached is c = next id r d reached is c (none_there r)

-- the image of an element is one of the image
contains_map :
    {A B : Type 0} (f : A → B) (xs : List A) (x : A) → Contains xs x → Contains (map f xs) (f x)
contains_map f xs x c =
    let p = place_of xs x c in
    contains_at (map f xs) (f x) p.0 (slice_get-map f xs p.0 ∙ ap (option_map f) p.1)

-- the references of a definition are among those of its description
pub definition_refers :
    (ty : Description) (r : Id) → Contains (definition_references ty.type_def) r
    → Contains (ids_in ty) r.id
definition_refers ty r c =
    contains_map (λ (s : Id). s.id) (references ty) r
    (Contains-append_right (parameter_references ty.type_params) (definition_references ty.type_def) r c)

-- trees of nodes that unfold alike
same_trees :
    {Sh : Type 0} (f g : ℕ → Tree Sh) (ns : List ℕ)
    → ((n : ℕ) → Contains ns n → f n ≡ g n) → trees f ns ≡ trees g ns
same_trees f g [] h = refl
same_trees f g (n ∷ ns) h =
    let first = h n (contains_head n ns) in
    let rest = same_trees f g ns (λ m c. h m (contains_tail n ns m c)) in
    λ i. tree (first i) (rest i)

-- an entry over nodes that unfold alike
same_entry :
    {Sh : Type 0} (f g : ℕ → Tree Sh) (o : Option (Entry Sh ℕ))
    → ((d : Entry Sh ℕ) → o ≡ Some d → (n : ℕ) → Contains d.refs n → f n ≡ g n)
    → tree_of f o ≡ tree_of g o
same_entry f g None h = refl
same_entry f g (Some d) h = ap (node d.shape) (same_trees f g d.refs (h d refl))

module _ (table part : PortableRegistry) (ids : List ℕ) (is : IsPartOf table ids part) where
  -- what is reached unfolds in the part as in the table
  unfolds_alike :
      (depth id : ℕ) → IsReached (system_of table) ids id
      → unfold_to depth (system_of table) id ≡ unfold_to depth (system_of part) id
  unfolds_alike zero id reached = refl
  unfolds_alike (suc depth) id reached =
      same_entry (λ r. unfold_to depth (system_of table) r) (λ r. unfold_to depth (system_of part) r)
      (system_of table id)
      (λ d there r c. unfolds_alike depth r (reached_next (system_of table) ids id r d reached there c))
      ∙ ap (λ o. tree_of (λ r. unfold_to depth (system_of part) r) (option_map entry_of o))
      (sym (is.loaded id reached))

  -- and so it is read alike
  pub reads_alike :
      (id : ℕ) → IsReached (system_of table) ids id
      → (depth : ℕ) (input : List ℕ) → reading part id depth input ≡ reading table id depth input
  reads_alike id reached depth input =
      sym (unfolding_decides table part id id depth (unfolds_alike (130 - depth) id reached) input)
