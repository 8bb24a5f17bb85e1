-- What unfolds alike is decoded alike, and whatever else comes of values by a table is the same.
use Rattle.std.proofs.Common.{◌≡◌, ℕ, zero, suc, ◌-◌, List, [], ◌∷◌, map, Option, Some, None}
use Rattle.std.proofs.Common.{option_map, slice_get, refl, ap, sym, subst, ◌∙◌, arith}
use Rattle.scale_info_numberings.specs.Tables.{IsTable, table_system}
use Rattle.scale_info_numberings.proofs.Tables.{unfolds_alike}
use Rattle.std.proofs.lemmas.Option.{slice_get-map}
use Rattle.scale_info_types.specs.Portable.{Id, Text}
use Rattle.scale_info_types.specs.declared.ty.TypeDef.{TypeDef as AnyTypeDef}
use Rattle.scale_info_types.specs.Shapes.{Shape, shape, map_definition}
use Rattle.scale_info_types.specs.References.{references}
use Rattle.scale_info_types.specs.declared.ty.PortableType.{PortableType}
use Rattle.scale_info_numberings.specs.Systems.{Entry, System}
use Rattle.scale_info_numberings.specs.Unfoldings.{Tree, node, tree, trees, tree_of, unfold_to}
use Rattle.scale_info_table.specs.TableSystems.{system_of}
use Rattle.scale_info_walk.specs.TypeSystems.{entry_of}
use Rattle.scale_info_table.specs.declared.portable.PortableRegistry.{PortableRegistry}
use Rattle.scale_info_value.specs.Readings.{by_type, reading, value_within, compact_within}
use Rattle.scale_info_value.proofs.Levels.{Levels}
use Rattle.scale_info_value.proofs.Steps.{readings}
use Rattle.scale_info_types.proofs.ShapeAndReferences.{shape_and_references}

-- references that unfold alike are decoded alike, one by one
same_references :
    {X : Type 0} (f g : ℕ → Tree Shape) (read other : ℕ → X) → ((m n : ℕ) → f m ≡ g n → read m ≡ other n)
    → (ms ns : List Id) → trees f (map (λ r. r.id) ms) ≡ trees g (map (λ r. r.id) ns)
    → map (λ r. read r.id) ms ≡ map (λ r. other r.id) ns
same_references f g read other law [] [] e = refl
same_references f g read other law [] (n ∷ ns) e = cc
same_references f g read other law (m ∷ ms) [] e = cc
same_references f g read other law (m ∷ ms) (n ∷ ns) e =
    let first : f m.id ≡ g n.id = cc in
    let rest : trees f (map (λ r. r.id) ms) ≡ trees g (map (λ r. r.id) ns) = cc in
    let here = law m.id n.id first in
    let there = same_references f g read other law ms ns rest in
    λ i. here i ∷ there i

same_entries :
    {X : Type 0} (f g : ℕ → Tree Shape) (read other : ℕ → X) → ((m n : ℕ) → f m ≡ g n → read m ≡ other n)
    → (d e : PortableType) → tree_of f (Some (entry_of d)) ≡ tree_of g (Some (entry_of e))
    → map_definition {G = Unit {0}} (λ r. read r.id) (λ t. t) d.ty.type_def
    ≡ map_definition {G = Unit {0}} (λ r. other r.id) (λ t. t) e.ty.type_def
same_entries f g read other law d e h =
    let shapes : shape (λ t. t) d.ty ≡ shape (λ t. t) e.ty = cc in
    let kids : trees f (map (λ r. r.id) (references d.ty)) ≡ trees g (map (λ r. r.id) (references e.ty)) = cc in
    let same = same_references f g read other law (references d.ty) (references e.ty) kids in
    ap (λ t. t.type_def)
    ((shape_and_references (λ r. read r.id) (λ r. other r.id) (λ t. t) d.ty e.ty).1 (shapes, same))

-- descriptions that unfold alike are decoded alike by their definitions
same_definitions :
    {D X : Type 0} (none : D) (by : AnyTypeDef (Unit {0}) X Text → D) (f g : ℕ → Tree Shape)
    (read other : ℕ → X)
    → ((m n : ℕ) → f m ≡ g n → read m ≡ other n)
    → (o p : Option PortableType) → tree_of f (option_map entry_of o) ≡ tree_of g (option_map entry_of p)
    → by_type none by read (option_map (λ entry. entry.ty) o)
    ≡ by_type none by other (option_map (λ entry. entry.ty) p)
same_definitions none by f g read other law None None h = refl
same_definitions none by f g read other law None (Some e) h = cc
same_definitions none by f g read other law (Some d) None h = cc
same_definitions none by f g read other law (Some d) (Some e) h =
    ap by (same_entries f g read other law d e h)

same_kids :
    (f g f' g' : ℕ → Tree Shape) → ((m n : ℕ) → f m ≡ g n → f' m ≡ g' n) → (ms ns : List ℕ) → trees f ms
    ≡ trees g ns → trees f' ms ≡ trees g' ns
same_kids f g f' g' law [] [] e = refl
same_kids f g f' g' law [] (n ∷ ns) e = cc
same_kids f g f' g' law (m ∷ ms) [] e = cc
same_kids f g f' g' law (m ∷ ms) (n ∷ ns) e =
    let first : f m ≡ g n = cc in
    let rest : trees f ms ≡ trees g ns = cc in
    let here = law m n first in
    let there = same_kids f g f' g' law ms ns rest in
    λ i. tree (here i) (there i)

same_trees :
    (f g f' g' : ℕ → Tree Shape) → ((m n : ℕ) → f m ≡ g n → f' m ≡ g' n)
    → (o p : Option (Entry Shape ℕ)) → tree_of f o ≡ tree_of g p → tree_of f' o ≡ tree_of g' p
same_trees f g f' g' law None None h = refl
same_trees f g f' g' law None (Some e) h = cc
same_trees f g f' g' law (Some d) None h = cc
same_trees f g f' g' law (Some d) (Some e) h =
    let shapes : d.shape ≡ e.shape = cc in
    let kids : trees f d.refs ≡ trees g e.refs = cc in
    let less = same_kids f g f' g' law d.refs e.refs kids in
    λ i. node (shapes i) (less i)

-- what unfolds alike to a depth does so to one less
less_deep :
    (k : ℕ) (S U : System Shape ℕ) (m n : ℕ) → unfold_to (suc k) S m ≡ unfold_to (suc k) U n → unfold_to k S m
    ≡ unfold_to k U n
less_deep zero S U m n h = refl
less_deep (suc k) S U m n h = same_trees (unfold_to (suc k) S) (unfold_to (suc k) U) (unfold_to k S) (unfold_to k U)
    (less_deep k S U) (S m) (U n) h

-- a table and the list of its pairs are one system
one_system : (table : PortableRegistry) → system_of table ≡ table_system (map entry_of table.types)
one_system table = λ i index. sym (slice_get-map entry_of table.types index) i

-- What comes of values by a table, where what an id stands for is made of what comes at its levels,
-- whatever the table and the id are.
module _ {V C X : Type 0} (levels : Levels V C X)
    (of_levels :
    (table other : PortableRegistry) (r s : ℕ) (value inner : V) (compact : C)
    → levels.part table r value inner compact ≡ levels.part other s value inner compact) where
  same_part :
      (table other : PortableRegistry) (r s : ℕ) {value value' inner inner' : V}
      {compact compact' : C}
      → value ≡ value' → inner ≡ inner' → compact ≡ compact'
      → levels.part table r value inner compact ≡ levels.part other s value' inner' compact'
  same_part table other r s {value' = value'} {inner' = inner'} {compact' = compact'} v w c =
      (λ i. levels.part table r (v i) (w i) (c i)) ∙ of_levels table other r s value' inner' compact'

  -- where two ids unfold alike, the same comes of compact integers
  pub compact_unfolded :
      (left : ℕ) (table other : PortableRegistry) (m n : ℕ)
      → unfold_to left (system_of table) m ≡ unfold_to left (system_of other) n
      → levels.compact left table m ≡ levels.compact left other n
  compact_unfolded zero table other m n h = levels.compact_end table m ∙ sym (levels.compact_end other n)
  compact_unfolded (suc left) table other m n h =
      levels.compact_level left table m
      ∙ same_definitions levels.compact_none levels.compact_by
      (unfold_to left (system_of table)) (unfold_to left (system_of other))
      (levels.compact left table) (levels.compact left other)
      (compact_unfolded left table other) (slice_get table.types m) (slice_get other.types n) h
      ∙ sym (levels.compact_level left other n)

  -- where two ids unfold alike one level deeper, the same comes of values
  pub value_unfolded :
      (left : ℕ) (table other : PortableRegistry) (m n : ℕ)
      → unfold_to (suc left) (system_of table) m ≡ unfold_to (suc left) (system_of other) n
      → levels.value left table m ≡ levels.value left other n
  value_unfolded zero table other m n h = levels.value_end table m ∙ sym (levels.value_end other n)
  value_unfolded (suc zero) table other m n h =
      levels.value_last table m
      ∙ same_definitions levels.none levels.by
      (unfold_to 1 (system_of table)) (unfold_to 1 (system_of other))
      (λ r. levels.part table r levels.deep levels.deep (levels.compact 1 table r))
      (λ r. levels.part other r levels.deep levels.deep (levels.compact 1 other r))
      (λ r s same.
      same_part table other r s refl refl (compact_unfolded 1 table other r s same))
      (slice_get table.types m) (slice_get other.types n) h
      ∙ sym (levels.value_last other n)
  value_unfolded (suc (suc left)) table other m n h =
      levels.value_level left table m
      ∙ same_definitions levels.none levels.by
      (unfold_to (suc (suc left)) (system_of table)) (unfold_to (suc (suc left)) (system_of other))
      (λ r. levels.part table r (levels.value (suc left) table r) (levels.value left table r)
      (levels.compact (suc (suc left)) table r))
      (λ r. levels.part other r (levels.value (suc left) other r) (levels.value left other r)
      (levels.compact (suc (suc left)) other r))
      (λ r s same.
      same_part table other r s (value_unfolded (suc left) table other r s same)
      (value_unfolded left table other r s
      (less_deep (suc left) (system_of table) (system_of other) r s same))
      (compact_unfolded (suc (suc left)) table other r s same))
      (slice_get table.types m) (slice_get other.types n) h
      ∙ sym (levels.value_level left other n)

  by_levels :
      (table other : PortableRegistry) (id index left more : ℕ)
      → ((k : ℕ) → left ≡ suc k → more ≡ suc (suc k))
      → unfold_to more (system_of table) id ≡ unfold_to more (system_of other) index
      → levels.value left table id ≡ levels.value left other index
  by_levels table other id index zero more e h = levels.value_end table id ∙ sym (levels.value_end other index)
  by_levels table other id index (suc k) more e h =
      value_unfolded (suc k) table other id index
      (subst (λ n. unfold_to n (system_of table) id ≡ unfold_to n (system_of other) index) (e k refl) h)

  -- the same at a depth
  pub same_at_depth :
      (table other : PortableRegistry) (id index depth : ℕ)
      → unfold_to (130 - depth) (system_of table) id ≡ unfold_to (130 - depth) (system_of other) index
      → levels.value (129 - depth) table id ≡ levels.value (129 - depth) other index
  same_at_depth table other id index depth h =
      by_levels table other id index (129 - depth) (130 - depth) (λ k e. omega arith) h

  -- and of a table of nodes, at the index of a node
  pub same_in_table :
      (old new : PortableRegistry) (kept : List ℕ)
      → IsTable (system_of old) kept (map entry_of new.types)
      → (index id : ℕ) → slice_get kept index ≡ Some id
      → (depth : ℕ) → levels.value (129 - depth) new index ≡ levels.value (129 - depth) old id
  same_in_table old new kept table index id at depth =
      let alike = unfolds_alike (system_of old) kept (map entry_of new.types) table (130 - depth) index id at in
      let here : unfold_to (130 - depth) (system_of new) index ≡ unfold_to (130 - depth) (system_of old) id =
      ap (λ S. unfold_to (130 - depth) S index) (one_system new) ∙ sym alike
      in
      same_at_depth new old index id depth here

-- what unfolds alike is decoded alike
pub unfolding_decides :
    (table other : PortableRegistry) (id index depth : ℕ)
    → unfold_to (130 - depth) (system_of table) id ≡ unfold_to (130 - depth) (system_of other) index
    → (input : List ℕ) → reading table id depth input ≡ reading other index depth input
unfolding readings value_within compact_within
unfolding_decides table other id index depth h input =
    ap (λ read. read input)
    (same_at_depth readings (λ table other r s value inner compact. refl) table other id index depth h)

-- a table of nodes decodes as the system of the nodes
pub reads_alike :
    (old new : PortableRegistry) (kept : List ℕ) → IsTable (system_of old) kept (map entry_of new.types)
    → (index id : ℕ) → slice_get kept index ≡ Some id
    → (depth : ℕ) (input : List ℕ) → reading new index depth input ≡ reading old id depth input
unfolding readings value_within compact_within
reads_alike old new kept table index id at depth input =
    ap (λ read. read input)
    (same_in_table readings (λ table other r s value inner compact. refl) old new kept table index id at depth)
