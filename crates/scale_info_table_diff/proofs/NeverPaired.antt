-- Types of two tables that are in no match.
use Rattle.std.proofs.Common.{◌≡◌, ◌≢◌, ◌∙◌, ◌++◌, ◌∷◌, ◌⊎◌, inl, inr, ℕ, zero, suc, Bool, true, List, [], All, Some, length, option_map}
use Rattle.std.proofs.Common.{ap, append_assoc, get_or, sym, subst, refl, slice_get, slice_set}
use Rattle.std.proofs.lemmas.List.Elements.{All-contains, All-push}
use Rattle.std.proofs.lemmas.Option.{none-some, same_Some}
use Rattle.std.proofs.lemmas.Slice.Zip.{AllZip-long}
use Rattle.scale_info_grammar.specs.Ty.{EncodesDescription}
use Rattle.scale_info_grammar.specs.TyLaws.{description_law}
use Rattle.scale_info_numberings.proofs.Places.{at_left, contains_at}
use Rattle.scale_info_numberings.proofs.Zip.{zip_at}
use Rattle.scale_info_numberings.specs.Matches.{IsMatch, Pairs}
use Rattle.scale_info_numberings.specs.Systems.{Entry}
use Rattle.scale_info_references.proofs.Replaced.{join_description}
use Rattle.scale_info_references.specs.Conversions.{symbol}
use Rattle.scale_info_types.specs.Portable as portable
use Rattle.scale_info_types.specs.Portable.{Text}
use Rattle.scale_info_types.specs.Shapes.{Shape, map_description, shape}
use Rattle.scale_info_types.specs.declared.form.PortableForm.{PortableForm}
use Rattle.scale_info_types.specs.declared.ty.PortableType.{PortableType}
use Rattle.scale_info_walk.specs.TypeSystems.{entry_of, types_system}
use Rattle.scale_info_table_diff.proofs.Pushed.{pushed_at}
use Rattle.scale_info_table_diff.specs.Differing.{AreNeverPaired, AreDiffering, Grows, HasParts, HasReferences, HasChanged, HaveNoMatch, IsDiffering, IsEdge}
use Rattle.scale_info_table_diff.specs.TypesByPath.{ids_of}

-- a description with 0 in the place of each reference
abbrev zeroed : portable.Description → portable.Description
zeroed ty = map_description (λ _. symbol 0) (λ text. text) ty

-- it is that of the shape
of_shape : (ty : portable.Description)
    → map_description {F = Unit {0}} {G = PortableForm} (λ _. symbol 0) (λ text. text) (shape (λ text. text) ty) ≡ zeroed ty
of_shape ty =
    join_description PortableForm (Unit {0}) PortableForm (λ _. symbol 0) (λ _. tt) (λ _. symbol 0)
    (λ text. text) (λ text. text) (λ text. text) (λ _. refl) (λ _. refl) ty

-- so it is one where the shape is
same_zeroed : (a b : portable.Description) → shape (λ text. text) a ≡ shape (λ text. text) b → zeroed a ≡ zeroed b
same_zeroed a b e =
    sym (of_shape a)
    ∙ ap (map_description {F = Unit {0}} {G = PortableForm} (λ _. symbol 0) (λ text. text)) e
    ∙ of_shape b

-- an element of a list of which one is set
where_set :
    {A : Type 0} (xs : List A) (place i : ℕ) (y x : A) → slice_get (slice_set xs place y) i ≡ Some x
    → (slice_get xs i ≡ Some x) ⊎ (i ≡ place)
where_set [] place i y x e = inl e
where_set (z ∷ xs) zero zero y x e = inr refl
where_set (z ∷ xs) zero (suc i) y x e = inl e
where_set (z ∷ xs) (suc place) zero y x e = inl e
where_set (z ∷ xs) (suc place) (suc i) y x e =
    elim (where_set xs place i y x e) [
      | inl h ↦ inl h
      | inr h ↦ inr (ap suc h)
    ]

-- what a system has of a type that is found
found_entry :
    (types : List PortableType) (id : ℕ) (entry : PortableType) → slice_get types id ≡ Some entry
    → types_system types id ≡ Some (entry_of entry)
found_entry types id entry e = ap (option_map entry_of) e

module _ (types others : List PortableType) (id other_id : ℕ) where
  -- two types with contents that differ
  pub contents_differ :
      (contents other_contents references other_references : List ℕ)
      → HasParts types id contents references → HasParts others other_id other_contents other_references
      → contents ≢ other_contents → AreNeverPaired types others id other_id
  contents_differ contents other_contents references other_references x y differ roots tops pairs m pair =
      let s = found_entry types id x.refers.entry x.refers.found in
      let u = found_entry others other_id y.refers.entry y.refers.found in
      elim (m.alike id other_id pair) [
        | inl o ↦ none-some (entry_of x.refers.entry) (sym o.0 ∙ s)
        | inr a ↦
            let left : a.0 ≡ entry_of x.refers.entry = same_Some a.0 (entry_of x.refers.entry) (sym a.2 ∙ s) in
            let right : a.1 ≡ entry_of y.refers.entry = same_Some a.1 (entry_of y.refers.entry) (sym a.3 ∙ u) in
            let shapes : shape (λ text. text) x.refers.entry.ty ≡ shape (λ text. text) y.refers.entry.ty =
            ap (λ (e : Entry Shape ℕ). e.shape) (sym left) ∙ a.4 ∙ ap (λ (e : Entry Shape ℕ). e.shape) right in
            differ (description_law.one (zeroed y.refers.entry.ty) contents other_contents
            (subst (λ ty. EncodesDescription ty contents) (same_zeroed x.refers.entry.ty y.refers.entry.ty shapes) x.encodes)
            y.encodes)
      ]

  -- two types that refer, at the same place, to types that are never paired
  pub references_differ :
      (references other_references : List ℕ) (place reference other_reference : ℕ)
      → HasReferences types id references → HasReferences others other_id other_references
      → slice_get references place ≡ Some reference → slice_get other_references place ≡ Some other_reference
      → AreNeverPaired types others reference other_reference → AreNeverPaired types others id other_id
  references_differ references other_references place reference other_reference x y e f never roots tops pairs m pair =
      let s = found_entry types id x.entry x.found in
      let u = found_entry others other_id y.entry y.found in
      elim (m.alike id other_id pair) [
        | inl o ↦ none-some (entry_of x.entry) (sym o.0 ∙ s)
        | inr a ↦
            let left : a.0.refs ≡ references =
            ap (λ (e : Entry Shape ℕ). e.refs) (same_Some a.0 (entry_of x.entry) (sym a.2 ∙ s)) ∙ sym x.are_references in
            let right : a.1.refs ≡ other_references =
            ap (λ (e : Entry Shape ℕ). e.refs) (same_Some a.1 (entry_of y.entry) (sym a.3 ∙ u)) ∙ sym y.are_references in
            never roots tops pairs m
            (zip_at (λ r q. Pairs pairs r q) a.0.refs a.1.refs a.5 place reference other_reference
            (ap (λ rs. slice_get rs place) left ∙ e) (ap (λ rs. slice_get rs place) right ∙ f))
      ]

-- ids at the same place of which are never paired have no match
pub no_match_at :
    (types others : List PortableType) (ids other_ids : List ℕ) (place id other_id : ℕ)
    → slice_get ids place ≡ Some id → slice_get other_ids place ≡ Some other_id
    → AreNeverPaired types others id other_id → HaveNoMatch types others ids other_ids
no_match_at types others ids other_ids place id other_id e f never pairs m =
    never ids other_ids pairs m (zip_at (λ n p. Pairs pairs n p) ids other_ids m.in_order place id other_id e f)

-- nor have lists of ids that are not as long
pub no_match_long :
    (types others : List PortableType) (ids other_ids : List ℕ)
    → length ids ≢ length other_ids → HaveNoMatch types others ids other_ids
no_match_long types others ids other_ids other pairs m =
    other (sym (AllZip-long (λ n p. Pairs pairs n p) ids other_ids m.in_order))

-- a path whose ids in both tables have no match has changed
pub is_changed :
    (types others : List PortableType) (path : Text) (ids other_ids : List ℕ)
    → ids ≡ ids_of path types → other_ids ≡ ids_of path others
    → other_ids ≢ [] → HaveNoMatch types others ids other_ids → HasChanged types others path
is_changed types others path ids other_ids is are some never =
    record {
      some = λ none. some (are ∙ none);
      differs = λ same.
          never same.0
          (subst (λ xs. IsMatch (types_system types) xs (types_system others) other_ids same.0) (sym is)
          (subst (λ xs. IsMatch (types_system types) (ids_of path types) (types_system others) xs same.0) (sym are) same.1));
    }

-- ---- pairs by their numbers

-- an element stays where it is
pub stays :
    {A : Type 0} (old new : List A) (i : ℕ) (x : A)
    → Grows old new → slice_get old i ≡ Some x → slice_get new i ≡ Some x
stays old new i x g e = subst (λ xs. slice_get xs i ≡ Some x) (sym g.1) (at_left old g.0 i x e)

-- more, and then more again, is more
pub grows_both : {A : Type 0} (xs ys zs : List A) → Grows xs ys → Grows ys zs → Grows xs zs
grows_both xs ys zs g h =
    (g.0 ++ h.0, h.1 ∙ ap (λ more. more ++ h.0) g.1 ∙ append_assoc xs g.0 h.0)

module _ (types others : List PortableType) (old new : List (ℕ × ℕ)) (g : Grows old new) where
  -- what is known of pairs stays so with more pairs
  still_differing : (number : ℕ) → IsDiffering types others old number → IsDiffering types others new number
  still_differing number d = (d.0, stays old new number d.0 g d.1, d.2)

  -- so do marks
  pub still_all : (marks : List Bool) → AreDiffering types others old marks → AreDiffering types others new marks
  still_all marks are number e = still_differing number (are number e)

  still_edge : (edge : ℕ × ℕ) → IsEdge types others old edge → IsEdge types others new edge
  still_edge edge e =
      (e.0, e.1, stays old new edge.0 e.0 g e.2, stays old new edge.1 e.1 g e.3, e.4)

  -- so do edges
  pub still_edges : (edges : List (ℕ × ℕ)) → All (IsEdge types others old) edges → All (IsEdge types others new) edges
  still_edges edges all = λ k d within. still_edge (get_or edges k d) (all k d within)

module _ (types others : List PortableType) (pairs : List (ℕ × ℕ)) where
  -- an edge leads from a pair of types that are never paired, where it leads to one
  pub from_edge :
      (edge : ℕ × ℕ) → IsEdge types others pairs edge → IsDiffering types others pairs edge.1
      → IsDiffering types others pairs edge.0
  from_edge edge e d =
      (e.0, e.2, e.4 (subst (λ (pair : ℕ × ℕ). AreNeverPaired types others pair.0 pair.1) (same_Some d.0 e.1 (sym d.1 ∙ e.3)) d.2))

  -- one more mark at the end
  pub one_more_mark :
      (marks after : List Bool) (mark : Bool)
      → AreDiffering types others pairs marks
      → (mark ≡ true → IsDiffering types others pairs (length marks))
      → after ≡ marks ++ mark ∷ [] → AreDiffering types others pairs after
  one_more_mark marks after mark are is e number f =
      let g : slice_get (marks ++ mark ∷ []) number ≡ Some true = subst (λ ms. slice_get ms number ≡ Some true) e f in
      elim (pushed_at marks mark number true g) [
        | inl h ↦ are number h
        | inr h ↦ subst (λ n. IsDiffering types others pairs n) (sym h.0) (is (sym h.1))
      ]

  -- one mark that is set
  pub one_mark_set :
      (marks after : List Bool) (place : ℕ)
      → AreDiffering types others pairs marks → IsDiffering types others pairs place
      → after ≡ slice_set marks place true → AreDiffering types others pairs after
  one_mark_set marks after place are is e number f =
      elim (where_set marks place number true true (subst (λ ms. slice_get ms number ≡ Some true) e f)) [
        | inl h ↦ are number h
        | inr h ↦ subst (λ n. IsDiffering types others pairs n) (sym h) is
      ]

-- an edge of those that are known
pub edge_at :
    (types others : List PortableType) (pairs edges : List (ℕ × ℕ)) (index : ℕ) (edge : ℕ × ℕ)
    → All (IsEdge types others pairs) edges → slice_get edges index ≡ Some edge → IsEdge types others pairs edge
edge_at types others pairs edges index edge all e =
    All-contains (IsEdge types others pairs) edges edge all (contains_at edges edge index e)

-- one more edge, to a pair of references at the same place
pub one_more_edge :
    (types others : List PortableType) (pairs : List (ℕ × ℕ)) (edges after : List (ℕ × ℕ)) (number child : ℕ)
    (pair : ℕ × ℕ) (references other_references : List ℕ) (place reference other_reference : ℕ)
    → All (IsEdge types others pairs) edges
    → slice_get pairs number ≡ Some pair → slice_get pairs child ≡ Some (reference, other_reference)
    → HasReferences types pair.0 references → HasReferences others pair.1 other_references
    → slice_get references place ≡ Some reference → slice_get other_references place ≡ Some other_reference
    → after ≡ edges ++ (number, child) ∷ [] → All (IsEdge types others pairs) after
one_more_edge types others pairs edges after number child pair references other_references place reference other_reference
    all at to x y e f is =
    subst (All (IsEdge types others pairs)) (sym is)
    (All-push (IsEdge types others pairs) edges (number, child) all (
      pair,
      (reference, other_reference),
      at,
      to,
      references_differ types others pair.0 pair.1 references other_references place reference other_reference x y e f,
    ))
