-- Tables whose entries have their indices as ids are equal where they are as systems.
use Rattle.std.proofs.Common.{◌≡◌, ℕ, zero, suc, ◌+◌, List, [], ◌∷◌, map, Some, slice_get, refl, ap}
use Rattle.std.proofs.Common.{sym}
use Rattle.std.proofs.Common.{◌∙◌, arith}
use Rattle.scale_info_numberings.specs.Systems.{Entry}
use Rattle.scale_info_types.specs.Portable.{Id}
use Rattle.scale_info_types.specs.References.{references}
use Rattle.scale_info_types.specs.Shapes.{Shape, shape}
use Rattle.scale_info_types.specs.declared.ty.PortableType.{PortableType}
use Rattle.scale_info_types.specs.Portable.{Description}
use Rattle.scale_info_walk.specs.TypeSystems.{entry_of}

-- from n on each entry has its index as id
abbrev pub HasIdsFrom : ℕ → List PortableType → Type 0
HasIdsFrom n entries =
    (i : ℕ) (entry : PortableType) → slice_get entries i ≡ Some entry → entry.id ≡ n + i

-- symbols with the same ids are the same
same_symbols : (xs ys : List Id) → map (λ (s : Id). s.id) xs ≡ map (λ (s : Id). s.id) ys → xs ≡ ys
same_symbols [] [] e = refl
same_symbols [] (y ∷ ys) e = cc
same_symbols (x ∷ xs) [] e = cc
same_symbols (x ∷ xs) (y ∷ ys) e =
    let first : x.id ≡ y.id = cc in
    let later : map (λ (s : Id). s.id) xs ≡ map (λ (s : Id). s.id) ys = cc in
    let head : x ≡ y = ap (λ id. record { id = id; marker = x.marker }) first in
    let tail = same_symbols xs ys later in
    cc

-- a description is its shape and its references
abbrev pub PartsLaw : Type 0
PartsLaw =
    (a b : Description) → shape (λ text. text) a ≡ shape (λ text. text) b → references a ≡ references b → a ≡ b

module _ (parts_law : PartsLaw) where
  -- an entry is its id, its shape and its references
  same_entry : (a b : PortableType) → a.id ≡ b.id → entry_of a ≡ entry_of b → a ≡ b
  same_entry a b ids entries =
      let types = parts_law a.ty b.ty (ap (λ (e : Entry Shape ℕ). e.shape) entries)
      (same_symbols (references a.ty) (references b.ty) (ap (λ (e : Entry Shape ℕ). e.refs) entries)) in
      λ i. record { id = ids i; ty = types i }

  -- such entries are equal where they are as nodes of a system
  same_from :
      (n : ℕ) (xs ys : List PortableType) → HasIdsFrom n xs → HasIdsFrom n ys
      → map entry_of xs ≡ map entry_of ys → xs ≡ ys
  same_from n [] [] p q e = refl
  same_from n [] (y ∷ ys) p q e = cc
  same_from n (x ∷ xs) [] p q e = cc
  same_from n (x ∷ xs) (y ∷ ys) p q e =
      let first : entry_of x ≡ entry_of y = cc in
      let later : map entry_of xs ≡ map entry_of ys = cc in
      let head = same_entry x y (p zero x refl ∙ sym (q zero y refl)) first in
      let tail = same_from (suc n) xs ys
      (λ i entry at. let here = p (suc i) entry at in omega arith)
      (λ i entry at. let here = q (suc i) entry at in omega arith) later in
      λ i. head i ∷ tail i

  -- tables with indices as ids
  pub same_types :
      (xs ys : List PortableType)
      → ((i : ℕ) (entry : PortableType) → slice_get xs i ≡ Some entry → entry.id ≡ i)
      → ((i : ℕ) (entry : PortableType) → slice_get ys i ≡ Some entry → entry.id ≡ i)
      → map entry_of xs ≡ map entry_of ys → xs ≡ ys
  same_types xs ys p q e =
      same_from zero xs ys (λ i entry at. let here = p i entry at in omega arith)
      (λ i entry at. let here = q i entry at in omega arith) e
