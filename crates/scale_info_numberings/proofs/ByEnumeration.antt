-- Facts on every place of a list that is written out, from one fact for each place.
use Rattle.std.proofs.Common.{Contains, List, Some, [], ap, arith, inl, inr, length, refl}
use Rattle.std.proofs.Common.{slice_get, slice_index, subst, suc, sym, zero, zero-le, ℕ, ◌++◌, ◌+◌}
use Rattle.std.proofs.Common.{◌<◌, ◌∷◌, ◌≡◌, ◌≤◌}
use Rattle.std.proofs.lemmas.Option.{none-some, same_Some, slice_get-get_or}
use Rattle.std.specs.Prelude.{⊤}
use Rattle.scale_info_numberings.proofs.Places.{contains_at, contains_cases, place_of}
use Rattle.scale_info_numberings.specs.Extensions.{IsExtension}
use Rattle.scale_info_numberings.specs.Numberings.{AreDistinct, IsNumberingWith, Walks}
use Rattle.scale_info_numberings.specs.Paths.{IsPath}
use Rattle.scale_info_numberings.specs.Systems.{Entry, System}
use Rattle.scale_info_numberings.specs.Tables.{ArePlaces, IsTable}

-- P holds of each element and its place
abbrev pub AtEach : {A : Type 0} → (ℕ → A → Type 0) → List A → Type 0
AtEach P [] = ⊤
AtEach P (x ∷ xs) = P 0 x × AtEach (λ i y. P (suc i) y) xs

-- from the facts at each place to every place
pub at_each :
    {A : Type 0} (P : ℕ → A → Type 0) (xs : List A)
    → AtEach P xs → (i : ℕ) (x : A) → slice_get xs i ≡ Some x → P i x
at_each P [] h i x e = absurd (none-some x e)
at_each P (y ∷ xs) h zero x e = subst (λ z. P 0 z) (same_Some y x e) h.0
at_each P (y ∷ xs) h (suc i) x e = at_each (λ i y. P (suc i) y) xs h.1 i x e

-- no element is x
abbrev pub NoneIs : {A : Type 0} → A → List A → Type 0
NoneIs x [] = ⊤
NoneIs x (y ∷ ys) = (x ≡ y → ⊥) × NoneIs x ys

-- what is none of the elements is not contained
pub not_contained : {A : Type 0} (x : A) (xs : List A) → NoneIs x xs → ¬ (Contains xs x)
not_contained x [] h c = let p = place_of [] x c in none-some x p.1
not_contained x (y ∷ ys) h c = elim (contains_cases y ys x c) [ inl e ↦ h.0 (sym e) | inr k ↦ not_contained x ys h.1 k ]

-- each element is none of those after it
abbrev pub AreApart : {A : Type 0} → List A → Type 0
AreApart [] = ⊤
AreApart (x ∷ xs) = NoneIs x xs × AreApart xs

-- elements that are apart are distinct
pub apart_distinct : {A : Type 0} (xs : List A) → AreApart xs → AreDistinct xs
apart_distinct [] h i j n e f = absurd (none-some n e)
apart_distinct (x ∷ xs) h zero zero n e f = refl
apart_distinct (x ∷ xs) h zero (suc j) n e f =
    absurd
    (not_contained x xs h.0 (subst (λ z. Contains xs z) (sym (same_Some x n e)) (contains_at xs n j f)))
apart_distinct (x ∷ xs) h (suc i) zero n e f =
    absurd
    (not_contained x xs h.0 (subst (λ z. Contains xs z) (sym (same_Some x n f)) (contains_at xs n i e)))
apart_distinct (x ∷ xs) h (suc i) (suc j) n e f = ap suc (apart_distinct xs h.1 i j n e f)

-- from the place `from` on each end is above its place and within the list
abbrev pub AreEnds : ℕ → ℕ → List ℕ → Type 0
AreEnds from long E = AtEach (λ i e. from ≤ i → (i < e) × (e ≤ long)) E

ends_at :
    (from long : ℕ) (E : List ℕ)
    → AreEnds from long E → (i : ℕ) → from ≤ i → i < length E
    → (i < slice_index E i) × (slice_index E i ≤ long)
ends_at from long E h i b l =
    at_each (λ i e. from ≤ i → (i < e) × (e ≤ long)) E h i (slice_index E i)
    (slice_get-get_or E i 0 l) b

module _ {Sh N : Type 0} (S : System Sh N) (L : List N) (E : List ℕ) where
  -- at the place i stands a node whose references walk from there to its end
  abbrev pub HasEnd : ℕ → N → Type 0
  HasEnd i n =
      (d : Entry Sh N) × (S n ≡ Some d)
      × Walks L (λ k. slice_index E k) d.refs (i + 1) (slice_index E i)

  -- a numbering from one fact for each place
  pub numbering_listed :
      (roots : List N)
      → AreApart L
      → length E ≡ length L
      → AreEnds 0 (length L) E
      → Walks L (λ i. slice_index E i) roots 0 (length L)
      → AtEach (λ i n. HasEnd i n) L → IsNumberingWith S roots L E
  numbering_listed roots apart long ends from nodes =
      record {
        order = record {
          distinct = apart_distinct L apart;
          long = long;
          above =
              λ i h. (ends_at 0 (length L) E ends i zero-le (subst (λ z. i < z) (sym long) h)).0;
          within =
              λ i h. (ends_at 0 (length L) E ends i zero-le (subst (λ z. i < z) (sym long) h)).1;
        };
        from_roots = from;
        nodes = λ i n e. at_each (λ i n. HasEnd i n) L nodes i n e;
      }

  -- an extension from one fact for each place; the old places have none to show
  pub extension_listed :
      (K new roots : List N)
      → K ++ new ≡ L
      → AreApart L
      → length E ≡ length L
      → AreEnds (length K) (length L) E
      → Walks L (λ i. slice_index E i) roots (length K) (length L)
      → AtEach (λ i n. length K ≤ i → HasEnd i n) L → IsExtension S K roots L
  extension_listed K new roots begins apart long ends from nodes = (
    λ i. slice_index E i,
    record {
      begins = (new, begins);
      distinct = apart_distinct L apart;
      above =
          λ i b h. (ends_at (length K) (length L) E ends i b (subst (λ z. i < z) (sym long) h)).0;
      within =
          λ i b h. (ends_at (length K) (length L) E ends i b (subst (λ z. i < z) (sym long) h)).1;
      from_roots = from;
      nodes = λ i n b e. at_each (λ i n. length K ≤ i → HasEnd i n) L nodes i n e b;
    },
  )

-- a table from one fact for each place
pub table_listed :
    {Sh N : Type 0} (S : System Sh N) (L : List N) (T : List (Entry Sh ℕ)) → length T ≡ length L
    → AtEach (λ i n. (d : Entry Sh N) × (t : Entry Sh ℕ) × (S n ≡ Some d) × (slice_get T i ≡ Some t) × (t.shape ≡ d.shape) × ArePlaces L d.refs t.refs) L
    → IsTable S L T
table_listed {Sh} {N} S L T long entries =
    record {
      long = long;
      entries =
          λ i n e.
          at_each
          (λ i n. (d : Entry Sh N) × (t : Entry Sh ℕ) × (S n ≡ Some d) × (slice_get T i ≡ Some t) × (t.shape ≡ d.shape) × ArePlaces L d.refs t.refs) L entries i n e;
    }

-- P holds of each element and the next one
abbrev pub AtNeighbours : {A : Type 0} → (A → A → Type 0) → List A → Type 0
AtNeighbours P [] = ⊤
AtNeighbours P (x ∷ []) = ⊤
AtNeighbours P (x ∷ y ∷ xs) = P x y × AtNeighbours P (y ∷ xs)

at_neighbours :
    {A : Type 0} (P : A → A → Type 0) (xs : List A)
    → AtNeighbours P xs → (i : ℕ) (a b : A) → slice_get xs i ≡ Some a
    → slice_get xs (suc i) ≡ Some b → P a b
at_neighbours P [] h i a b e f = absurd (none-some a e)
at_neighbours P (x ∷ []) h i a b e f = absurd (none-some b f)
at_neighbours P (x ∷ y ∷ xs) h zero a b e f =
    subst (λ z. P z b) (same_Some x a e) (subst (λ z. P x z) (same_Some y b f) h.0)
at_neighbours P (x ∷ y ∷ xs) h (suc i) a b e f = at_neighbours P (y ∷ xs) h.1 i a b e f

-- a path from one fact for each two neighbours
pub path_listed :
    {Sh N : Type 0} (S : System Sh N) (roots names front : List N) (r n : N)
    → Contains roots r
    → slice_get names 0 ≡ Some r
    → names ≡ front ++ n ∷ []
    → AtNeighbours (λ a b. (d : Entry Sh N) × (S a ≡ Some d) × Contains d.refs b) names
    → IsPath S roots names n
path_listed {Sh} {N} S roots names front r n c e f h =
    record {
      begins = (r, c, e);
      ends = (front, f);
      steps = λ i a b p q.
          let one : i + 1 ≡ suc i = omega arith in
          at_neighbours
          (λ a b. (d : Entry Sh N) × (S a ≡ Some d) × Contains d.refs b) names h i a b p
          (subst (λ z. slice_get names z ≡ Some b) one q);
    }
