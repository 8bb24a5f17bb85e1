-- The four composites: numberings, a table, paths, one registration after another, and matches.
use Rattle.std.proofs.Common.{Contains, List, None, Option, Some, [], ap, arith, inl, inr, refl}
use Rattle.std.proofs.Common.{rules, slice_get, slice_index, subst, sym, ℕ, ◌↔◌, ◌∷◌, ◌≡◌, ◌⊎◌}
use Rattle.std.proofs.lemmas.Option.{none-some, same_Some}
use Rattle.std.specs.Prelude.{codes}
use Rattle.scale_info_numberings.proofs.ExtensionOfExtension.{any_registrations}
use Rattle.scale_info_numberings.proofs.Extensions.{extension_of_numbering, one_extension}
use Rattle.scale_info_numberings.proofs.Extensions.{one_numbering}
use Rattle.scale_info_numberings.proofs.FirstReference.{extends_by_known}
use Rattle.scale_info_numberings.proofs.ByEnumeration.{extension_listed, not_contained}
use Rattle.scale_info_numberings.proofs.ByEnumeration.{numbering_listed, path_listed, table_listed}
use Rattle.scale_info_numberings.proofs.Matches.{match_exactly}
use Rattle.scale_info_numberings.proofs.Places.{contains_cases, contains_head, contains_tail}
use Rattle.scale_info_numberings.proofs.Tables.{one_table}
use Rattle.scale_info_numberings.specs.NumberingExamples.{A, B, C, Composite, D, composites, entry}
use Rattle.scale_info_numberings.specs.NumberingExamples.{only_c}
use Rattle.scale_info_numberings.specs.NumberingExamples.{registration_of_c, registration_of_d}
use Rattle.scale_info_numberings.specs.NumberingExamples.{table_as_declared, table_from_a}
use Rattle.scale_info_numberings.specs.Extensions.{IsExtension}
use Rattle.scale_info_numberings.specs.Matches.{IsMatch}
use Rattle.scale_info_numberings.specs.Numberings.{IsNumbering, IsNumberingWith}
use Rattle.scale_info_numberings.specs.Paths.{IsPath}
use Rattle.scale_info_numberings.specs.RegistrationLists.{AreRegistrations}
use Rattle.scale_info_numberings.specs.Systems.{Entry, Grows, IsReachedPast, next, root}
use Rattle.scale_info_numberings.specs.Tables.{IsTable, table_system}

-- the composites as they are discovered from A
abbrev pub discovered : List Composite
discovered = A ∷ B ∷ D ∷ C ∷ []

-- with the ends written out
pub composites_numbered : IsNumberingWith composites (A ∷ []) discovered (4 ∷ 3 ∷ 3 ∷ 4 ∷ [])
composites_numbered =
    numbering_listed composites discovered (4 ∷ 3 ∷ 3 ∷ 4 ∷ []) (A ∷ [])
    (search (rules, arith))
    refl
    (search (rules, arith))
    (4, inr (refl, refl), refl) (
      (entry (codes "A { b, c }") (B ∷ C ∷ []), refl, (3, inr (refl, refl), (4, inr (refl, refl), refl))),
      (
        (entry (codes "B { d }") (D ∷ []), refl, (3, inr (refl, refl), refl)),
        (
          (entry (codes "D { a }") (A ∷ []), refl, (3, inl (0, omega arith, refl, refl), refl)),
          ((entry (codes "C {}") [], refl, refl), tt),
        ),
      ),
    )

-- no other list is a numbering from A
pub composites_alone : (L : List Composite) → IsNumbering composites (A ∷ []) L → L ≡ discovered
composites_alone L x =
    one_numbering composites (A ∷ []) L discovered x (4 ∷ 3 ∷ 3 ∷ 4 ∷ [], composites_numbered)

-- place 2 would hold both C and D
pub not_breadth_first : ¬ (IsNumbering composites (A ∷ []) (A ∷ B ∷ C ∷ D ∷ []))
not_breadth_first x =
    let e : Some C ≡ Some D =
    ap (λ (L : List Composite). slice_get L 2) (composites_alone (A ∷ B ∷ C ∷ D ∷ []) x) in
    cc

-- place 0 would hold both C and A
pub not_as_declared : ¬ (IsNumbering composites (A ∷ []) (C ∷ A ∷ B ∷ D ∷ []))
not_as_declared x =
    let e : Some C ≡ Some A =
    ap (λ (L : List Composite). slice_get L 0) (composites_alone (C ∷ A ∷ B ∷ D ∷ []) x) in
    cc

-- the table, entry by entry
pub composites_table : IsTable composites discovered table_from_a
composites_table =
    table_listed composites discovered table_from_a refl (
      (entry (codes "A { b, c }") (B ∷ C ∷ []), entry (codes "A { b, c }") (1 ∷ 3 ∷ []), refl, refl, refl, (refl, (refl, tt))),
      (
        (entry (codes "B { d }") (D ∷ []), entry (codes "B { d }") (2 ∷ []), refl, refl, refl, (refl, tt)),
        (
          (entry (codes "D { a }") (A ∷ []), entry (codes "D { a }") (0 ∷ []), refl, refl, refl, (refl, tt)),
          ((entry (codes "C {}") [], entry (codes "C {}") [], refl, refl, refl, tt), tt),
        ),
      ),
    )

-- and no other
pub one_table_from_a :
    (T : List (Entry (List ℕ) ℕ))
    → IsTable composites discovered T → T ≡ table_from_a
one_table_from_a T x =
    one_table composites discovered composites_numbered.order.distinct T table_from_a x composites_table

-- C is known where it is looked at again
pub a_before_c : IsNumberingWith composites (A ∷ C ∷ []) discovered (4 ∷ 3 ∷ 3 ∷ 4 ∷ [])
a_before_c =
    record {
      order = composites_numbered.order;
      from_roots = (4, inr (refl, refl), (4, inl (3, omega arith, refl, refl), refl));
      nodes = composites_numbered.nodes;
    }

-- C comes first, and is known where A refers to it
pub c_before_a : IsNumberingWith composites (C ∷ A ∷ []) (C ∷ A ∷ B ∷ D ∷ []) (1 ∷ 4 ∷ 4 ∷ 4 ∷ [])
c_before_a =
    numbering_listed composites (C ∷ A ∷ B ∷ D ∷ []) (1 ∷ 4 ∷ 4 ∷ 4 ∷ []) (C ∷ A ∷ [])
    (search (rules, arith))
    refl
    (search (rules, arith))
    (1, inr (refl, refl), (4, inr (refl, refl), refl)) (
      (entry (codes "C {}") [], refl, refl),
      (
        (entry (codes "A { b, c }") (B ∷ C ∷ []), refl, (4, inr (refl, refl), (4, inl (0, omega arith, refl, refl), refl))),
        (
          (entry (codes "B { d }") (D ∷ []), refl, (4, inr (refl, refl), refl)),
          ((entry (codes "D { a }") (A ∷ []), refl, (4, inl (1, omega arith, refl, refl), refl)), tt),
        ),
      ),
    )

-- place 0 would hold both C and A
pub roots_not_exchanged : ¬ (IsNumbering composites (C ∷ A ∷ []) discovered)
roots_not_exchanged x =
    let same =
    one_numbering composites (C ∷ A ∷ []) discovered (C ∷ A ∷ B ∷ D ∷ []) x
    (1 ∷ 4 ∷ 4 ∷ 4 ∷ [], c_before_a) in
    let e : Some A ≡ Some C = ap (λ (L : List Composite). slice_get L 0) same in cc

-- paths

-- along the first field of A and that of B
pub path_to_d : IsPath composites (A ∷ []) (A ∷ B ∷ D ∷ []) D
path_to_d =
    path_listed composites (A ∷ []) (A ∷ B ∷ D ∷ []) (A ∷ B ∷ []) A D (contains_head A []) refl refl
    ((entry (codes "A { b, c }") (B ∷ C ∷ []), refl, contains_head B (C ∷ [])), ((entry (codes "B { d }") (D ∷ []), refl, contains_head D []), tt))

-- A does not refer to D
pub no_path_to_d : ¬ (IsPath composites (A ∷ []) (A ∷ D ∷ []) D)
no_path_to_d p =
    let s = p.steps 0 A D refl refl in
    let same : entry (codes "A { b, c }") (B ∷ C ∷ []) ≡ s.0 =
    same_Some (entry (codes "A { b, c }") (B ∷ C ∷ [])) s.0 s.1 in
    not_contained D (B ∷ C ∷ []) (search (rules, arith))
    (subst (λ (z : Entry (List ℕ) Composite). Contains z.refs D) (sym same) s.2)

-- past B nothing but A and C is reached
past_b : (n : Composite) → IsReachedPast composites (B ∷ []) (A ∷ []) n → (A ≡ n) ⊎ (C ≡ n)
past_b n (root m c u) = elim (contains_cases A [] n c) [ inl e ↦ inl e | inr k ↦ absurd (not_contained n [] tt k) ]
past_b n (next m k d h s c u) =
    elim (past_b m h) [
      | inl e ↦
          let same : entry (codes "A { b, c }") (B ∷ C ∷ []) ≡ d =
          same_Some (entry (codes "A { b, c }") (B ∷ C ∷ [])) d
          (subst (λ z. composites z ≡ Some d) (sym e) s) in
          let k : Contains (B ∷ C ∷ []) n =
          subst (λ (z : Entry (List ℕ) Composite). Contains z.refs n) (sym same) c in
          elim (contains_cases B (C ∷ []) n k) [
            | inl b ↦ absurd (u (subst (λ z. Contains (B ∷ []) z) b (contains_head B [])))
            | inr r ↦ elim (contains_cases C [] n r) [ inl q ↦ inr q | inr k ↦ absurd (not_contained n [] tt k) ]
          ]
      | inr e ↦
          let same : entry (codes "C {}") [] ≡ d =
          same_Some (entry (codes "C {}") []) d (subst (λ z. composites z ≡ Some d) (sym e) s) in
          absurd
          (not_contained n [] tt (subst (λ (z : Entry (List ℕ) Composite). Contains z.refs n) (sym same) c))
    ]

-- along the second field of A
pub c_past_b : IsReachedPast composites (B ∷ []) (A ∷ []) C
c_past_b =
    next A C (entry (codes "A { b, c }") (B ∷ C ∷ []))
    (root A (contains_head A []) (not_contained A (B ∷ []) (λ e. cc, tt))) refl
    (contains_tail B (C ∷ []) C (contains_head C [])) (not_contained C (B ∷ []) (λ e. cc, tt))

-- D is neither A nor C
pub d_not_past_b : ¬ (IsReachedPast composites (B ∷ []) (A ∷ []) D)
d_not_past_b h = elim (past_b D h) [ inl e ↦ cc | inr e ↦ cc ]

-- registrations

-- C alone
pub c_numbered : IsNumbering only_c (C ∷ []) (C ∷ [])
c_numbered = (
  1 ∷ [],
  numbering_listed only_c (C ∷ []) (1 ∷ []) (C ∷ []) (tt, tt) refl (λ h. (omega arith, omega arith), tt) (1, inr (refl, refl), refl)
      ((entry (codes "C {}") [], refl, refl), tt),
)

-- the catalogue that has C alone is part of the one that has all
pub only_c_grows : Grows only_c composites
only_c_grows A d e = absurd (none-some d e)
only_c_grows B d e = absurd (none-some d e)
only_c_grows C d e = e
only_c_grows D d e = absurd (none-some d e)

-- the ends of D, A and B are 4; C has none of its own here
pub d_after_c : IsExtension composites (C ∷ []) (D ∷ []) (C ∷ D ∷ A ∷ B ∷ [])
d_after_c =
    extension_listed composites (C ∷ D ∷ A ∷ B ∷ []) (1 ∷ 4 ∷ 4 ∷ 4 ∷ []) (C ∷ []) (D ∷ A ∷ B ∷ [])
    (D ∷ []) refl
    (search (rules, arith))
    refl
    (search (rules, arith))
    (4, inr (refl, refl), refl) (
      λ h. absurd (omega arith),
      (
        λ h. (entry (codes "D { a }") (A ∷ []), refl, (4, inr (refl, refl), refl)),
        (
          λ h. (entry (codes "A { b, c }") (B ∷ C ∷ []), refl, (4, inr (refl, refl), (4, inl (0, omega arith, refl, refl), refl))),
          (λ h. (entry (codes "B { d }") (D ∷ []), refl, (4, inl (1, omega arith, refl, refl), refl)), tt),
        ),
      ),
    )

-- place 1 would hold both A and D
pub not_a_first : ¬ (IsExtension composites (C ∷ []) (D ∷ []) (C ∷ A ∷ B ∷ D ∷ []))
not_a_first x =
    let same =
    one_extension composites (C ∷ []) (D ∷ []) (C ∷ A ∷ B ∷ D ∷ [])
    (C ∷ D ∷ A ∷ B ∷ []) x d_after_c in
    let e : Some A ≡ Some D = ap (λ (L : List Composite). slice_get L 1) same in cc

-- both registrations
pub c_and_d : AreRegistrations registration_of_c (registration_of_d ∷ [])
c_and_d = (only_c_grows, d_after_c, tt)

-- what they number is what C and D in one go number
pub c_and_d_numbered : IsNumbering composites (C ∷ D ∷ []) (C ∷ D ∷ A ∷ B ∷ [])
c_and_d_numbered =
    any_registrations registration_of_c (registration_of_d ∷ [])
    (extension_of_numbering only_c (C ∷ []) (C ∷ []) c_numbered) c_and_d

-- a known root adds nothing
pub b_is_known : IsExtension composites discovered (B ∷ []) discovered
b_is_known =
    extends_by_known composites discovered B composites_numbered.order.distinct
    (contains_tail A (B ∷ D ∷ C ∷ []) B (contains_head B (D ∷ C ∷ [])))

-- the table pruned

-- D, A, B, C by their places in the table
pub pruned_from_d :
    IsNumberingWith (table_system table_from_a) (2 ∷ []) (2 ∷ 0 ∷ 1 ∷ 3 ∷ []) (4 ∷ 4 ∷ 3 ∷ 4 ∷ [])
pruned_from_d =
    numbering_listed (table_system table_from_a) (2 ∷ 0 ∷ 1 ∷ 3 ∷ []) (4 ∷ 4 ∷ 3 ∷ 4 ∷ []) (2 ∷ [])
    (search (rules, arith))
    refl
    (search (rules, arith))
    (4, inr (refl, refl), refl) (
      (entry (codes "D { a }") (0 ∷ []), refl, (4, inr (refl, refl), refl)),
      (
        (entry (codes "A { b, c }") (1 ∷ 3 ∷ []), refl, (3, inr (refl, refl), (4, inr (refl, refl), refl))),
        ((entry (codes "B { d }") (2 ∷ []), refl, (3, inl (0, omega arith, refl, refl), refl)), ((entry (codes "C {}") [], refl, refl), tt)),
      ),
    )

-- matches with tables in another order

abbrev shape_of : Option (Entry (List ℕ) ℕ) → List ℕ
shape_of None = []
shape_of (Some d) = d.shape

-- the table with the order C, A, B, D
module _ (last : List ℕ) where
  abbrev rows : List (Entry (List ℕ) ℕ)
  rows = table_as_declared last

  abbrev rows_in_order : List (Entry (List ℕ) ℕ)
  rows_in_order =
      entry (codes "A { b, c }") (1 ∷ 3 ∷ []) ∷ entry (codes "B { d }") (2 ∷ []) ∷ entry (codes "D { a }") (0 ∷ []) ∷ entry last [] ∷ []

  rows_numbered :
      IsNumberingWith (table_system rows) (1 ∷ []) (1 ∷ 2 ∷ 3 ∷ 0 ∷ []) (4 ∷ 3 ∷ 3 ∷ 4 ∷ [])
  rows_numbered =
      numbering_listed (table_system rows) (1 ∷ 2 ∷ 3 ∷ 0 ∷ []) (4 ∷ 3 ∷ 3 ∷ 4 ∷ []) (1 ∷ [])
      (search (rules, arith))
      refl
      (search (rules, arith))
      (4, inr (refl, refl), refl) (
        (entry (codes "A { b, c }") (2 ∷ 0 ∷ []), refl, (3, inr (refl, refl), (4, inr (refl, refl), refl))),
        (
          (entry (codes "B { d }") (3 ∷ []), refl, (3, inr (refl, refl), refl)),
          (
            (entry (codes "D { a }") (1 ∷ []), refl, (3, inl (0, omega arith, refl, refl), refl)),
            ((entry last [], refl, refl), tt),
          ),
        ),
      )

  rows_table : IsTable (table_system rows) (1 ∷ 2 ∷ 3 ∷ 0 ∷ []) rows_in_order
  rows_table =
      table_listed (table_system rows) (1 ∷ 2 ∷ 3 ∷ 0 ∷ []) rows_in_order refl (
        (entry (codes "A { b, c }") (2 ∷ 0 ∷ []), entry (codes "A { b, c }") (1 ∷ 3 ∷ []), refl, refl, refl, (refl, (refl, tt))),
        (
          (entry (codes "B { d }") (3 ∷ []), entry (codes "B { d }") (2 ∷ []), refl, refl, refl, (refl, tt)),
          (
            (entry (codes "D { a }") (1 ∷ []), entry (codes "D { a }") (0 ∷ []), refl, refl, refl, (refl, tt)),
            ((entry last [], entry last [], refl, refl, refl, tt), tt),
          ),
        ),
      )

  -- a match with the composites exactly where the tables are equal
  pub rows_match :
      ((table_from_a ≡ rows_in_order) × (◌≡◌ {A = List ℕ} (0 ∷ []) (0 ∷ []))) ↔ ((pairs : List (Composite × ℕ)) × IsMatch composites (A ∷ []) (table_system rows) (1 ∷ []) pairs)
  rows_match =
      match_exactly composites (A ∷ []) discovered (table_system rows) (1 ∷ [])
      (1 ∷ 2 ∷ 3 ∷ 0 ∷ []) table_from_a rows_in_order (0 ∷ []) (0 ∷ [])
      (4 ∷ 3 ∷ 3 ∷ 4 ∷ [], composites_numbered) (4 ∷ 3 ∷ 3 ∷ 4 ∷ [], rows_numbered) composites_table rows_table (refl, tt) (refl, tt)

-- with equal shapes
pub declared_match :
    (pairs : List (Composite × ℕ)) × IsMatch composites (A ∷ []) (table_system (table_as_declared (codes "C {}"))) (1 ∷ []) pairs
declared_match = (rows_match (codes "C {}")).0 (refl, refl)

-- the letters C and E are the numbers 67 and 69
pub no_other_shape :
    ¬ ((pairs : List (Composite × ℕ)) × IsMatch composites (A ∷ []) (table_system (table_as_declared (codes "E {}"))) (1 ∷ []) pairs)
no_other_shape m =
    let same = ((rows_match (codes "E {}")).1 m).0 in
    let shapes : ◌≡◌ {A = ℕ} 67 69 =
    ap (λ (T : List (Entry (List ℕ) ℕ)). slice_index (shape_of (slice_get T 3)) 0) same in
    omega arith
