-- What the tests of searches by paths mean.
use Rattle.std.proofs.Common.{◌≡◌, ◌++◌, ◌∷◌, ◌∙◌, ◌↔◌, ◌⊎◌, ◌&&◌, ◌||◌, ◌==◌, ℕ, Bool, true, false, List, []}
use Rattle.std.proofs.Common.{length, inl, inr, ap, sym, refl, arith, length-append, append-nil, rules, tests}
use Rattle.std.specs.Prelude.{IsTrue}
use Rattle.std.proofs.lemmas.Bool.{false≢true}
use Rattle.std.proofs.lemmas.List.{nil_from_length}
use Rattle.std.proofs.lemmas.Slice.Eq.{bytes_eq-Decides}
use Rattle.scale_info_types.specs.Portable.{Text}
use Rattle.scale_info_table_describe.specs.PathSearches.{StandInARow, begins_with, is_path, stands_in}

both : (a b : Bool) → (a && b) ≡ true → (a ≡ true) × (b ≡ true)
both true b e = (refl, e)
both false b e = absurd (false≢true e)

either : (a b : Bool) → (a || b) ≡ true → (a ≡ true) ⊎ (b ≡ true)
either true b e = inl refl
either false b e = inr e

second_holds : (a b : Bool) → b ≡ true → (a || b) ≡ true
second_holds true b e = refl
second_holds false b e = e

-- a path that begins with segments is these and others
begins_as :
    (segments path : List Text)
    → begins_with segments path ≡ true → (back : List Text) × (path ≡ segments ++ back)
begins_as [] path e = (path, refl)
begins_as (s ∷ segments) [] e = absurd (false≢true e)
begins_as (s ∷ segments) (t ∷ path) e =
    let parts = both _ _ e in
    let rest = begins_as segments path parts.1 in
    (rest.0, ap (λ x. x ∷ path) (sym ((bytes_eq-Decides s t).0 parts.0)) ∙ ap (λ xs. s ∷ xs) rest.1)

-- these and others begin with these
begins_so : (segments back : List Text) → begins_with segments (segments ++ back) ≡ true
begins_so [] back = refl
begins_so (s ∷ segments) back =
    rw ((bytes_eq-Decides s s).1 refl) (begins_so segments back)

no_more :
    (segments path back : List Text)
    → path ≡ segments ++ back → length segments ≡ length path → path ≡ segments
no_more segments path back parts long =
    let sizes = ap length parts ∙ length-append segments back in
    let none = nil_from_length back (omega arith) in
    parts ∙ ap (λ xs. segments ++ xs) none ∙ append-nil segments

same_count : {a b : ℕ} → (a == b) ≡ true → a ≡ b
same_count e = search (rules, tests)

whole_self : (segments : List Text) → is_path segments segments ≡ true
whole_self segments =
    let begins = rw append-nil at (begins_so segments []) in
    rw begins (search (rules, tests))

-- a path is these segments exactly where they are the same
pub whole_path :
    (segments path : List Text) → IsTrue (is_path segments path) ↔ (path ≡ segments)
whole_path segments path = (
  λ found.
      let parts = both _ _ found in
      let begun = begins_as segments path parts.0 in
      no_more segments path begun.0 begun.1 (same_count parts.1),
  λ same. rw same (whole_self segments),
)

-- a path that begins with segments has them in a row
stands_first :
    (segments path : List Text) → begins_with segments path ≡ true → stands_in segments path ≡ true
stands_first segments [] e = e
stands_first segments (t ∷ path) e = rw e refl

row_found :
    (segments front back : List Text) → stands_in segments (front ++ (segments ++ back)) ≡ true
row_found segments [] back = stands_first segments (segments ++ back) (begins_so segments back)
row_found segments (t ∷ front) back = second_holds _ _ (row_found segments front back)

found_row :
    (segments path : List Text) → stands_in segments path ≡ true → StandInARow segments path
found_row segments [] e =
    let begun = begins_as segments [] e in
    record { front = []; back = begun.0; parts = begun.1 }
found_row segments (t ∷ path) e =
    elim (either _ _ e) [
      | inl here ↦
          let begun = begins_as segments (t ∷ path) here in
          record { front = []; back = begun.0; parts = begun.1 }
      | inr later ↦
          let row = found_row segments path later in
          record { front = t ∷ row.front; back = row.back; parts = ap (λ xs. t ∷ xs) row.parts }
    ]

-- segments stand in a path in a row exactly where it is some segments, these, and some others
pub in_a_row :
    (segments path : List Text) → IsTrue (stands_in segments path) ↔ StandInARow segments path
in_a_row segments path = (
  found_row segments path,
  λ row. rw row.parts (row_found segments row.front row.back),
)
