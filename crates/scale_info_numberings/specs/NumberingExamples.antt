-- Small systems, on which the definitions are tried: what is a numbering there, and what is none.
use Rattle.std.specs.Prelude.{ℕ, List, [], ◌∷◌, Some, None, codes}
use Rattle.scale_info_numberings.specs.RegistrationLists.{Registration}
use Rattle.scale_info_numberings.specs.Systems.{Entry, System}
use Rattle.scale_info_numberings.specs.Tables.{table_system}

-- the entry with this shape and these references
abbrev pub entry : {Sh N : Type 0} → Sh → List N → Entry Sh N
entry s rs = record { shape = s; refs = rs }

-- `struct C {}`, `struct A { b: B, c: C }`, `struct B { d: D }` and `struct D { a: A }`
pub data Composite : Type 0 where
  A : Composite
  B : Composite
  C : Composite
  D : Composite

-- each composite refers to the types of its fields; its shape is its text without them
abbrev pub composites : System (List ℕ) Composite
composites A = Some (entry (codes "A { b, c }") (B ∷ C ∷ []))
composites B = Some (entry (codes "B { d }") (D ∷ []))
composites C = Some (entry (codes "C {}") [])
composites D = Some (entry (codes "D { a }") (A ∷ []))

-- the table of the composites in depth-first order from A: A, B, D, C
abbrev pub table_from_a : List (Entry (List ℕ) ℕ)
table_from_a =
    entry (codes "A { b, c }") (1 ∷ 3 ∷ [])
    ∷ entry (codes "B { d }") (2 ∷ [])
    ∷ entry (codes "D { a }") (0 ∷ [])
    ∷ entry (codes "C {}") []
    ∷ []

-- a table of the composites in another order, C, A, B, D, where this is the shape of C
abbrev pub table_as_declared : List ℕ → List (Entry (List ℕ) ℕ)
table_as_declared shape_of_c =
    entry shape_of_c []
    ∷ entry (codes "A { b, c }") (2 ∷ 0 ∷ [])
    ∷ entry (codes "B { d }") (3 ∷ [])
    ∷ entry (codes "D { a }") (1 ∷ [])
    ∷ []

-- C is registered while it is all of the catalogue, and then D, with the other composites there
abbrev pub only_c : System (List ℕ) Composite
only_c A = None
only_c B = None
only_c C = composites C
only_c D = None

-- C alone is registered and gets the index 0
abbrev pub registration_of_c : Registration (List ℕ) Composite
registration_of_c = record { catalogue = only_c; roots = C ∷ []; numbered = C ∷ [] }

-- then D is registered, and C keeps its index
abbrev pub registration_of_d : Registration (List ℕ) Composite
registration_of_d = record { catalogue = composites; roots = D ∷ []; numbered = C ∷ D ∷ A ∷ B ∷ [] }

-- 0 refers to 1, 1 to 2 and 2 to 0; here and below each shape is the number 7
abbrev pub cycle_of_three : System ℕ ℕ
cycle_of_three = table_system (entry 7 (1 ∷ []) ∷ entry 7 (2 ∷ []) ∷ entry 7 (0 ∷ []) ∷ [])

-- 0 refers to 1 and 1 to 0
abbrev pub cycle_of_two : System ℕ ℕ
cycle_of_two = table_system (entry 7 (1 ∷ []) ∷ entry 7 (0 ∷ []) ∷ [])

-- 0 refers to itself
abbrev pub self_reference : System ℕ ℕ
self_reference = table_system (entry 7 (0 ∷ []) ∷ [])

-- 0 refers to 2, which lies outside; 1 refers to nothing
abbrev pub leads_outside : System ℕ ℕ
leads_outside = table_system (entry 7 (2 ∷ []) ∷ entry 7 [] ∷ [])

-- 0 refers to 1, which refers to nothing
abbrev pub leads_inside : System ℕ ℕ
leads_inside = table_system (entry 7 (1 ∷ []) ∷ entry 7 [] ∷ [])
