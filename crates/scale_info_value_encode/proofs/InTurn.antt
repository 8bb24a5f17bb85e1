-- Writers in a row, of one kind.
use Rattle.std.proofs.Common.{◌≡◌, ℕ, zero, suc, ◌+◌, ◌-◌, ◌<◌, ◌≤◌, List, [], ◌∷◌, length, take, drop, get_or, replicate, map, Option, drop-cons}
use Rattle.std.proofs.Common.{◌⊎◌, inl, inr, refl, ap, ◌∙◌, sym, arith}
use Rattle.std.proofs.lemmas.Grind.{common_steps}
use Rattle.scale_info_value.proofs.InOrder.{take_next}
use Rattle.scale_info_types.specs.Portable.{Id, Text, Field}
use Rattle.scale_info_types.specs.Shapes.{map_field}
use Rattle.scale_info_table.specs.declared.portable.PortableRegistry.{PortableRegistry}
use Rattle.scale_info_value.specs.declared.value.Value.{Value}
use Rattle.scale_info_value_encode.specs.declared.error.EncodeValueError.{EncodeValueError}
use Rattle.scale_info_value_encode.specs.Writers.{Writer, IsErrorOf, written, refused, mismatch, followed_by, item, in_turn}
use Rattle.scale_info_value_encode.specs.DefinitionWriters.{field}
use Rattle.scale_info_value_encode.specs.Writings.{part_within}
use Rattle.scale_info_value_encode.proofs.SoFar.{first_fails}

-- the first value, and the others
pub first_in_turn :
    {A : Type 0} (place : ℕ) (write : ℕ → Writer A) (more : List (ℕ → Writer A)) (values : List A) (value : A)
    → 1 ≤ length values → value ≡ get_or values 0 value
    → in_turn place (write ∷ more) values ≡ followed_by (write place value) (in_turn (place + 1) more (drop 1 values))
first_in_turn place write more [] value long is = absurd (omega arith)
first_in_turn place write more (v ∷ vs) value long is =
    ap (λ x. followed_by (write place x) (in_turn (place + 1) more vs)) (sym is)

-- the next value of one kind, and the others
pub next_value :
    {A : Type 0} (n k : ℕ) (write : ℕ → Writer A) (rest : List A) (value : A) → k < n → 1 ≤ length rest
    → value ≡ get_or rest 0 value
    → in_turn k (replicate (n - k) write) rest
    ≡ followed_by (write k value) (in_turn (k + 1) (replicate (n - (k + 1)) write) (drop 1 rest))
next_value n k write rest value h long is =
    ap (λ ws. in_turn k ws rest) (take_next n k write h)
    ∙ first_in_turn k write (replicate (n - (k + 1)) write) rest value long is

-- an element, and those after it
drop_next :
    {X : Type 0} (k : ℕ) (xs : List X) (x : X) → k < length xs → x ≡ get_or xs k x → drop k xs ≡ x ∷ drop (k + 1) xs
drop_next k xs x h is =
    let e : suc k ≡ k + 1 = omega arith in drop-cons xs k x h ∙ (λ i. sym is i ∷ drop (e i) xs)

-- the next value by a type or a field of its own, and the others
pub next_part :
    {X Y A : Type 0} (write : Y → ℕ → Writer A) (part : X → Y) (k : ℕ) (xs : List X) (x : X) (rest : List A) (value : A)
    → k < length xs → x ≡ get_or xs k x → 1 ≤ length rest → value ≡ get_or rest 0 value
    → in_turn k (map write (map part (drop k xs))) rest
    ≡ followed_by (write (part x) k value) (in_turn (k + 1) (map write (map part (drop (k + 1) xs))) (drop 1 rest))
next_part write part k xs x rest value h at long is =
    ap (λ ys. in_turn k (map write (map part ys)) rest) (drop_next k xs x h at)
    ∙ first_in_turn k (write (part x)) (map write (map part (drop (k + 1) xs))) rest value long is

-- the next of values of which all are written, and the others
pub next_entry :
    {A : Type 0} (k : ℕ) (write : ℕ → Writer A) (values : List A) (value : A) → k < length values
    → value ≡ get_or values k value
    → in_turn k (replicate (length (drop k values)) write) (drop k values)
    ≡ followed_by (write k value) (in_turn (k + 1) (replicate (length (drop (k + 1) values)) write) (drop (k + 1) values))
next_entry k write values value h is =
    ap (λ all. in_turn k (replicate (length all) write) all) (drop_next k values value h is)

-- all but the first are all after the first
pub tail_whole : {A : Type 0} (xs : List A) → take (length xs - 1) (drop 1 xs) ≡ drop 1 xs
tail_whole [] = refl
tail_whole (x ∷ xs) = take_whole xs (suc (length xs) - 1) (omega arith)
  where
    take_whole : {A : Type 0} (ys : List A) (n : ℕ) → length ys ≡ n → take n ys ≡ ys
    take_whole ys n e = grind (arith, common_steps)

-- the last value, where those after the first are what is left
pub last_in_turn :
    {A : Type 0} (place : ℕ) (write : ℕ → Writer A) (values rest : List A) (value : A)
    → rest ≡ take (length values - 1) (drop 1 values) → 1 ≤ length rest → value ≡ get_or rest 0 value
    → in_turn place (write ∷ []) (drop 1 values)
    ≡ followed_by (write place value) (in_turn (place + 1) [] (drop 1 rest))
last_in_turn place write values rest value left long is =
    ap (in_turn place (write ∷ [])) (sym (tail_whole values) ∙ sym left) ∙ first_in_turn place write [] rest value long is

-- no value is left
pub none_left :
    {A : Type 0} (place : ℕ) (values : List A) → length (take (length values - 1) (drop 1 values)) ≡ 0
    → in_turn {A = A} place [] (drop 1 values) ≡ written []
none_left {A} place values e = by_rest (drop 1 values) (ap length (sym (tail_whole values)) ∙ e)
  where
    by_rest : (rest : List A) → length rest ≡ 0 → in_turn place [] rest ≡ written []
    by_rest [] h = refl
    by_rest (v ∷ vs) h = absurd (omega arith)

-- there is no next value
pub no_next_value :
    {A : Type 0} (n k : ℕ) (write : ℕ → Writer A) (rest : List A) → k < n → length rest < 1
    → in_turn k (replicate (n - k) write) rest ≡ refused mismatch
no_next_value n k write [] h none = ap (λ ws. in_turn k ws []) (take_next n k write h)
no_next_value n k write (v ∷ vs) h none = absurd (omega arith)

-- an error that the first value has, whatever it is, is one of all, where there are any
pub first_of_all :
    {A : Type 0} (n : ℕ) (write : ℕ → Writer A) (values : List A) (e : EncodeValueError) → 0 < n → 0 < length values
    → ((value : A) → IsErrorOf (write 0 value) e) → IsErrorOf (in_turn 0 (replicate n write) values) e
first_of_all zero write values e h long same = absurd (omega arith)
first_of_all (suc n) write [] e h long same = absurd (omega arith)
first_of_all (suc n) write (v ∷ vs) e h long same =
    first_fails (write 0 v) (in_turn 1 (replicate n write) vs) e (same v)

-- where there are values and no writers, or writers and no values
pub uneven :
    {A : Type 0} (n : ℕ) (write : ℕ → Writer A) (values : List A) → (n ≡ 0 → length values ≡ 0 → ⊥)
    → (n ≡ 0) ⊎ (length values ≡ 0) → in_turn 0 (replicate n write) values ≡ refused mismatch
uneven zero write [] apart some = absurd (apart refl refl)
uneven zero write (v ∷ vs) apart some = refl
uneven (suc n) write [] apart some = refl
uneven (suc n) write (v ∷ vs) apart (inl e) = absurd (omega arith)
uneven (suc n) write (v ∷ vs) apart (inr e) = absurd (omega arith)

-- so many items of one kind, where each gives what another gives
pub alike :
    {A : Type 0} (n : ℕ) (write other : Writer A) (values : List A) → ((value : A) → write value ≡ other value)
    → in_turn 0 (replicate n (item write)) values ≡ in_turn 0 (replicate n (item other)) values
alike n write other values same = ap (λ w. in_turn 0 (replicate n (item w)) values) (λ i value. same value i)

-- a value of each type in order, where the first has this place
abbrev pub members_from : ℕ → ℕ → PortableRegistry → List Id → Writer (List Value)
members_from place left table types values =
    in_turn place (map (λ part. item part.value) (map (part_within left table) types)) values

-- the values of fields in order, where the first has this place
abbrev pub fields_from : ℕ → ℕ → PortableRegistry → List Field → Writer (List (Option Text × Value))
fields_from place left table all values =
    in_turn place (map field (map (map_field {G = Unit {0}} (part_within left table) (λ t. t)) all)) values
