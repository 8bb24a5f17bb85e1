-- Types known by their contents, and by an equality that goes by contents.
use Rattle.std.proofs.Common.{◌≡◌, ◌↔◌, ◌⊎◌, inl, inr, IsTrue, true, false, ◌+◌, ℕ, zero, suc, Bool}
use Rattle.std.proofs.Common.{List, [], ◌∷◌, ◌++◌, length, Some, slice_get, Result, Ok, Err, IfOk}
use Rattle.std.proofs.Common.{OnErr, ap, refl, sym, ◌∙◌, rules, arith}
use Rattle.std.proofs.lemmas.Bool.{false≢true}
use Rattle.std.proofs.lemmas.Grind.{common_steps}
use Rattle.scale_info_types.specs.Portable.{Description}
use Rattle.scale_info_interner.specs.Interned.{IsIndexOf, IsKnown, IsNew}
use Rattle.scale_info_table.specs.BuiltTables.{IsRegistered, IsUnregistered, numbered_from}

-- eq decides whether two values are one
abbrev pub DecidesValues : {X : Type 0} → (X → X → Bool) → Type 0
DecidesValues {X} eq = (a b : X) → IsTrue (eq a b) ↔ (a ≡ b)

-- if eq decides equality, a value at an index has that index
pub placed :
    {X : Type 0} (eq : X → X → Bool)
    → DecidesValues eq → (xs : List X) (x : X) (i : ℕ) → slice_get xs i ≡ Some x
    → IsIndexOf eq xs x i
placed eq law xs x i e = (x, e, (law x x).1 refl)

-- a value that compares equal to none in the list is not in it
pub new_is_unregistered :
    {X : Type 0} (eq : X → X → Bool)
    → DecidesValues eq → (xs : List X) (x : X) → IsNew eq xs x → IsUnregistered xs x
new_is_unregistered eq law xs x n r = n (r.0, placed eq law xs x r.0 r.1)

-- a value that is not in the list compares equal to none in it
pub unregistered_is_new :
    {X : Type 0} (eq : X → X → Bool)
    → DecidesValues eq → (xs : List X) (x : X) → IsUnregistered xs x → IsNew eq xs x
unregistered_is_new eq law xs x u k = u (k.0, k.1.1 ∙ ap Some (sym ((law x k.1.0).0 k.1.2)))

-- what goes through a list and counts from a number on gives as many elements
pub length_counted :
    {A B : Type 0} (of : ℕ → List A → List B) → ((n : ℕ) → of n [] ≡ [])
    → ((n : ℕ) (x : A) (xs : List A) → (y : B) × (of n (x ∷ xs) ≡ y ∷ of (n + 1) xs))
    → (n : ℕ) (xs : List A) → length (of n xs) ≡ length xs
length_counted of none one n [] = ap length (none n)
length_counted of none one n (x ∷ xs) =
    ap length (one n x xs).1 ∙ ap suc (length_counted of none one (n + 1) xs)

-- there are as many numbered entries as descriptions
pub length_numbered :
    (first : ℕ) (types : List Description)
    → length (numbered_from first types) ≡ length types
length_numbered = length_counted numbered_from (λ n. refl) (λ n ty types. (_, refl))

-- one more description gets the next id, after the others
pub numbered_push :
    (first : ℕ) (types : List Description) (ty : Description)
    → numbered_from first (types ++ ty ∷ [])
    ≡ numbered_from first types ++ record { id = first + length types; ty = ty } ∷ []
numbered_push first [] ty = grind (arith, common_steps)
numbered_push first (t ∷ types) ty =
    let ih = numbered_push (first + 1) types ty in
    let at : (first + 1) + length types ≡ first + suc (length types) = omega arith in
    grind (arith, common_steps, ih, at)

known_later :
    {X : Type 0} (eq : X → X → Bool) (y : X) (xs : List X) (x : X)
    → IsKnown eq xs x → IsKnown eq (y ∷ xs) x
known_later eq y xs x known = (suc known.0, known.1)

new_here :
    {X : Type 0} (eq : X → X → Bool) (y : X) (xs : List X) (x : X)
    → eq x y ≡ false → IsNew eq xs x → IsNew eq (y ∷ xs) x
new_here eq y xs x differs new (zero, (z, is_first, same)) =
    let is_y : y ≡ z = search (rules, is_first) in
    absurd (false≢true (sym differs ∙ ap (eq x) is_y ∙ same))
new_here eq y xs x differs new (suc i, later) = new (i, later)

-- a value equals one of the elements or none
pub known_or_new :
    {X : Type 0} (eq : X → X → Bool) (xs : List X) (x : X)
    → IsKnown eq xs x ⊎ IsNew eq xs x
known_or_new eq [] x = inr (λ known. let at = known.1.1 in absurd (cc))
known_or_new eq (y ∷ xs) x =
    elim (eq x y) as (λ same. eq x y ≡ same → IsKnown eq (y ∷ xs) x ⊎ IsNew eq (y ∷ xs) x) [
      | true ↦ λ same. inl (0, (y, refl, same))
      | false ↦ λ differs. elim (known_or_new eq xs x) as (λ _. IsKnown eq (y ∷ xs) x ⊎ IsNew eq (y ∷ xs) x) [
        | inl known ↦ inl (known_later eq y xs x known)
        | inr new ↦ inr (new_here eq y xs x differs new)
      ]
    ] refl

kept_by_end :
    {X : Type 0} (xs : List X) (x : X) (i : ℕ) (y : X)
    → slice_get xs i ≡ Some y → slice_get (xs ++ x ∷ []) i ≡ Some y
kept_by_end [] x i y at = absurd (cc)
kept_by_end (z ∷ xs) x zero y at = at
kept_by_end (z ∷ xs) x (suc i) y at = kept_by_end xs x i y at

-- a value is one of the elements or none, where an equality decides values
pub registered_or_not : {X : Type 0} (eq : X → X → Bool) → DecidesValues eq → (xs : List X) (x : X)
    → IsRegistered xs x ⊎ IsUnregistered xs x
registered_or_not eq law xs x =
    elim (known_or_new eq xs x) as (λ _. IsRegistered xs x ⊎ IsUnregistered xs x) [
      | inl known ↦ inl (known.0, known.1.1 ∙ ap Some (sym ((law x known.1.0).0 known.1.2)))
      | inr new ↦ inr (new_is_unregistered eq law xs x new)
    ]

-- a builder that takes a value in keeps each element at its index
pub elements_kept : {X E : Type 0} (old new : List X) (value : X) (result : Result ℕ E)
    → IsRegistered old value ⊎ IsUnregistered old value
    → ((id : ℕ) → slice_get old id ≡ Some value → (result ≡ Ok id) × (new ≡ old))
    → (IsUnregistered old value → IfOk result (λ id. (id ≡ length old) × (new ≡ old ++ value ∷ [])))
    → OnErr result (new ≡ old)
    → (id : ℕ) (other : X) → slice_get old id ≡ Some other → slice_get new id ≡ Some other
elements_kept old new value result either if_known if_new on_err id other at =
    elim either as (λ _. slice_get new id ≡ Some other) [
      | inl known ↦ rw ((if_known known.0 known.1).1) at
      | inr fresh ↦
          elim result as (λ r. IfOk r (λ n. (n ≡ length old) × (new ≡ old ++ value ∷ [])) → OnErr r (new ≡ old) → slice_get new id ≡ Some other) [
            | Ok n ↦ λ added same. rw added.1 (kept_by_end old value id other at)
            | Err e ↦ λ added same. rw same at
          ] (if_new fresh) on_err
    ]
