-- Which terms are left out of descriptions, decided.
use Rattle.std.proofs.Common.{◌≡◌, ◌↔◌, ◌&&◌, ℕ, Bool, IsTrue, List, [], ◌∷◌, map, rules}
use Rattle.std.proofs.Common.{refl}
use Rattle.std.proofs.lemmas.Grind.{common_steps}
use Rattle.std.specs.List.{filter}
use Rattle.std.proofs.lemmas.Slice.Eq.{bytes_eq-Decides}
use Rattle.scale_info_identities.specs.TypeIds.{Term, Terms, term, no_terms, more_terms, terms_of}
use Rattle.scale_info_identities.specs.declared.type_id.TypeId.{TypeId}
use Rattle.scale_info_types.specs.Phantoms.{term_eq, terms_eq}

-- a term is compared part by part
pub parts_eq_is :
    (p q r : Bool) (h h' n n' : List ℕ) (a a' : Terms) → (IsTrue p ↔ (h ≡ h'))
    → (IsTrue q ↔ (n ≡ n')) → (IsTrue r ↔ (a ≡ a'))
    → IsTrue (p && (q && r)) ↔ (term h n a ≡ term h' n' a')
parts_eq_is p q r h h' n n' a a' f g k =
    ((λ t. grind (common_steps, rules)), (λ t. grind (common_steps, rules)))

-- the test of two terms decides whether they are equal
mutual
  pub term_eq_is : (s t : Term) → IsTrue (term_eq s t) ↔ (s ≡ t)
  term_eq_is (term h n a) (term h' n' a') =
      parts_eq_is _ _ _ h h' n n' a a' (bytes_eq-Decides h h') (bytes_eq-Decides n n') (terms_eq_is a a')

  pub terms_eq_is : (a b : Terms) → IsTrue (terms_eq a b) ↔ (a ≡ b)
  terms_eq_is no_terms no_terms = ((λ _. refl), (λ _. refl))
  terms_eq_is no_terms (more_terms t ts) = ((λ h. cc), (λ h. cc))
  terms_eq_is (more_terms t ts) no_terms = ((λ h. cc), (λ h. cc))
  terms_eq_is (more_terms s ss) (more_terms t ts) =
      let first = term_eq_is s t in
      let rest = terms_eq_is ss ts in
      ((λ h. grind (common_steps, rules, first, rest)), (λ h. grind (common_steps, rules, first, rest)))

-- reading what a test by that reading keeps is keeping by the test what was read
pub map-filter :
    {X Y : Type 0} (read : X → Y) (test : Y → Bool) (xs : List X)
    → map read (filter (λ x. test (read x)) xs) ≡ filter test (map read xs)
map-filter read test [] = refl
map-filter read test (x ∷ xs) =
    let rest = map-filter read test xs in grind (common_steps, rules, rest)

-- an identity whose term has no arguments has none
pub no_arguments : (args : List TypeId) → terms_of args ≡ no_terms → args ≡ []
no_arguments [] e = refl
no_arguments (id ∷ ids) e = cc
