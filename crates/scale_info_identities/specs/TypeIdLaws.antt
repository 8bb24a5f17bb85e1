-- Equality of identities is equality of their terms.
use Rattle.std.proofs.Common.{◌≡◌, ◌↔◌, ◌&&◌, ℕ, Bool, IsTrue, List, [], ◌∷◌, map, rules, arith}
use Rattle.std.proofs.Common.{refl, subst}
use Rattle.std.proofs.lemmas.Grind.{common_steps}
use lib.Dec.{eqb}
use lib.Pointwise.{pointwise}
use Rattle.scale_info_identities.specs.TypeIds.{Term, Terms, term, term_step, term_of, terms_of}
use Rattle.scale_info_identities.specs.declared.type_id.TypeId.{TypeId}
use Rattle.scale_info_identities.specs.declared.type_id.TypeId.TheOpen.{TypeId-F}
use Rattle.scale_info_identities.specs.declared.type_id.TypeId.TheViews.{out-TypeId, roll-TypeId}
use Rattle.scale_info_identities.specs.declared.type_id.TypeId.TheViews.{out-roll-TypeId}
use Rattle.scale_info_identities.specs.declared.type_id.TypeId.TheFolds.{ind-TypeId}
use Rattle.scale_info_identities.specs.declared.type_id.TypeId.TheFolds.{fold-roll-TypeId}
use Rattle.scale_info_identities.specs.declared.type_id.TypeId.TheFolds.{fold_out-TypeId}
use Rattle.scale_info_identities.specs.contracts.type_id.TypeIdPartialEq.TheImpl.{ghosts}
use Rattle.scale_info_identities.specs.contracts.type_id.TypeIdPartialEq.TheImpl.Laws.{is}

-- the term of an identity that is made from its parts
pub term_of_roll :
    (x : TypeId-F TypeId) → term_of (roll-TypeId x) ≡ term x.head.now x.nums (terms_of x.args)
term_of_roll = fold-roll-TypeId Term term_step

-- the term of an identity, by its parts
pub term_of_out :
    (t : TypeId)
    → term_of t ≡ term (out-TypeId t).head.now (out-TypeId t).nums (terms_of (out-TypeId t).args)
term_of_out = fold_out-TypeId Term term_step

abbrev type_eq : TypeId → TypeId → Bool
type_eq a b = ghosts.eq a b

abbrev SameAs : TypeId → Type 0
SameAs t = (s : TypeId) → IsTrue (type_eq t s) ↔ (term_of t ≡ term_of s)

terms_same :
    (es : List ((t : TypeId) × SameAs t)) (ys : List TypeId)
    → IsTrue (pointwise type_eq (map (λ e. e.0) es) ys)
    ↔ (terms_of (map (λ e. e.0) es) ≡ terms_of ys)
terms_same [] [] = ((λ _. refl), (λ _. refl))
terms_same [] (y ∷ ys) = ((λ h. cc), (λ h. cc))
terms_same (e ∷ es) [] = ((λ h. cc), (λ h. cc))
terms_same (e ∷ es) (y ∷ ys) =
    let head = e.1 y in
    let rest = terms_same es ys in
    ((λ h. grind (common_steps, rules, head, rest)), (λ h. grind (common_steps, rules, head, rest)))

numbers_same : (xs ys : List ℕ) → IsTrue (pointwise eqb xs ys) ↔ (xs ≡ ys)
numbers_same [] [] = ((λ _. refl), (λ _. refl))
numbers_same [] (y ∷ ys) = ((λ h. cc), (λ h. cc))
numbers_same (x ∷ xs) [] = ((λ h. cc), (λ h. cc))
numbers_same (x ∷ xs) (y ∷ ys) =
    let rest = numbers_same xs ys in (
      (λ h. grind (arith, common_steps, rules, rest)),
      (λ h. grind (arith, common_steps, rules, rest)),
    )

parts_same :
    (p q r : Bool) (h h' n n' : List ℕ) (a a' : Terms) → (IsTrue p ↔ (h ≡ h'))
    → (IsTrue q ↔ (n ≡ n')) → (IsTrue r ↔ (a ≡ a'))
    → IsTrue (p && (q && r)) ↔ (term h n a ≡ term h' n' a')
parts_same p q r h h' n n' a a' f g k =
    ((λ t. grind (common_steps, rules)), (λ t. grind (common_steps, rules)))

same_as : (t : TypeId) → SameAs t
same_as =
    ind-TypeId SameAs (λ x y joined s.
    let u = is (roll-TypeId x) s in
    let o = out-roll-TypeId x in
    let args =
    subst
    (λ z.
    IsTrue (pointwise type_eq z.args (out-TypeId s).args)
    ↔ (terms_of z.args ≡ terms_of (out-TypeId s).args))
    joined
    (terms_same y.args (out-TypeId s).args)
    in
    rw (u, o, term_of_roll x, term_of_out s)
    (parts_same _ _ _ _ _ _ _ _ _ (numbers_same x.head.now (out-TypeId s).head.now)
    (numbers_same x.nums (out-TypeId s).nums) args))

-- two identities are equal exactly where their terms are
pub same_type_ids : (a b : TypeId) → IsTrue (type_eq a b) ↔ (term_of a ≡ term_of b)
same_type_ids a b = same_as a b
