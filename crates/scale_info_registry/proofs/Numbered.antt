-- The place of an identity.
use Rattle.std.proofs.Common.{◌≡◌, ℕ, zero, suc, Bool, true, false, cond, List, [], ◌∷◌, length}
use Rattle.std.proofs.Common.{refl, ap, sym, ◌∙◌, subst, Option, Some, None, IfSome, IsSome, ◌↔◌}
use Rattle.std.specs.Option.{unwrap_or}
use Rattle.std.proofs.lemmas.Bool.{false≢true}
use Rattle.std.proofs.lemmas.Option.{same_Some, none-some}
use Rattle.scale_info_interner.specs.Interned.{IsIndexOf, IsKnown}
use Rattle.scale_info_identities.specs.declared.type_id.TypeId.{TypeId}
use Rattle.scale_info_identities.specs.contracts.type_id.TypeIdPartialEq.TheImpl.{ghosts as equals}
use Rattle.scale_info_identities.specs.TypeIds.{term_of}
use Rattle.scale_info_identities.specs.TypeIdLaws.{same_type_ids}
use Rattle.scale_info_interner.specs.Interned as interned
use Rattle.scale_info_registry.specs.Registrations.{index_in}
use Rattle.scale_info_catalogue.proofs.Terms.{at_node, known_by_term}

-- by cases on the first identity
indexed :
    (x : TypeId) (ids : List TypeId) (id : TypeId) (b : Bool) → equals.eq id x ≡ b → (k : ℕ) → cond b 0 (suc (index_in equals.eq ids id)) ≡ k
    → (IsKnown equals.eq ids id → IsIndexOf equals.eq ids id (index_in equals.eq ids id))
    → IsKnown equals.eq (x ∷ ids) id → IsIndexOf equals.eq (x ∷ ids) id k
indexed x ids id true e k h f g = subst (λ n. IsIndexOf equals.eq (x ∷ ids) id n) h (x, refl, e)
indexed x ids id false e k h f (zero, (y, p, q)) = absurd (false≢true (sym e ∙ (ap (λ z. equals.eq id z) (same_Some x y p) ∙ q)))
indexed x ids id false e k h f (suc i, (y, p, q)) = subst (λ n. IsIndexOf equals.eq (x ∷ ids) id n) h (f (i, (y, p, q)))

-- a known identity stands at its place
pub index_is :
    (ids : List TypeId) (id : TypeId) → IsKnown equals.eq ids id
    → IsIndexOf equals.eq ids id (index_in equals.eq ids id)
index_is [] id k = absurd (none-some k.1.0 k.1.1)
index_is (x ∷ ids) id k = indexed x ids id (equals.eq id x) refl _ refl (index_is ids id) k

missed :
    (x : TypeId) (ids : List TypeId) (id : TypeId) (b : Bool) → equals.eq id x ≡ b
    → (¬ (IsKnown equals.eq ids id) → index_in equals.eq ids id ≡ length ids)
    → ¬ (IsKnown equals.eq (x ∷ ids) id) → cond b 0 (suc (index_in equals.eq ids id)) ≡ length (x ∷ ids)
missed x ids id true e f u = absurd (u (0, (x, refl, e)))
missed x ids id false e f u = ap suc (f (λ k. u (suc k.0, k.1)))

-- one that is not known has the next place
pub index_past :
    (ids : List TypeId) (id : TypeId) → ¬ (IsKnown equals.eq ids id) → index_in equals.eq ids id ≡ length ids
index_past [] id u = refl
index_past (x ∷ ids) id u = missed x ids id (equals.eq id x) refl (index_past ids id) u

-- its number is that place
pub one_number :
    (ids : List TypeId) (id : TypeId) (i : ℕ) → interned.AreDistinctBy equals.eq ids → IsIndexOf equals.eq ids id i
    → i ≡ index_in equals.eq ids id
one_number ids id i distinct p =
    let q = index_is ids id (i, p) in
    let same : term_of p.0 ≡ term_of q.0 =
    same_Some (term_of p.0) (term_of q.0) (sym (at_node ids i p.0 p.1) ∙ ((known_by_term ids id i).0 p ∙ (sym ((known_by_term ids id (index_in equals.eq ids id)).0 q) ∙ at_node ids _ q.0 q.1))) in
    distinct i (index_in equals.eq ids id) p.0 q.0 p.1 q.1 ((same_type_ids p.0 q.0).1 same)

-- the number that an identity has, or else the next one, is its place
pub number_or_next :
    (ids : List TypeId) (id : TypeId) (found : Option ℕ) (next : ℕ) → interned.AreDistinctBy equals.eq ids
    → IfSome found (IsIndexOf equals.eq ids id) → IsSome found ↔ IsKnown equals.eq ids id
    → next ≡ length ids → unwrap_or found next ≡ index_in equals.eq ids id
number_or_next ids id (Some i) next distinct is some e = one_number ids id i distinct is
number_or_next ids id None next distinct is some e = e ∙ sym (index_past ids id (λ k. false≢true (some.1 k)))
