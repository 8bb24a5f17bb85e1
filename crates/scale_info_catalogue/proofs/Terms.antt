-- Known identities, by their terms.
use Rattle.std.proofs.Common.{◌≡◌, ◌↔◌, ℕ, zero, suc, List, [], ◌∷◌, Some, slice_get, length}
use Rattle.std.proofs.Common.{Contains}
use Rattle.std.proofs.Common.{refl, sym, ◌∙◌, ap, arith}
use Rattle.std.proofs.lemmas.Option.{same_Some, none-some}
use Rattle.scale_info_interner.specs.Interned.{AreDistinctBy, IsIndexOf, IsKnown}
use Rattle.scale_info_identities.specs.TypeIdLaws.{same_type_ids}
use Rattle.scale_info_identities.specs.TypeIds.{Term, term_of}
use Rattle.scale_info_identities.specs.contracts.type_id.TypeIdPartialEq.TheImpl.{ghosts as equals}
use Rattle.scale_info_identities.specs.declared.type_id.TypeId.{TypeId}
use Rattle.scale_info_numberings.specs.Numberings.{AreDistinct}
use Rattle.scale_info_numberings.proofs.Places.{place_of, contains_at}
use Rattle.scale_info_catalogue.specs.Discoveries.{nodes_of}

-- known, by term
pub known_by_term :
    (ids : List TypeId) (id : TypeId) (i : ℕ)
    → IsIndexOf equals.eq ids id i ↔ (slice_get (nodes_of ids) i ≡ Some (term_of id))
known_by_term [] id i = ((λ h. absurd (none-some h.0 h.1)), (λ h. absurd (none-some (term_of id) h)))
known_by_term (x ∷ ids) id zero = (
  (λ h. ap Some (ap term_of (same_Some x h.0 h.1) ∙ sym ((same_type_ids id h.0).0 h.2))),
  (λ h. (x, refl, (same_type_ids id x).1 (sym (same_Some (term_of x) (term_of id) h)))),
)
known_by_term (x ∷ ids) id (suc i) = known_by_term ids id i

-- an identity is known exactly if its term is one of the known identities' terms
pub known : (ids : List TypeId) (id : TypeId) → IsKnown equals.eq ids id ↔ Contains (nodes_of ids) (term_of id)
known ids id = (
  (λ h. contains_at (nodes_of ids) (term_of id) h.0 ((known_by_term ids id h.0).0 h.1)),
  (λ h. let p = place_of (nodes_of ids) (term_of id) h in (p.0, (known_by_term ids id p.0).1 p.1)),
)

-- the term of an identity has the index that the identity has
pub at_node :
    (ids : List TypeId) (i : ℕ) (id : TypeId) → slice_get ids i ≡ Some id
    → slice_get (nodes_of ids) i ≡ Some (term_of id)
at_node [] i id e = absurd (none-some id e)
at_node (x ∷ ids) zero id e = ap Some (ap term_of (same_Some x id e))
at_node (x ∷ ids) (suc i) id e = at_node ids i id e

-- each term is that of the identity at its index
pub from_node :
    (ids : List TypeId) (i : ℕ) (n : Term) → slice_get (nodes_of ids) i ≡ Some n
    → (id : TypeId) × (slice_get ids i ≡ Some id) × (term_of id ≡ n)
from_node [] i n e = absurd (none-some n e)
from_node (x ∷ ids) zero n e = (x, refl, same_Some (term_of x) n e)
from_node (x ∷ ids) (suc i) n e = from_node ids i n e

-- there are as many terms as identities
pub length_nodes : (ids : List TypeId) → length (nodes_of ids) ≡ length ids
length_nodes [] = refl
length_nodes (x ∷ ids) = let r = length_nodes ids in omega arith

-- distinct identities have distinct terms
pub distinct_nodes : (ids : List TypeId) → AreDistinctBy equals.eq ids → AreDistinct (nodes_of ids)
distinct_nodes ids distinct i j n e h =
    let a = from_node ids i n e in
    let b = from_node ids j n h in
    distinct i j a.0 b.0 a.1 b.1 ((same_type_ids a.0 b.0).1 (a.2 ∙ sym b.2))
