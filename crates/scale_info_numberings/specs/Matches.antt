-- Matches: two systems are alike from their roots on (an isomorphism of what is reached).
use Rattle.std.specs.Prelude.{◌≡◌, List, Some, None, Contains, ◌⊎◌}
use Rattle.std.specs.List.{AllZip}
use Rattle.scale_info_numberings.specs.Systems.{Entry, System, IsReached}

-- the list of pairs takes n to p
abbrev pub Pairs : {N P : Type 0} → List (N × P) → N → P → Type 0
Pairs pairs n p = Contains pairs (n, p)

-- both names lie outside their systems
abbrev pub AreOutside : {Sh N P : Type 0} → System Sh N → System Sh P → N → P → Type 0
AreOutside S U n p = (S n ≡ None) × (U p ≡ None)

-- both nodes are in their systems, with equal shapes and references that are paired place by place
abbrev pub AreAlike : {Sh N P : Type 0} → System Sh N → System Sh P → List (N × P) → N → P → Type 0
AreAlike {Sh} {N} {P} S U pairs n p =
    (d : Entry Sh N) × (e : Entry Sh P)
    × (S n ≡ Some d) × (U p ≡ Some e)
    × (d.shape ≡ e.shape) × AllZip (λ r q. Pairs pairs r q) d.refs e.refs

-- The pairs are a one to one map between what is reached from the roots in S and what is reached
-- from the tops in U. It keeps shapes and which names lie outside, takes the references of each
-- node to those of its partner place by place, and takes the roots to the tops place by place. The
-- map is given as the list of its pairs: from finitely many roots of a finite system only finitely
-- many names are reached, so each such map has its list.
pub record IsMatch {Sh N P : Type 0} (S : System Sh N) (roots : List N) (U : System Sh P)
    (tops : List P) (pairs : List (N × P)) : Type 0 where
  pub reached : (n : N) (p : P) → Pairs pairs n p → IsReached S roots n × IsReached U tops p
  pub all_left : (n : N) → IsReached S roots n → (p : P) × Pairs pairs n p
  pub all_right : (p : P) → IsReached U tops p → (n : N) × Pairs pairs n p
  pub one_right : (n : N) (p q : P) → Pairs pairs n p → Pairs pairs n q → p ≡ q
  pub one_left : (n m : N) (p : P) → Pairs pairs n p → Pairs pairs m p → n ≡ m
  pub alike : (n : N) (p : P) → Pairs pairs n p → AreOutside S U n p ⊎ AreAlike S U pairs n p
  pub in_order : AllZip (λ n p. Pairs pairs n p) roots tops
