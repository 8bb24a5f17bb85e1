-- What an identity says, whatever memory holds it: a tree of heads, numbers and arguments.
use Rattle.std.specs.Prelude.{ℕ, List, [], ◌∷◌, map}
use Rattle.scale_info_identities.specs.declared.type_id.TypeId.{TypeId}
use Rattle.scale_info_identities.specs.declared.type_id.TypeId.TheOpen.{TypeId-F}
use Rattle.scale_info_identities.specs.declared.type_id.TypeId.TheFolds.{fold-TypeId}

-- a term: the bytes of its head, its numbers and its arguments
mutual
  pub data Term : Type 0 where
    term : List ℕ → List ℕ → Terms → Term

  pub data Terms : Type 0 where
    no_terms : Terms
    more_terms : Term → Terms → Terms

-- a list of terms as the arguments of a term
abbrev pub terms : List Term → Terms
terms [] = no_terms
terms (t ∷ ts) = more_terms t (terms ts)

-- one step from an identity to its term: the arguments are terms already
abbrev pub term_step : TypeId-F Term → Term
term_step f = term f.head.now f.nums (terms f.args)

-- the term of an identity
abbrev pub term_of : TypeId → Term
term_of = fold-TypeId Term term_step

-- the terms of a list of identities
abbrev pub terms_of : List TypeId → Terms
terms_of ids = terms (map term_of ids)
