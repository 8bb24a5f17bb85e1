-- The type that stands for `PhantomData<T>` of every `T`, which descriptions leave out.
use Rattle.std.specs.Prelude.{Bool, true, false, ◌&&◌, List, [], ◌∷◌, ◌++◌, codes, not}
use Rattle.std.specs.Prelude.{if◌then◌else◌}
use Rattle.std.specs.List.{filter}
use Rattle.std.specs.Str.{bytes_eq}
use Rattle.scale_info_identities.specs.TypeIds.{Term, Terms, term, no_terms, more_terms}
use Rattle.scale_info_type_ids.specs.StandardTerms.{phantom_data_term, tuple_term}
use Rattle.scale_info_types.specs.declared.ty.fields.Field.{Field}
use lib.Dec.{eqb}
use lib.Pointwise.{pointwise}

-- whether two terms are equal: head, numbers and arguments
abbrev mutual
  pub term_eq : Term → Term → Bool
  term_eq (term head nums args) (term head' nums' args') =
      bytes_eq head head' && (pointwise eqb nums nums' && terms_eq args args')

  pub terms_eq : Terms → Terms → Bool
  terms_eq no_terms no_terms = true
  terms_eq no_terms (more_terms t ts) = false
  terms_eq (more_terms t ts) no_terms = false
  terms_eq (more_terms t ts) (more_terms t' ts') = term_eq t t' && terms_eq ts ts'

-- the own term of `()`
abbrev pub unit_term : Term
unit_term = term (codes "tuple") [] no_terms

-- the own term of `PhantomData<()>`
abbrev pub phantom_term : Term
phantom_term = term (codes "PhantomData") [] (more_terms unit_term no_terms)

-- whether a term is that one
abbrev pub is_phantom : Term → Bool
is_phantom t = term_eq t phantom_term

-- the other terms, in order
abbrev pub without_phantoms : List Term → List Term
without_phantoms terms = filter (λ t. not (is_phantom t)) terms

-- the fields with one more at the end, unless its type is that one; `identity` gives the term of a
-- type
abbrev pub with_field :
    {F T S : Type 0} → (T → Term) → List (Field F T S) → Field F T S → List (Field F T S)
with_field identity fields field =
    if is_phantom (identity field.ty) then fields else fields ++ field ∷ []
