-- The variants of an option.
use Rattle.std.proofs.Common.{◌≡◌, ℕ, List, [], ◌∷◌, Option, Some, None, option_map, option_and_then, ap, ◌∙◌}
use Rattle.std.specs.Prelude.{codes}
use Rattle.scale_info_types.specs.Portable.{Text}
use Rattle.scale_info_value.specs.declared.value.Value.{Value}
use Rattle.scale_info_value.specs.declared.value.Value.TheVariants as Values
use Rattle.scale_info_value.specs.declared.value.Value.TheVariants.{outs-Variant}
use Rattle.scale_info_value_borrowed.specs.ValueParts.{fields_at, variant_at}
use Rattle.scale_info_value_typed.specs.Meanings.{held_by, option_in, if_held, optional}

-- what a variant holds
pub held_in :
    (name : Text) (index : ℕ) (fields : List (Option Text × Value))
    → option_in (Values.Variant name index fields) ≡ held_by name fields
held_in name index fields =
    let outs = outs-Variant name index fields in
    λ i. option_and_then (λ own. held_by own (fields_at (outs i))) (variant_at (outs i))

-- the variant `None` is an option that holds none
pub is_none :
    {A : Type 0} (meant : Value → Option A) (name : Text) (index : ℕ)
    → name ≡ codes "None" → optional meant (Values.Variant name index []) ≡ Some None
is_none meant name index e =
    ap (λ o. option_and_then (if_held meant) o) (held_in name index [] ∙ ap (λ own. held_by own []) e)

-- the variant `Some` is one that holds its field
pub is_some :
    {A : Type 0} (meant : Value → Option A) (name : Text) (index : ℕ) (field : Option Text) (value : Value) (x : A)
    → name ≡ codes "Some" → meant value ≡ Some x
    → optional meant (Values.Variant name index ((field, value) ∷ [])) ≡ Some (Some x)
is_some meant name index field value x e h =
    ap (λ o. option_and_then (if_held meant) o)
    (held_in name index ((field, value) ∷ []) ∙ ap (λ own. held_by own ((field, value) ∷ [])) e)
    ∙ ap (λ o. option_map Some o) h
