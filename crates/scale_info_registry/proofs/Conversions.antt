-- Values with ids in place of their types.
use Rattle.std.proofs.Common.{◌≡◌, ℕ, List, ap, ◌∙◌}
use Rattle.scale_info_types.specs.declared.meta_type.MetaType.{MetaType}

-- what is made of a value with ids has the same ids
pub ids_into :
    {A B : Type 0} {P : List ℕ → Type 0} {Q : List ℕ → (MetaType → ℕ) → Type 0}
    {of : (MetaType → ℕ) → A} {a : A} {b : B} (part : A → B)
    → b ≡ part a
    → (ids : List ℕ) × P ids × ((id_of : MetaType → ℕ) × (a ≡ of id_of) × Q ids id_of)
    → (ids : List ℕ) × P ids × ((id_of : MetaType → ℕ) × (b ≡ part (of id_of)) × Q ids id_of)
ids_into part made h = (h.0, h.1, (h.2.0, made ∙ ap part h.2.1, h.2.2))
