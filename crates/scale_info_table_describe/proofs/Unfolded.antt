-- Names, one type deep.
use Rattle.std.proofs.Common.{◌≡◌, ◌≢◌, ◌-◌, ◌∙◌, ℕ, zero, suc, Option, ap, sym, refl, arith}
use Rattle.std.specs.Prelude.{codes}
use Rattle.scale_info_table.specs.declared.portable.PortableRegistry.{PortableRegistry}
use Rattle.scale_info_types.specs.Portable.{Description}
use Rattle.scale_info_table_describe.specs.TypeNames.{name_by, name_within, type_at}

-- a type that lies too deep
pub too_deep :
    (left : ℕ) (table : PortableRegistry) (id : ℕ)
    → left ≡ 0 → name_within left table id ≡ codes ".."
unfolding name_within
too_deep left table id none = ap (λ n. name_within n table id) none

-- an id, by what the table has there
pub name_is :
    (left : ℕ) (table : PortableRegistry) (id : ℕ) (found : Option Description)
    → left ≢ 0
    → found ≡ type_at table id
    → name_within left table id ≡ name_by (name_within (left - 1) table) id found
unfolding name_within
name_is zero table id found some is = absurd (some refl)
name_is (suc left) table id found some is =
    let same : left ≡ suc left - 1 = omega arith in
    ap (name_by (name_within left table) id) (sym is)
    ∙ ap (λ k. name_by (name_within k table) id found) same
