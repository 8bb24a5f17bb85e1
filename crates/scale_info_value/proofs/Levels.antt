-- What comes of a value by a table, whatever that is, level by level. Readings are levels, and so is
-- what else is made of a value part by part.
use Rattle.std.proofs.Common.{◌≡◌, ℕ, zero, suc, ◌-◌, ◌≤◌, Option, Some, None}
use Rattle.std.proofs.Common.{option_map, refl, ap, sym, ◌∙◌, arith}
use Rattle.scale_info_types.specs.Portable.{Text, TypeDef, Description}
use Rattle.scale_info_types.specs.declared.ty.TypeDef.{TypeDef as AnyTypeDef}
use Rattle.scale_info_types.specs.Shapes.{map_definition}
use Rattle.scale_info_table.specs.declared.portable.PortableRegistry.{PortableRegistry}
use Rattle.scale_info_value.specs.Readings.{type_at, by_type}

-- What comes of a value, a `V`, and of a compact integer, a `C`: where no level is left, at an id
-- that is no index of the table, and by the definition of the type. In the definition of a value
-- each reference stands for an `X`. At an id, `part` makes one of what comes of a value one deeper
-- than the value that refers to it, of a value two deeper, and of a compact integer, which is no
-- deeper.
pub record Levels (V C X : Type 0) : Type 0 where
  pub deep : V
  pub none : V
  pub by : AnyTypeDef (Unit {0}) X Text → V
  pub compact_deep : C
  pub compact_none : C
  pub compact_by : AnyTypeDef (Unit {0}) C Text → C
  pub part : PortableRegistry → ℕ → V → V → C → X
  pub value : ℕ → PortableRegistry → ℕ → V
  pub compact : ℕ → PortableRegistry → ℕ → C
  pub compact_end : (table : PortableRegistry) (id : ℕ) → compact 0 table id ≡ compact_deep
  pub compact_level :
      (left : ℕ) (table : PortableRegistry) (id : ℕ)
      → compact (suc left) table id
      ≡ by_type compact_none compact_by (compact left table) (type_at table id)
  pub value_end : (table : PortableRegistry) (id : ℕ) → value 0 table id ≡ deep
  pub value_last :
      (table : PortableRegistry) (id : ℕ)
      → value 1 table id
      ≡ by_type none by (λ r. part table r deep deep (compact 1 table r)) (type_at table id)
  pub value_level :
      (left : ℕ) (table : PortableRegistry) (id : ℕ)
      → value (suc (suc left)) table id
      ≡ by_type none by
      (λ r. part table r (value (suc left) table r) (value left table r)
      (compact (suc (suc left)) table r))
      (type_at table id)

-- two functions that are equal to others give what these give
pub both_at :
    {A B C : Type 0} {f g : A → B} {h k : A → C} → (f ≡ g) × (h ≡ k) → (x : A) → (f x ≡ g x) × (h x ≡ k x)
both_at e x = (λ i. e.0 i x, λ i. e.1 i x)

-- a description that has no definition is none
no_description : (o : Option Description) → option_map (λ t. t.type_def) o ≡ None → o ≡ None
no_description None e = refl
no_description (Some t) e = cc

-- what comes of a description, by its definition
by_definition :
    {D X : Type 0} (none : D) (by : AnyTypeDef (Unit {0}) X Text → D) (part : ℕ → X) (o : Option Description)
    (d : TypeDef) → option_map (λ t. t.type_def) o ≡ Some d
    → by_type none by part o ≡ by (map_definition {G = Unit {0}} (λ r. part r.id) (λ t. t) d)
by_definition none by part None d e = cc
by_definition none by part (Some t) d e =
    let p : t.type_def ≡ d = cc in
    ap (λ d. by (map_definition {G = Unit {0}} (λ r. part r.id) (λ t. t) d)) p

module _ {V C X : Type 0} (levels : Levels V C X) where
  -- what an id stands for, where `left` levels are left for the value itself
  abbrev part_at : ℕ → PortableRegistry → ℕ → X
  part_at left table r =
      levels.part table r (levels.value (left - 1) table r) (levels.value (left - 2) table r)
      (levels.compact left table r)

  -- a value by a definition
  abbrev pub defined_at : ℕ → PortableRegistry → TypeDef → V
  defined_at left table d =
      levels.by (map_definition {G = Unit {0}} (λ r. part_at left table r.id) (λ t. t) d)

  -- a compact integer by a definition
  abbrev pub compact_defined_at : ℕ → PortableRegistry → TypeDef → C
  compact_defined_at left table d =
      levels.compact_by
      (map_definition {G = Unit {0}} (λ r. levels.compact (left - 1) table r.id) (λ t. t) d)

  -- where no level is left, a value is too deep, and so is a compact integer
  pub levels_end :
      (left : ℕ) (table : PortableRegistry) (id : ℕ) → left ≡ 0
      → (levels.value left table id ≡ levels.deep) × (levels.compact left table id ≡ levels.compact_deep)
  levels_end zero table id e = (levels.value_end table id, levels.compact_end table id)
  levels_end (suc left) table id e = absurd (omega arith)

  -- else a compact integer goes by the description of its type
  compact_by_level :
      (left : ℕ) (table : PortableRegistry) (id : ℕ) → 1 ≤ left
      → levels.compact left table id
      ≡ by_type levels.compact_none levels.compact_by (levels.compact (left - 1) table) (type_at table id)
  compact_by_level zero table id h = absurd (omega arith)
  compact_by_level (suc left) table id h =
      let e : left ≡ suc left - 1 = omega arith in
      levels.compact_level left table id
      ∙ ap (λ n. by_type levels.compact_none levels.compact_by (levels.compact n table) (type_at table id)) e

  -- else a value goes by the description of its type
  value_by_level :
      (left : ℕ) (table : PortableRegistry) (id : ℕ) → 1 ≤ left
      → levels.value left table id ≡ by_type levels.none levels.by (part_at left table) (type_at table id)
  value_by_level zero table id h = absurd (omega arith)
  value_by_level (suc zero) table id h =
      levels.value_last table id
      ∙ (λ i. by_type levels.none levels.by
      (λ r. levels.part table r (sym (levels.value_end table r) i) (sym (levels.value_end table r) i)
      (levels.compact 1 table r)) (type_at table id))
  value_by_level (suc (suc left)) table id h =
      let e : suc left ≡ suc (suc left) - 1 = omega arith in
      let f : left ≡ suc (suc left) - 2 = omega arith in
      levels.value_level left table id
      ∙ (λ i. by_type levels.none levels.by
      (λ r. levels.part table r (levels.value (e i) table r) (levels.value (f i) table r)
      (levels.compact (suc (suc left)) table r)) (type_at table id))

  -- an id that has no definition has no value, and no compact integer
  pub levels_missing :
      (left : ℕ) (table : PortableRegistry) (id : ℕ)
      → 1 ≤ left → option_map (λ t. t.type_def) (type_at table id) ≡ None
      → (levels.value left table id ≡ levels.none) × (levels.compact left table id ≡ levels.compact_none)
  levels_missing left table id h e =
      let none = no_description (type_at table id) e in (
        value_by_level left table id h ∙ ap (λ o. by_type levels.none levels.by (part_at left table) o) none,
        compact_by_level left table id h
            ∙ ap (λ o. by_type levels.compact_none levels.compact_by (levels.compact (left - 1) table) o) none,
      )

  -- a value of a type goes by the type's definition, and so does a compact integer
  pub levels_known :
      (left : ℕ) (table : PortableRegistry) (id : ℕ) (d : TypeDef)
      → 1 ≤ left → option_map (λ t. t.type_def) (type_at table id) ≡ Some d
      → (levels.value left table id ≡ defined_at left table d)
      × (levels.compact left table id ≡ compact_defined_at left table d)
  levels_known left table id d h e = (
    value_by_level left table id h
        ∙ by_definition levels.none levels.by (part_at left table) (type_at table id) d e,
    compact_by_level left table id h
        ∙ by_definition levels.compact_none levels.compact_by (levels.compact (left - 1) table) (type_at table id) d e,
  )
