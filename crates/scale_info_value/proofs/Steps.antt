-- One level of a reading.
use Rattle.std.proofs.Common.{◌≡◌, ℕ, ◌≤◌, ◌==◌, List, [], ◌∷◌, Option, Some, None}
use Rattle.std.proofs.Common.{map, find, replicate}
use Rattle.std.proofs.Common.{cond, Bool, true, false, option_map, refl, ap, sym, ◌∙◌}
use Rattle.scale_info_types.specs.Portable.{Id, Field, Variant, TypeDef, TypeDefComposite}
use Rattle.scale_info_types.specs.Shapes.{map_variant}
use Rattle.scale_info_types.specs.declared.ty.TypeDef.TheVariants as def
use Rattle.scale_info_table.specs.declared.portable.PortableRegistry.{PortableRegistry}
use Rattle.scale_info_value.specs.declared.value.Value.{Value}
use Rattle.scale_info_value.specs.declared.value.Value.TheVariants as Values
use Rattle.scale_info_value.specs.Outcomes.{Decoder, decoded, failed, too_deep, no_such_type, malformed}
use Rattle.scale_info_value.specs.Outcomes.{and_then, outcome_map, in_turn}
use Rattle.scale_info_value.specs.IntegerDecoders.{byte}
use Rattle.scale_info_value.specs.ValueDefinitions.{Part, fields_of, primitive, value_by, compact_by}
use Rattle.scale_info_primitives.specs.declared.primitive.TypeDefPrimitive.{TypeDefPrimitive}
use Rattle.scale_info_value.specs.Readings.{type_at, missing, value_within, compact_within}
use Rattle.scale_info_value.specs.Readings.{definition_within, compact_definition_within}
use Rattle.scale_info_value.specs.Readings.{fields_within, part_within, variant_within}
use Rattle.scale_info_value.proofs.Levels.{Levels, both_at, levels_end, levels_missing, levels_known}

-- readings are levels
unfoldable pub readings : Levels (Decoder Value) (Decoder ℕ) Part
unfolding value_within compact_within
readings = record {
  deep = λ input. failed too_deep;
  none = missing;
  by = value_by;
  compact_deep = λ input. failed too_deep;
  compact_none = missing;
  compact_by = compact_by;
  part = λ table r value inner compact. record { value = value; inner = inner; compact = compact };
  value = value_within;
  compact = compact_within;
  compact_end = λ table id. refl;
  compact_level = λ left table id. refl;
  value_end = λ table id. refl;
  value_last = λ table id. refl;
  value_level = λ left table id. refl;
}

-- where no level is left, a value is too deep, and so is a compact integer
pub nothing_left :
    (left : ℕ) (table : PortableRegistry) (id : ℕ) (input : List ℕ) → left ≡ 0
    → (value_within left table id input ≡ failed too_deep) × (compact_within left table id input ≡ failed too_deep)
unfolding readings value_within compact_within
nothing_left left table id input e = both_at (levels_end readings left table id e) input

-- an id that has no definition has no value, and no compact integer
pub no_type :
    (left : ℕ) (table : PortableRegistry) (id : ℕ) (input : List ℕ)
    → 1 ≤ left → option_map (λ t. t.type_def) (type_at table id) ≡ None
    → (value_within left table id input ≡ failed no_such_type)
    × (compact_within left table id input ≡ failed no_such_type)
unfolding readings value_within compact_within
no_type left table id input h e = both_at (levels_missing readings left table id h e) input

-- a value of a type goes by the type's definition, and so does a compact integer
pub type_known :
    (left : ℕ) (table : PortableRegistry) (id : ℕ) (input : List ℕ) (d : TypeDef)
    → 1 ≤ left → option_map (λ t. t.type_def) (type_at table id) ≡ Some d
    → (value_within left table id input ≡ definition_within left table d input)
    × (compact_within left table id input ≡ compact_definition_within left table d input)
unfolding readings value_within compact_within
type_known left table id input d h e = both_at (levels_known readings left table id d h e) input

-- the first variant with an index stays the first where references are read
first_variant :
    (f : Id → Part) (i : ℕ) (vs : List Variant)
    → find (λ v. v.index == i) (map (map_variant {G = Unit {0}} f (λ t. t)) vs)
    ≡ option_map (map_variant {G = Unit {0}} f (λ t. t)) (find (λ v. v.index == i) vs)
first_variant f i [] = refl
first_variant f i (v ∷ vs) = first_or (v.index == i) v (find (λ w. w.index == i) vs) _ (first_variant f i vs)
  where
    first_or :
        (b : Bool) (v : Variant) (rest : Option Variant) (other : Option _)
        → other ≡ option_map (map_variant {G = Unit {0}} f (λ t. t)) rest
        → cond b (Some (map_variant {G = Unit {0}} f (λ t. t) v)) other
        ≡ option_map (map_variant {G = Unit {0}} f (λ t. t)) (cond b (Some v) rest)
    first_or true v rest other e = refl
    first_or false v rest other e = e

-- a composite is the record of its fields
pub composite_is :
    (left : ℕ) (table : PortableRegistry) (composite : TypeDefComposite) (fs : List Field) (input : List ℕ)
    → fs ≡ composite.fields
    → definition_within left table (def.Composite composite) input
    ≡ outcome_map Values.Record (fields_within left table fs input)
composite_is left table composite fs input f = ap (λ l. outcome_map Values.Record (fields_within left table l input)) (sym f)

-- after an index byte, an enum goes by the first variant with that index
variant_by :
    (left : ℕ) (table : PortableRegistry) (vs : List Variant) (input rest : List ℕ) (index : ℕ)
    → byte input ≡ decoded index rest
    → variant_within left table vs input
    ≡ fields_of index
    (option_map (map_variant {G = Unit {0}} (part_within left table) (λ t. t)) (find (λ v. v.index == index) vs)) rest
variant_by left table vs input rest index f =
    ap (λ o. and_then o (λ i after.
    fields_of i
    (find (λ v. v.index == i) (map (map_variant {G = Unit {0}} (part_within left table) (λ t. t)) vs)) after)) f
    ∙ ap (λ o. fields_of index o rest) (first_variant (part_within left table) index vs)

-- no variant has the index
pub variant_missing :
    (left : ℕ) (table : PortableRegistry) (vs : List Variant) (input rest : List ℕ) (index : ℕ)
    → byte input ≡ decoded index rest → find (λ v. v.index == index) vs ≡ None
    → variant_within left table vs input ≡ failed malformed
variant_missing left table vs input rest index f g =
    variant_by left table vs input rest index f
    ∙ ap (λ o. fields_of index (option_map (map_variant {G = Unit {0}} (part_within left table) (λ t. t)) o) rest) g

-- a variant has the index, and its fields follow
pub variant_found :
    (left : ℕ) (table : PortableRegistry) (vs : List Variant) (input rest : List ℕ) (index : ℕ) (v : Variant)
    (fs : List Field)
    → byte input ≡ decoded index rest → find (λ v. v.index == index) vs ≡ Some v → fs ≡ v.fields
    → variant_within left table vs input
    ≡ outcome_map (λ values. Values.Variant v.name index values) (fields_within left table fs rest)
variant_found left table vs input rest index v fs f g h =
    variant_by left table vs input rest index f
    ∙ ap (λ o. fields_of index (option_map (map_variant {G = Unit {0}} (part_within left table) (λ t. t)) o) rest) g
    ∙ ap (λ l. outcome_map (λ values. Values.Variant v.name index values) (fields_within left table l rest)) (sym h)

-- so many values of a primitive
pub primitives_are :
    (left : ℕ) (table : PortableRegistry) (d : TypeDef) (kind : TypeDefPrimitive) (count : ℕ) (input : List ℕ)
    → d ≡ def.Primitive kind
    → in_turn (replicate count (definition_within left table d)) input
    ≡ in_turn (replicate count (primitive kind)) input
primitives_are left table d kind count input e =
    ap (λ t. in_turn (replicate count (definition_within left table t)) input) e
