-- The value at a place of a table that stands for a value of a program's type; None where there is
-- none.
use Rattle.std.specs.Prelude.{◌≡◌, ℕ, ◌+◌, List, [], ◌∷◌, ◌++◌, Option, Some, None, option_map}
use Rattle.std.specs.Prelude.{option_and_then, codes}
use Rattle.scale_info_types.specs.Portable.{Field, Variant}
use Rattle.scale_info_table.specs.declared.portable.PortableRegistry.{PortableRegistry}
use Rattle.scale_info_value.specs.declared.value.Value.{Value}
use Rattle.scale_info_value.specs.declared.value.Value.TheVariants as Values
use Rattle.scale_info_value_typed.specs.declared.place.Place.{Place}
use Rattle.scale_info_value_typed.specs.declared.place.Place.TheVariants as place
use Rattle.scale_info_value_typed.specs.Meanings.{all_of}
use Rattle.scale_info_value_typed.specs.Places.{part_at, variant_named}

-- what stands for each value of a type, at a place
abbrev pub Standing : Type 0 → Type 0
Standing A = PortableRegistry → Place → A → Option Value

-- what stands for each item, where the first has this index
abbrev pub each_at :
    {A : Type 0} → Standing A → PortableRegistry → Place → ℕ → List A → List (Option Value)
each_at value_at table place index [] = []
each_at value_at table place index (x ∷ xs) =
    value_at table (part_at table place index) x ∷ each_at value_at table place (index + 1) xs

-- a list: what stands for its items
abbrev pub list_at : {A : Type 0} → Standing A → Standing (List A)
list_at value_at table place xs = option_map Values.List (all_of (each_at value_at table place 0 xs))

-- a tuple: what stands for its members
abbrev pub tuple_at : List (Option Value) → Option Value
tuple_at members = option_map Values.List (all_of members)

-- a variant with no field
abbrev pub alone : Variant → Value
alone v = Values.Variant v.name v.index []

-- a variant with a value for the first of its fields
abbrev pub with_first :
    {A : Type 0} → Standing A → PortableRegistry → A → Variant → List Field → Option Value
with_first value_at table x v [] = None
with_first value_at table x v (field ∷ more) =
    option_map (λ value. Values.Variant v.name v.index ((field.name, value) ∷ []))
    (value_at table (place.Type field.ty.id) x)

-- an option: the variant `None`, or the variant `Some` with what stands for the value that it holds
abbrev pub optional_at : {A : Type 0} → Standing A → Standing (Option A)
optional_at value_at table place None = option_map alone (variant_named (codes "None") table place)
optional_at value_at table place (Some x) =
    option_and_then (λ v. with_first value_at table x v v.fields)
    (variant_named (codes "Some") table place)

-- values were appended that pass a test
pub record AppendsValues (Test : List Value → Type 0) (old new : List Value) : Type 0 where
  pub values : List Value
  pub are : Test values
  pub parts : new ≡ old ++ values
