-- Values that a program makes.
use Rattle.std.specs.Prelude.{ℕ, List, Option, Some, None, map, find, option_map}
use Rattle.std.specs.Borrow.{Bor}
use Rattle.std.specs.Str.{bytes_eq}
use Rattle.scale_info_types.specs.Portable.{Text, TypeDef}
use Rattle.scale_info_types.specs.declared.ty.TypeDef.TheVariants as def
use Rattle.scale_info_table.specs.declared.portable.PortableRegistry.{PortableRegistry}
use Rattle.scale_info_value.specs.declared.value.Value.{Value}
use Rattle.scale_info_value.specs.Readings.{type_at}

-- the fields, each under its name
abbrev pub named : List (Bor (List ℕ) × Value) → List (Option Text × Value)
named fields = map (λ field. (Some field.0.now, field.1)) fields

-- the values as fields without names
abbrev pub unnamed : List Value → List (Option Text × Value)
unnamed values = map (λ value. (None, value)) values

-- the index of the first variant with that name, if this is an enum that has one
abbrev pub index_of : Text → Option TypeDef → Option ℕ
index_of name (Some (def.Variant d)) =
    option_map (λ v. v.index) (find (λ v. bytes_eq v.name name) d.variants)
index_of name _ = None

-- the index of the first variant with that name of the enum with that id, if there is one
abbrev pub variant_index : PortableRegistry → ℕ → Text → Option ℕ
variant_index table id name = index_of name (option_map (λ d. d.type_def) (type_at table id))
