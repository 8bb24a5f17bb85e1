-- Where a value stands in a table: at a type, or as an entry of a map; and where its parts stand.
use Rattle.std.specs.Prelude.{ℕ, zero, suc, List, [], Option, Some, None, option_map}
use Rattle.std.specs.Prelude.{slice_get, find}
use Rattle.std.specs.Str.{bytes_eq}
use Rattle.scale_info_types.specs.Portable.{Id, Text, Field, Variant, TypeDef}
use Rattle.scale_info_types.specs.declared.ty.TypeDef.TheVariants as def
use Rattle.scale_info_table.specs.declared.portable.PortableRegistry.{PortableRegistry}
use Rattle.scale_info_value.specs.Readings.{type_at}
use Rattle.scale_info_value_typed.specs.declared.place.Place.{Place}
use Rattle.scale_info_value_typed.specs.declared.place.Place.TheVariants as place

-- the place of a member, if there is one
abbrev pub member_place : Option Id → Place
member_place None = place.Nowhere
member_place (Some r) = place.Type r.id

-- the place of a field, if there is one
abbrev pub field_place : Option Field → Place
field_place None = place.Nowhere
field_place (Some f) = place.Type f.ty.id

-- where the part with an index stands, by the definition of the value's type
abbrev pub part_of : TypeDef → ℕ → Place
part_of (def.Composite d) index = field_place (slice_get d.fields index)
part_of (def.Sequence d) index = place.Type d.type_param.id
part_of (def.Array d) index = place.Type d.type_param.id
part_of (def.Tuple d) index = member_place (slice_get d.fields index)
part_of (def.Map d) index = place.Entry d.key.id d.value.id
part_of _ index = place.Nowhere

-- where it stands, if the type has a definition
abbrev pub part_by : Option TypeDef → ℕ → Place
part_by None index = place.Nowhere
part_by (Some definition) index = part_of definition index

-- an entry of a map is a key and a value
abbrev pub part_of_entry : ℕ → ℕ → ℕ → Place
part_of_entry key value zero = place.Type key
part_of_entry key value (suc index) = place.Type value

-- the definition of the type with an id, which is an index
abbrev pub definition_at : PortableRegistry → ℕ → Option TypeDef
definition_at table id = option_map (λ d. d.type_def) (type_at table id)

-- where the part with an index stands, of a value at a place
abbrev pub part_at : PortableRegistry → Place → ℕ → Place
part_at table (place.Type id) index = part_by (definition_at table id) index
part_at table (place.Entry key value) index = part_of_entry key value index
part_at table place.Nowhere index = place.Nowhere

-- the variants of a definition
abbrev pub variants_of : TypeDef → List Variant
variants_of (def.Variant d) = d.variants
variants_of _ = []

-- the variants, if the type has a definition
abbrev pub variants_by : Option TypeDef → List Variant
variants_by None = []
variants_by (Some definition) = variants_of definition

-- the variants that a value at a place may be
abbrev pub variants_at : PortableRegistry → Place → List Variant
variants_at table (place.Type id) = variants_by (definition_at table id)
variants_at table _ = []

-- the first of them with this name
abbrev pub variant_named : Text → PortableRegistry → Place → Option Variant
variant_named name table place = find (λ v. bytes_eq v.name name) (variants_at table place)
