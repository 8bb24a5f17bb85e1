-- Parts of descriptions: their types, in order, and the same parts with ids in place of types.
use Rattle.std.specs.Prelude.{ℕ, List, [], ◌∷◌, map}
use Rattle.std.specs.Borrow.{Bor}
use Rattle.std.specs.List.{flat_map}
use Rattle.std.specs.Option.{option_to_list}
use Rattle.scale_info_references.specs.Conversions.{symbol, with_ids}
use Rattle.scale_info_types.specs.Portable as portable
use Rattle.scale_info_types.specs.References.{field_references}
use Rattle.scale_info_types.specs.MetaDescriptions.{MetaDescription}
use Rattle.scale_info_types.specs.Shapes.{map_definition, map_field, map_parameter, map_path}
use Rattle.scale_info_types.specs.Shapes.{map_variant}
use Rattle.scale_info_types.specs.declared.form.MetaForm.{MetaForm}
use Rattle.scale_info_types.specs.declared.meta_type.MetaType.{MetaType}
use Rattle.scale_info_types.specs.declared.ty.TypeDef.{TypeDef}
use Rattle.scale_info_types.specs.declared.ty.TypeDefArray.{TypeDefArray}
use Rattle.scale_info_types.specs.declared.ty.TypeDefBitSequence.{TypeDefBitSequence}
use Rattle.scale_info_types.specs.declared.ty.TypeDefCompact.{TypeDefCompact}
use Rattle.scale_info_types.specs.declared.ty.TypeDefMap.{TypeDefMap}
use Rattle.scale_info_types.specs.declared.ty.TypeDefSequence.{TypeDefSequence}
use Rattle.scale_info_types.specs.declared.ty.TypeDefTuple.{TypeDefTuple}
use Rattle.scale_info_types.specs.declared.ty.TypeParameter.{TypeParameter}
use Rattle.scale_info_types.specs.declared.ty.composite.TypeDefComposite.{TypeDefComposite}
use Rattle.scale_info_types.specs.declared.ty.fields.Field.{Field}
use Rattle.scale_info_types.specs.declared.ty.path.Path.{Path}
use Rattle.scale_info_types.specs.declared.ty.variant.TypeDefVariant.{TypeDefVariant}
use Rattle.scale_info_types.specs.declared.ty.variant.Variant.{Variant}

-- a text of a program
abbrev MetaText : Type 0
MetaText = Bor (List ℕ)

-- a path has no types
abbrev pub path_types : Path MetaForm MetaType MetaText → List MetaType
path_types path = []

-- a parameter has its type, if it isn't skipped
abbrev pub parameter_types : TypeParameter MetaForm MetaType MetaText → List MetaType
parameter_types param = option_to_list param.ty

-- a field has its type
abbrev pub field_types : Field MetaForm MetaType MetaText → List MetaType
field_types field = field.ty ∷ []

-- a variant has its fields' types
abbrev pub variant_types : Variant MetaForm MetaType MetaText → List MetaType
variant_types variant = field_references variant.fields

-- a composite has its fields' types
abbrev pub composite_types : TypeDefComposite MetaForm MetaType MetaText → List MetaType
composite_types def = field_references def.fields

-- an enum has the types of its variants' fields
abbrev pub enum_types : TypeDefVariant MetaForm MetaType MetaText → List MetaType
enum_types def = flat_map (λ v. field_references v.fields) def.variants

-- a sequence has the type of its elements
abbrev pub sequence_types : TypeDefSequence MetaForm MetaType MetaText → List MetaType
sequence_types def = def.type_param ∷ []

-- an array has the type of its elements
abbrev pub array_types : TypeDefArray MetaForm MetaType MetaText → List MetaType
array_types def = def.type_param ∷ []

-- a tuple has its members
abbrev pub tuple_types : TypeDefTuple MetaForm MetaType MetaText → List MetaType
tuple_types def = def.fields

-- a compact integer has its type
abbrev pub compact_types : TypeDefCompact MetaForm MetaType MetaText → List MetaType
compact_types def = def.type_param ∷ []

-- a bit sequence has the store, then the order
abbrev pub bit_sequence_types : TypeDefBitSequence MetaForm MetaType MetaText → List MetaType
bit_sequence_types def = def.bit_store_type ∷ def.bit_order_type ∷ []

-- a map has the key, then the value
abbrev pub map_types : TypeDefMap MetaForm MetaType MetaText → List MetaType
map_types def = def.key ∷ def.value ∷ []

-- each type becomes the id that `id_of` gives it, and each text its bytes
module _ (id_of : MetaType → ℕ) where
  abbrev id : MetaType → portable.Id
  id ty = symbol (id_of ty)

  abbrev bytes : MetaText → List ℕ
  bytes text = text.now

  -- the description with ids
  abbrev pub type_with_ids : MetaDescription → portable.Description
  type_with_ids d = with_ids id_of bytes d

  -- the ids of types, in order
  abbrev pub list_with_ids : List MetaType → List portable.Id
  list_with_ids types = map id types

  -- the path in portable form
  abbrev pub path_with_ids : Path MetaForm MetaType MetaText → portable.Path
  path_with_ids path = map_path id bytes path

  -- the parameter with its id
  abbrev pub parameter_with_ids :
      TypeParameter MetaForm MetaType MetaText → portable.TypeParameter
  parameter_with_ids param = map_parameter id bytes param

  -- the definition with ids
  abbrev pub definition_with_ids : TypeDef MetaForm MetaType MetaText → portable.TypeDef
  definition_with_ids def = map_definition id bytes def

  -- the field with its id
  abbrev pub field_with_ids : Field MetaForm MetaType MetaText → portable.Field
  field_with_ids field = map_field id bytes field

  -- the variant with ids
  abbrev pub variant_with_ids : Variant MetaForm MetaType MetaText → portable.Variant
  variant_with_ids variant = map_variant id bytes variant

  -- the composite with ids
  abbrev pub composite_with_ids :
      TypeDefComposite MetaForm MetaType MetaText → portable.TypeDefComposite
  composite_with_ids def = record { fields = map field_with_ids def.fields }

  -- the enum with ids
  abbrev pub enum_with_ids : TypeDefVariant MetaForm MetaType MetaText → portable.TypeDefVariant
  enum_with_ids def = record { variants = map variant_with_ids def.variants }

  -- the sequence with its id
  abbrev pub sequence_with_ids :
      TypeDefSequence MetaForm MetaType MetaText → portable.TypeDefSequence
  sequence_with_ids def = record { type_param = id def.type_param; form = tt }

  -- the array with its id
  abbrev pub array_with_ids : TypeDefArray MetaForm MetaType MetaText → portable.TypeDefArray
  array_with_ids def = record { len = def.len; type_param = id def.type_param; form = tt }

  -- the tuple with ids
  abbrev pub tuple_with_ids : TypeDefTuple MetaForm MetaType MetaText → portable.TypeDefTuple
  tuple_with_ids def = record { fields = map id def.fields; form = tt }

  -- the compact integer with its id
  abbrev pub compact_with_ids :
      TypeDefCompact MetaForm MetaType MetaText → portable.TypeDefCompact
  compact_with_ids def = record { type_param = id def.type_param; form = tt }

  -- the bit sequence with its two ids
  abbrev pub bit_sequence_with_ids :
      TypeDefBitSequence MetaForm MetaType MetaText → portable.TypeDefBitSequence
  bit_sequence_with_ids def =
      record {
        bit_store_type = id def.bit_store_type;
        bit_order_type = id def.bit_order_type;
        form = tt;
      }

  -- the map with its two ids
  abbrev pub map_with_ids : TypeDefMap MetaForm MetaType MetaText → portable.TypeDefMap
  map_with_ids def = record { key = id def.key; value = id def.value; form = tt }
