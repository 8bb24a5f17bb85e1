-- Values within the limits of the encoding: each number is one of its type, each text is UTF-8, and
-- no list and no text has more than 4294967295 items or bytes.
use Rattle.std.specs.Prelude.{◌<◌, ◌^◌, List, length, Option, Some, None, IsUtf8, ⊤}
use Rattle.std.specs.List.{AllByRecursion}
use Rattle.scale_info_types.specs.Portable as portable
use Rattle.scale_info_types.specs.Portable.{Id, Text}
use Rattle.scale_info_types.specs.declared.ty.PortableType.{PortableType}
use Rattle.scale_info_types.specs.declared.ty.TypeDef.TheVariants as def

-- at most 4294967295 items, each within its limits
abbrev pub IsListWithinLimits : {A : Type 0} → (A → Type 0) → List A → Type 0
IsListWithinLimits each vs = (length vs < 2 ^ 32) × AllByRecursion each vs

-- what is there, if anything, is within its limits
abbrev pub IsOptionWithinLimits : {A : Type 0} → (A → Type 0) → Option A → Type 0
IsOptionWithinLimits each None = ⊤
IsOptionWithinLimits each (Some v) = each v

-- UTF-8 of at most 4294967295 bytes
abbrev pub IsTextWithinLimits : Text → Type 0
IsTextWithinLimits text = IsUtf8 text × (length text < 2 ^ 32)

-- ids are numbers of 32 bits
abbrev pub IsIdWithinLimits : Id → Type 0
IsIdWithinLimits v = v.id < 2 ^ 32

-- the segments of a path
abbrev pub IsPathWithinLimits : portable.Path → Type 0
IsPathWithinLimits v = IsListWithinLimits IsTextWithinLimits v.segments

-- the name and the type of a parameter
abbrev pub IsParameterWithinLimits : portable.TypeParameter → Type 0
IsParameterWithinLimits v = IsTextWithinLimits v.name × IsOptionWithinLimits IsIdWithinLimits v.ty

-- the name, the type, the type's name and the docs of a field
abbrev pub IsFieldWithinLimits : portable.Field → Type 0
IsFieldWithinLimits v =
    IsOptionWithinLimits IsTextWithinLimits v.name × IsIdWithinLimits v.ty
    × IsOptionWithinLimits IsTextWithinLimits v.type_name
    × IsListWithinLimits IsTextWithinLimits v.docs

-- the name, the fields, the index and the docs of a variant
abbrev pub IsVariantWithinLimits : portable.Variant → Type 0
IsVariantWithinLimits v =
    IsTextWithinLimits v.name × IsListWithinLimits IsFieldWithinLimits v.fields × (v.index < 256)
    × IsListWithinLimits IsTextWithinLimits v.docs

-- what a definition holds
abbrev pub IsDefinitionWithinLimits : portable.TypeDef → Type 0
IsDefinitionWithinLimits (def.Composite d) = IsListWithinLimits IsFieldWithinLimits d.fields
IsDefinitionWithinLimits (def.Variant d) = IsListWithinLimits IsVariantWithinLimits d.variants
IsDefinitionWithinLimits (def.Sequence d) = IsIdWithinLimits d.type_param
IsDefinitionWithinLimits (def.Array d) = (d.len < 2 ^ 32) × IsIdWithinLimits d.type_param
IsDefinitionWithinLimits (def.Tuple d) = IsListWithinLimits IsIdWithinLimits d.fields
IsDefinitionWithinLimits (def.Primitive p) = ⊤
IsDefinitionWithinLimits (def.Compact d) = IsIdWithinLimits d.type_param
IsDefinitionWithinLimits (def.BitSequence d) =
    IsIdWithinLimits d.bit_store_type × IsIdWithinLimits d.bit_order_type
IsDefinitionWithinLimits (def.Map d) = IsIdWithinLimits d.key × IsIdWithinLimits d.value

-- the path, the parameters, the definition and the docs of a description
abbrev pub IsDescriptionWithinLimits : portable.Description → Type 0
IsDescriptionWithinLimits v =
    IsPathWithinLimits v.path × IsListWithinLimits IsParameterWithinLimits v.type_params
    × IsDefinitionWithinLimits v.type_def × IsListWithinLimits IsTextWithinLimits v.docs

-- the id and the description of an entry
abbrev pub IsEntryWithinLimits : PortableType → Type 0
IsEntryWithinLimits v = (v.id < 2 ^ 32) × IsDescriptionWithinLimits v.ty

-- the entries of a table
abbrev pub AreEntriesWithinLimits : List PortableType → Type 0
AreEntriesWithinLimits entries = IsListWithinLimits IsEntryWithinLimits entries
