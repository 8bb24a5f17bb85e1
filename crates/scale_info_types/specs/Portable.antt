-- Descriptions that can leave the program.
use Rattle.std.specs.Prelude.{ℕ, List}
use Rattle.scale_info_types.specs.declared.form.PortableForm.{PortableForm}
use Rattle.scale_info_identities.specs.declared.type_id.TypeId.{TypeId}
use Rattle.scale_info_identities.specs.declared.symbol.UntrackedSymbol.{UntrackedSymbol}
use Rattle.scale_info_types.specs.declared.ty.path.Path as paths
use Rattle.scale_info_types.specs.declared.ty.TypeParameter as parameters
use Rattle.scale_info_types.specs.declared.ty.fields.Field as fields
use Rattle.scale_info_types.specs.declared.ty.variant.Variant as variants
use Rattle.scale_info_types.specs.declared.ty.composite.TypeDefComposite as composites
use Rattle.scale_info_types.specs.declared.ty.variant.TypeDefVariant as choices
use Rattle.scale_info_types.specs.declared.ty.TypeDefSequence as sequences
use Rattle.scale_info_types.specs.declared.ty.TypeDefArray as arrays
use Rattle.scale_info_types.specs.declared.ty.TypeDefTuple as tuples
use Rattle.scale_info_types.specs.declared.ty.TypeDefCompact as compacts
use Rattle.scale_info_types.specs.declared.ty.TypeDefBitSequence as bit_sequences
use Rattle.scale_info_types.specs.declared.ty.TypeDefMap as maps
use Rattle.scale_info_types.specs.declared.ty.TypeDef as definitions
use Rattle.scale_info_types.specs.declared.ty.Description as descriptions

-- an id of a type: the index of its entry in a table
abbrev pub Id : Type 0
Id = UntrackedSymbol TypeId

-- a text by its bytes
abbrev pub Text : Type 0
Text = List ℕ

-- a path whose segments are texts
abbrev pub Path : Type 0
Path = paths.Path PortableForm Id Text

-- a type parameter with the id of its type
abbrev pub TypeParameter : Type 0
TypeParameter = parameters.TypeParameter PortableForm Id Text

-- a field with the id of its type
abbrev pub Field : Type 0
Field = fields.Field PortableForm Id Text

-- a variant whose fields have the ids of their types
abbrev pub Variant : Type 0
Variant = variants.Variant PortableForm Id Text

-- a composite by ids and texts
abbrev pub TypeDefComposite : Type 0
TypeDefComposite = composites.TypeDefComposite PortableForm Id Text

-- an enum by ids and texts
abbrev pub TypeDefVariant : Type 0
TypeDefVariant = choices.TypeDefVariant PortableForm Id Text

-- a sequence by the id of its element type
abbrev pub TypeDefSequence : Type 0
TypeDefSequence = sequences.TypeDefSequence PortableForm Id Text

-- an array by its length and the id of its element type
abbrev pub TypeDefArray : Type 0
TypeDefArray = arrays.TypeDefArray PortableForm Id Text

-- a tuple by its members' ids
abbrev pub TypeDefTuple : Type 0
TypeDefTuple = tuples.TypeDefTuple PortableForm Id Text

-- a compact integer by the id of its type
abbrev pub TypeDefCompact : Type 0
TypeDefCompact = compacts.TypeDefCompact PortableForm Id Text

-- a bit sequence by the ids of its store and order types
abbrev pub TypeDefBitSequence : Type 0
TypeDefBitSequence = bit_sequences.TypeDefBitSequence PortableForm Id Text

-- a map by the ids of its key and value types
abbrev pub TypeDefMap : Type 0
TypeDefMap = maps.TypeDefMap PortableForm Id Text

-- a definition by ids and texts
abbrev pub TypeDef : Type 0
TypeDef = definitions.TypeDef PortableForm Id Text

-- a description by ids and texts
abbrev pub Description : Type 0
Description = descriptions.Description PortableForm Id Text
