-- Descriptions without docs, which are the same in all else.
use Rattle.std.specs.Prelude.{[], map}
use Rattle.scale_info_types.specs.Portable.{Field, Variant, TypeDef, Description}
use Rattle.scale_info_types.specs.declared.ty.PortableType.{PortableType}
use Rattle.scale_info_types.specs.declared.ty.TypeDef.TheVariants as def

-- the field without its docs
abbrev pub field_without_docs : Field → Field
field_without_docs field =
    record { name = field.name; ty = field.ty; type_name = field.type_name; docs = [] }

-- the variant without its docs and those of its fields
abbrev pub variant_without_docs : Variant → Variant
variant_without_docs variant =
    record {
      name = variant.name;
      fields = map field_without_docs variant.fields;
      index = variant.index;
      docs = [];
    }

-- the definition without the docs of fields and variants; the other kinds have none
abbrev pub definition_without_docs : TypeDef → TypeDef
definition_without_docs (def.Composite d) =
    def.Composite (record { fields = map field_without_docs d.fields })
definition_without_docs (def.Variant d) =
    def.Variant (record { variants = map variant_without_docs d.variants })
definition_without_docs d = d

-- the description without its docs and those of its definition
abbrev pub description_without_docs : Description → Description
description_without_docs d =
    record {
      path = d.path;
      type_params = d.type_params;
      type_def = definition_without_docs d.type_def;
      docs = [];
    }

-- the entry of a table without docs, with its id
abbrev pub entry_without_docs : PortableType → PortableType
entry_without_docs entry = record { id = entry.id; ty = description_without_docs entry.ty }
