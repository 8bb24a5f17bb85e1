-- The fields and variants that builders make. In a form F, T stands for types and S for texts.
use Rattle.std.specs.Prelude.{[], Some, None}
use Rattle.scale_info_types.specs.declared.build.field.FieldBuilder.{FieldBuilder}
use Rattle.scale_info_types.specs.declared.build.field.NameAssigned.{NameAssigned}
use Rattle.scale_info_types.specs.declared.build.field.NameNotAssigned.{NameNotAssigned}
use Rattle.scale_info_types.specs.declared.build.field.TypeAssigned.{TypeAssigned}
use Rattle.scale_info_types.specs.declared.ty.fields.Field.{Field}
use Rattle.scale_info_types.specs.declared.ty.variant.Variant.{Variant}
use Rattle.scale_info_build.specs.declared.variants.VariantBuilder.{VariantBuilder}
use Rattle.scale_info_build.specs.declared.variants.IndexAssigned.{IndexAssigned}

-- the field of a builder that has a name and a type; it has no docs
abbrev pub named_field :
    {F T S : Type 0} → FieldBuilder F (NameAssigned S) (TypeAssigned T) T S → Field F T S
named_field b =
    record { name = Some b.name.name; ty = b.ty.ty; type_name = b.type_name; docs = [] }

-- the field of a builder that has a type and no name; it has no docs
abbrev pub unnamed_field :
    {F T S : Type 0} → FieldBuilder F NameNotAssigned (TypeAssigned T) T S → Field F T S
unnamed_field b =
    record { name = None; ty = b.ty.ty; type_name = b.type_name; docs = [] }

-- the variant of a builder that has an index; it has no docs
abbrev pub variant_of : {F T S : Type 0} → VariantBuilder F IndexAssigned T S → Variant F T S
variant_of b = record { name = b.name; fields = b.fields; index = b.index.index; docs = [] }
