-- The types that clauses see.
pub use Rattle.scale_info_types.specs.declared.ty.Description.{Description}
pub use Rattle.scale_info_types.specs.declared.ty.TypeDef.{TypeDef}
pub use Rattle.scale_info_types.specs.declared.ty.TypeDefSequence.{TypeDefSequence}
pub use Rattle.scale_info_types.specs.declared.ty.PortableType.{PortableType}
pub use Rattle.scale_info_types.specs.declared.ty.fields.Field.{Field}
pub use Rattle.scale_info_types.specs.declared.ty.variant.Variant.{Variant}
pub use Rattle.scale_info_table.specs.declared.portable.PortableRegistry.{PortableRegistry}
pub use Rattle.scale_info_value.specs.declared.value.Value.{Value}
pub use Rattle.scale_info_value_visit.specs.declared.visitor.VisitError.{VisitError}
