-- Which types have compact integers, whatever comes of one.
use Rattle.std.specs.Prelude.{ℕ, ◌^◌, List, [], ◌∷◌}
use Rattle.scale_info_types.specs.Portable.{Text}
use Rattle.scale_info_types.specs.declared.ty.fields.Field.{Field}
use Rattle.scale_info_types.specs.declared.ty.TypeDef.{TypeDef}
use Rattle.scale_info_types.specs.declared.ty.TypeDef.TheVariants as def
use Rattle.scale_info_primitives.specs.declared.primitive.TypeDefPrimitive.{TypeDefPrimitive}
use Rattle.scale_info_primitives.specs.declared.primitive.TypeDefPrimitive.TheVariants as kind

-- an unsigned primitive by the limit of its width, and `none` for any other
abbrev pub by_width : {A : Type 0} → A → (ℕ → A) → TypeDefPrimitive → A
by_width none below kind.U8 = below (2 ^ 8)
by_width none below kind.U16 = below (2 ^ 16)
by_width none below kind.U32 = below (2 ^ 32)
by_width none below kind.U64 = below (2 ^ 64)
by_width none below kind.U128 = below (2 ^ 128)
by_width none below _ = none

-- what exactly one field stands for, and `none` for any other number of fields
abbrev pub of_only_field : {A F : Type 0} → A → List (Field F A Text) → A
of_only_field none [] = none
of_only_field none (f ∷ []) = f.ty
of_only_field none (f ∷ g ∷ more) = none

-- A composite of exactly one field stands for that field, and a primitive is what `primitive` says;
-- any other type has no compact integers, and is `none`.
abbrev pub by_compact_type :
    {A F : Type 0} → A → (TypeDefPrimitive → A) → TypeDef F A Text → A
by_compact_type none primitive (def.Composite d) = of_only_field none d.fields
by_compact_type none primitive (def.Primitive p) = primitive p
by_compact_type none primitive _ = none
