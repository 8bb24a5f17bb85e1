-- The order in which the variants of definitions are declared.
use Rattle.std.specs.Prelude.{ℕ}
use Rattle.scale_info_types.specs.declared.ty.TypeDef.{TypeDef}
use Rattle.scale_info_types.specs.declared.ty.TypeDef.TheVariants as def

-- the index of a definition's variant, counted from 0
abbrev pub definition_index : {F T S : Type 0} → TypeDef F T S → ℕ
definition_index (def.Composite d) = 0
definition_index (def.Variant d) = 1
definition_index (def.Sequence d) = 2
definition_index (def.Array d) = 3
definition_index (def.Tuple d) = 4
definition_index (def.Primitive d) = 5
definition_index (def.Compact d) = 6
definition_index (def.BitSequence d) = 7
definition_index (def.Map d) = 8
