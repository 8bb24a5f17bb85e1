-- The references of a description, in the order in which a reader of the description meets them.
use Rattle.std.specs.Prelude.{List, [], ◌∷◌, ◌++◌, map}
use Rattle.std.specs.List.{flat_map}
use Rattle.std.specs.Option.{option_to_list}
use Rattle.scale_info_types.specs.declared.ty.fields.Field.{Field}
use Rattle.scale_info_types.specs.declared.ty.TypeParameter.{TypeParameter}
use Rattle.scale_info_types.specs.declared.ty.TypeDef.{TypeDef}
use Rattle.scale_info_types.specs.declared.ty.TypeDef.TheVariants as def
use Rattle.scale_info_types.specs.declared.ty.Description.{Description}

-- In a form F, T stands for types and S for texts.

-- the fields' types, in order
abbrev pub field_references : {F T S : Type 0} → List (Field F T S) → List T
field_references fields = map (λ f. f.ty) fields

-- a composite has its fields' types; an enum those of its variants' fields, in order; a sequence,
-- an array and a compact type their one type; a tuple its members; a bit sequence the store, then
-- the order; a map the key, then the value; a primitive none
abbrev pub definition_references : {F T S : Type 0} → TypeDef F T S → List T
definition_references (def.Composite d) = field_references d.fields
definition_references (def.Variant d) = flat_map (λ v. field_references v.fields) d.variants
definition_references (def.Sequence d) = d.type_param ∷ []
definition_references (def.Array d) = d.type_param ∷ []
definition_references (def.Tuple d) = d.fields
definition_references (def.Primitive p) = []
definition_references (def.Compact d) = d.type_param ∷ []
definition_references (def.BitSequence d) = d.bit_store_type ∷ d.bit_order_type ∷ []
definition_references (def.Map d) = d.key ∷ d.value ∷ []

-- the types of the parameters that aren't skipped
abbrev pub parameter_references : {F T S : Type 0} → List (TypeParameter F T S) → List T
parameter_references params = flat_map (λ p. option_to_list p.ty) params

-- the parameters first, then the definition
abbrev pub references : {F T S : Type 0} → Description F T S → List T
references d = parameter_references d.type_params ++ definition_references d.type_def
