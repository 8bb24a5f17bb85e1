-- What parameters of a description inside a program say, wherever their texts and identities lie in
-- memory.
use Rattle.std.specs.Prelude.{ℕ, List}
use Rattle.std.specs.Borrow.{Bor}
use Rattle.scale_info_identities.specs.TypeIds.{Term}
use Rattle.scale_info_types.specs.MetaDescriptions.{type_term}
use Rattle.scale_info_types.specs.Shapes.{map_parameter}
use Rattle.scale_info_types.specs.declared.form.MetaForm.{MetaForm}
use Rattle.scale_info_types.specs.declared.meta_type.MetaType.{MetaType}
use Rattle.scale_info_types.specs.declared.ty.TypeParameter.{TypeParameter}

-- the contents of a parameter: its type is a term, its name is bytes
abbrev pub parameter_content :
    TypeParameter MetaForm MetaType (Bor (List ℕ)) → TypeParameter (Unit {0}) Term (List ℕ)
parameter_content p = map_parameter type_term (λ text. text.now) p
