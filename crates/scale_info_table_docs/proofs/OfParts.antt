-- Fields, variants and descriptions of their parts.
use Rattle.std.proofs.Common.{ℕ, List, Option}
use Rattle.scale_info_types.specs.Portable as portable
use Rattle.scale_info_types.specs.Portable.{Id, Text}

-- the field of these parts
abbrev pub field_of : Option Text × (Id × (Option Text × List Text)) → portable.Field
field_of q = record { name = q.0; ty = q.1.0; type_name = q.1.1.0; docs = q.1.1.1 }

-- the variant of these parts
abbrev pub variant_of : Text × (List portable.Field × (ℕ × List Text)) → portable.Variant
variant_of q = record { name = q.0; fields = q.1.0; index = q.1.1.0; docs = q.1.1.1 }

-- the description of these parts
abbrev pub description_of :
    portable.Path × (List portable.TypeParameter × (portable.TypeDef × List Text))
    → portable.Description
description_of q = record { path = q.0; type_params = q.1.0; type_def = q.1.1.0; docs = q.1.1.1 }
