-- Parts of a description whose strings are moved: they are read as they are.
use Rattle.std.proofs.Common.{◌≡◌, List, map, sym}
use Rattle.std.proofs.lemmas.Iterator.Adapters.{option_map_id}
use Rattle.std.proofs.lemmas.List.{map-id}
use Rattle.scale_info_types.specs.Shapes.{map_field, map_variant}
use Rattle.scale_info_types.specs.Portable.{Id, Text, Field, Variant}
use Rattle.scale_info_types.specs.declared.form.PortableForm.{PortableForm}

-- a text is read as it is
abbrev pub same : Text → Text
same text = text

-- a field that has the type read, and all else as it was, is the field read
pub field_read :
    (f : Id → Id) (x : Field) (ty : Id) → ty ≡ f x.ty
    → ◌≡◌ {A = Field} (record { name = x.name; ty = ty; type_name = x.type_name; docs = x.docs })
    (map_field {G = PortableForm} f same x)
field_read f x ty e =
    λ i.
    record {
      name = sym (option_map_id x.name) i;
      ty = e i;
      type_name = sym (option_map_id x.type_name) i;
      docs = sym (map-id x.docs) i;
    }

-- a variant that has the fields read, and all else as it was, is the variant read
pub variant_read :
    (f : Id → Id) (v : Variant) (fields : List Field) → fields ≡ map (map_field {G = PortableForm} f same) v.fields
    → ◌≡◌ {A = Variant} (record { name = v.name; fields = fields; index = v.index; docs = v.docs })
    (map_variant {G = PortableForm} f same v)
variant_read f v fields e =
    λ i. record { name = v.name; fields = e i; index = v.index; docs = sym (map-id v.docs) i }
