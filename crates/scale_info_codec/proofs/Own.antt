-- In the portable form, a part of a description stands for itself.
use Rattle.std.proofs.Common.{◌≡◌, ◌∙◌, List, map, ap, refl}
use Rattle.std.proofs.lemmas.Iterator.Adapters.{option_map_id}
use Rattle.std.proofs.lemmas.List.{map-id}
use Rattle.scale_info_types.specs.Portable.{Id, Text, Path, TypeParameter, Field, Variant}
use Rattle.scale_info_types.specs.Portable.{TypeDef, Description}
use Rattle.scale_info_types.specs.Shapes.{map_definition, map_description, map_field}
use Rattle.scale_info_types.specs.Shapes.{map_parameter, map_path, map_variant}
use Rattle.scale_info_types.specs.declared.form.PortableForm.{PortableForm}
use Rattle.scale_info_types.specs.declared.ty.TypeDef.TheVariants as def

-- an id as it is
abbrev pub own : Id → Id
own id = id

-- a text as it is
abbrev pub same : Text → Text
same text = text

-- a list of parts, each of which stands for itself
list : {A : Type 0} (f : A → A) (xs : List A) → ((x : A) → f x ≡ x) → map f xs ≡ xs
list f xs e = ap (λ g. map g xs) (λ i x. e x i) ∙ map-id xs

pub own_path : (x : Path) → map_path {G = PortableForm} own same x ≡ x
own_path x = λ i. record { segments = map-id x.segments i; form = x.form }

pub own_parameter : (x : TypeParameter) → map_parameter {G = PortableForm} own same x ≡ x
own_parameter x = λ i. record { name = x.name; ty = option_map_id x.ty i }

pub own_field : (x : Field) → map_field {G = PortableForm} own same x ≡ x
own_field x =
    λ i.
    record {
      name = option_map_id x.name i;
      ty = x.ty;
      type_name = option_map_id x.type_name i;
      docs = map-id x.docs i;
    }

pub own_fields : (xs : List Field) → map (map_field {G = PortableForm} own same) xs ≡ xs
own_fields xs = list (map_field own same) xs own_field

pub own_variant : (x : Variant) → map_variant {G = PortableForm} own same x ≡ x
own_variant x =
    λ i.
    record {
      name = x.name;
      fields = own_fields x.fields i;
      index = x.index;
      docs = map-id x.docs i;
    }

pub own_variants : (xs : List Variant) → map (map_variant {G = PortableForm} own same) xs ≡ xs
own_variants xs = list (map_variant own same) xs own_variant

pub own_types : (xs : List Id) → map own xs ≡ xs
own_types xs = map-id xs

pub own_definition : (x : TypeDef) → map_definition {G = PortableForm} own same x ≡ x
own_definition (def.Composite d) = λ i. def.Composite (record { fields = own_fields d.fields i })
own_definition (def.Variant d) = λ i. def.Variant (record { variants = own_variants d.variants i })
own_definition (def.Sequence d) = refl
own_definition (def.Array d) = refl
own_definition (def.Tuple d) = λ i. def.Tuple (record { fields = map-id d.fields i; form = d.form })
own_definition (def.Primitive p) = refl
own_definition (def.Compact d) = refl
own_definition (def.BitSequence d) = refl
own_definition (def.Map d) = refl

pub own_description : (x : Description) → map_description {G = PortableForm} own same x ≡ x
own_description x =
    λ i.
    record {
      path = own_path x.path i;
      type_params = list (map_parameter own same) x.type_params own_parameter i;
      type_def = own_definition x.type_def i;
      docs = map-id x.docs i;
    }
