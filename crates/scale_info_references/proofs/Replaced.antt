-- A description read twice: what its shape and its references are, once ids stand in place of types.
use Rattle.std.proofs.Common.{◌≡◌, ℕ, List, [], ◌∷◌, ◌++◌, map, Option, Some, None, option_map}
use Rattle.std.proofs.Common.{refl, ap, sym, ◌∙◌}
use Rattle.std.proofs.lemmas.List.{map-append}
use Rattle.std.specs.List.{flat_map}
use Rattle.std.specs.Option.{option_to_list}
use Rattle.scale_info_types.specs.declared.ty.TypeDef.TheVariants as def
use Rattle.scale_info_types.specs.declared.ty.TypeDef.{TypeDef}
use Rattle.scale_info_types.specs.declared.ty.Description.{Description}
use Rattle.scale_info_types.specs.declared.ty.TypeParameter.{TypeParameter}
use Rattle.scale_info_types.specs.declared.ty.fields.Field.{Field}
use Rattle.scale_info_types.specs.declared.ty.variant.Variant.{Variant}
use Rattle.scale_info_types.specs.References.{field_references, definition_references}
use Rattle.scale_info_types.specs.References.{parameter_references, references}
use Rattle.scale_info_types.specs.Shapes.{map_parameter, map_field, map_variant, map_definition}
use Rattle.scale_info_types.specs.Shapes.{map_description, shape}
use Rattle.scale_info_types.specs.Portable as portable
use Rattle.scale_info_types.specs.declared.form.PortableForm.{PortableForm}
use Rattle.scale_info_references.specs.Conversions.{symbol, with_ids}

-- a reading after a reading is one reading
abbrev pub Joins : {X Y Z : Type 0} → (Y → Z) → (X → Y) → (X → Z) → Type 0
Joins {X} g f k = (x : X) → g (f x) ≡ k x

join_list : {X Y Z : Type 0} (g : Y → Z) (f : X → Y) (k : X → Z) → Joins g f k → Joins (map g) (map f) (map k)
join_list g f k law [] = refl
join_list g f k law (x ∷ xs) = λ i. law x i ∷ join_list g f k law xs i

join_option : {X Y Z : Type 0} (g : Y → Z) (f : X → Y) (k : X → Z) → Joins g f k
    → Joins (option_map g) (option_map f) (option_map k)
join_option g f k law None = refl
join_option g f k law (Some x) = ap Some (law x)

module _ (F G H : Type 0) {T U V S R Q : Type 0} (g : U → V) (f : T → U) (k : T → V) (t : R → Q)
    (s : S → R) (w : S → Q) (types : Joins g f k) (texts : Joins t s w) where
  join_field : Joins (map_field {F = G} {G = H} g t) (map_field {F = F} {G = G} f s) (map_field {F = F} {G = H} k w)
  join_field x = λ i.
      record {
        name = join_option t s w texts x.name i;
        ty = types x.ty i;
        type_name = join_option t s w texts x.type_name i;
        docs = join_list t s w texts x.docs i;
      }

  join_variant : Joins
      (map_variant {F = G} {G = H} g t) (map_variant {F = F} {G = G} f s) (map_variant {F = F} {G = H} k w)
  join_variant x = λ i.
      record {
        name = texts x.name i;
        fields = join_list (map_field {F = G} {G = H} g t) (map_field f s) (map_field k w) join_field x.fields i;
        index = x.index;
        docs = join_list t s w texts x.docs i;
      }

  join_parameter : Joins
      (map_parameter {F = G} {G = H} g t) (map_parameter {F = F} {G = G} f s) (map_parameter {F = F} {G = H} k w)
  join_parameter x = λ i. record { name = texts x.name i; ty = join_option g f k types x.ty i }

  join_definition : Joins
      (map_definition {F = G} {G = H} g t) (map_definition {F = F} {G = G} f s) (map_definition {F = F} {G = H} k w)
  join_definition (def.Composite d) =
      λ i. def.Composite (record {
        fields =
            join_list (map_field {F = G} {G = H} g t) (map_field f s) (map_field k w) join_field d.fields i;
      })
  join_definition (def.Variant d) =
      λ i. def.Variant (record {
        variants =
            join_list (map_variant {F = G} {G = H} g t) (map_variant f s) (map_variant k w) join_variant d.variants i;
      })
  join_definition (def.Sequence d) = λ i. def.Sequence (record { type_param = types d.type_param i; form = tt })
  join_definition (def.Array d) = λ i. def.Array (record { len = d.len; type_param = types d.type_param i; form = tt })
  join_definition (def.Tuple d) = λ i. def.Tuple (record { fields = join_list g f k types d.fields i; form = tt })
  join_definition (def.Primitive p) = refl
  join_definition (def.Compact d) = λ i. def.Compact (record { type_param = types d.type_param i; form = tt })
  join_definition (def.BitSequence d) =
      λ i. def.BitSequence (record {
        bit_store_type =
            types d.bit_store_type i;
        bit_order_type = types d.bit_order_type i;
        form = tt;
      })
  join_definition (def.Map d) = λ i. def.Map (record { key = types d.key i; value = types d.value i; form = tt })

  pub join_description : Joins
      (map_description {F = G} {G = H} g t) (map_description {F = F} {G = G} f s) (map_description {F = F} {G = H} k w)
  join_description d = λ i.
      record {
        path = record { segments = join_list t s w texts d.path.segments i; form = tt };
        type_params =
            join_list (map_parameter {F =
            G} {G = H} g t) (map_parameter f s) (map_parameter k w) join_parameter d.type_params i;
        type_def = join_definition d.type_def i;
        docs = join_list t s w texts d.docs i;
      }

-- ids in place of types change no shape
pub shape_stays : {F T S : Type 0} (id_of : T → ℕ) (text : S → List ℕ) (d : Description F T S)
    → shape (λ bytes. bytes) (with_ids id_of text d) ≡ shape text d
shape_stays {F} id_of text d =
    join_description F PortableForm (Unit {0}) (λ _. tt) (λ t. symbol (id_of t)) (λ _. tt) (λ bytes. bytes) text text
    (λ _. refl) (λ _. refl) d

option_replaced : {T U : Type 0} (f : T → U) (o : Option T) → option_to_list (option_map f o) ≡ map f (option_to_list o)
option_replaced f None = refl
option_replaced f (Some x) = refl

module _ (F G : Type 0) {T U S R : Type 0} (f : T → U) (s : S → R) where
  fields_replaced : (fs : List (Field F T S))
      → field_references (map (map_field {G = G} f s) fs) ≡ map f (field_references fs)
  fields_replaced [] = refl
  fields_replaced (x ∷ fs) = ap (λ rs. f x.ty ∷ rs) (fields_replaced fs)

  variants_replaced :
      (vs : List (Variant F T S))
      → flat_map (λ v. field_references v.fields) (map (map_variant {G = G} f s) vs)
      ≡ map f (flat_map (λ v. field_references v.fields) vs)
  variants_replaced [] = refl
  variants_replaced (v ∷ vs) =
      (λ i. fields_replaced v.fields i ++ variants_replaced vs i)
      ∙ sym (map-append f (field_references v.fields) (flat_map (λ v. field_references v.fields) vs))

  parameters_replaced : (ps : List (TypeParameter F T S))
      → parameter_references (map (map_parameter {G = G} f s) ps) ≡ map f (parameter_references ps)
  parameters_replaced [] = refl
  parameters_replaced (p ∷ ps) =
      (λ i. option_replaced f p.ty i ++ parameters_replaced ps i)
      ∙ sym (map-append f (option_to_list p.ty) (parameter_references ps))

  definition_replaced : (d : TypeDef F T S)
      → definition_references (map_definition {G = G} f s d) ≡ map f (definition_references d)
  definition_replaced (def.Composite d) = fields_replaced d.fields
  definition_replaced (def.Variant d) = variants_replaced d.variants
  definition_replaced (def.Sequence d) = refl
  definition_replaced (def.Array d) = refl
  definition_replaced (def.Tuple d) = refl
  definition_replaced (def.Primitive p) = refl
  definition_replaced (def.Compact d) = refl
  definition_replaced (def.BitSequence d) = refl
  definition_replaced (def.Map d) = refl

  -- the references of a description that is read are the references, read
  pub references_replaced : (d : Description F T S) → references (map_description {G = G} f s d) ≡ map f (references d)
  references_replaced d =
      (λ i. parameters_replaced d.type_params i ++ definition_replaced d.type_def i)
      ∙ sym (map-append f (parameter_references d.type_params) (definition_references d.type_def))

-- the ids in a description are those of its references, in order
pub ids_replaced :
    {F T S : Type 0} (id_of : T → ℕ) (text : S → List ℕ) (d : Description F T S)
    → map (λ (r : portable.Id). r.id) (references (with_ids id_of text d)) ≡ map id_of (references d)
ids_replaced {F} id_of text d =
    ap (map (λ (r : portable.Id). r.id)) (references_replaced F PortableForm (λ t. symbol (id_of t)) text d)
    ∙ join_list (λ (r : portable.Id). r.id) (λ t. symbol (id_of t)) id_of (λ _. refl) (references d)
