-- A reading of a description that can be undone.
use Rattle.std.proofs.Common.{◌≡◌, [], ◌∷◌, map, Some, None, option_map, refl, ap, sym, ◌∙◌}
use Rattle.scale_info_types.specs.declared.ty.TypeDef.TheVariants as def
use Rattle.scale_info_types.specs.Shapes.{map_parameter, map_field, map_variant, map_definition}
use Rattle.scale_info_types.specs.Shapes.{map_description, content}
use Rattle.scale_info_types.specs.Portable as portable

-- back undoes read
abbrev pub Undoes : {X Y : Type 0} → (Y → X) → (X → Y) → Type 0
Undoes {X} {Y} back read = (x : X) → back (read x) ≡ x

-- a reading that is undone is of one value only
pub one_reading :
    {X Y : Type 0} (back : Y → X) (read : X → Y)
    → Undoes back read → (a b : X) → read a ≡ read b → a ≡ b
one_reading back read law a b e = sym (law a) ∙ ap back e ∙ law b

undo_list :
    {X Y : Type 0} (back : Y → X) (read : X → Y)
    → Undoes back read → Undoes (map back) (map read)
undo_list back read law [] = refl
undo_list back read law (x ∷ xs) = λ i. law x i ∷ undo_list back read law xs i

undo_option :
    {X Y : Type 0} (back : Y → X) (read : X → Y)
    → Undoes back read → Undoes (option_map back) (option_map read)
undo_option back read law None = refl
undo_option back read law (Some x) = ap Some (law x)

-- types and texts that can be read back give a description that can be
module _ {F T U S R : Type 0} (to_type : U → T) (on_type : T → U) (to_text : R → S) (on_text : S → R)
    (types : Undoes to_type on_type) (texts : Undoes to_text on_text) where
  undo_field : Undoes (map_field {G = F} to_type to_text) (map_field {G = Unit {0}} on_type on_text)
  undo_field f = λ i.
      record {
        name = undo_option to_text on_text texts f.name i;
        ty = types f.ty i;
        type_name = undo_option to_text on_text texts f.type_name i;
        docs = undo_list to_text on_text texts f.docs i;
      }

  undo_variant :
      Undoes (map_variant {G = F} to_type to_text) (map_variant {G = Unit {0}} on_type on_text)
  undo_variant v = λ i.
      record {
        name = texts v.name i;
        fields =
            undo_list (map_field {F = Unit {0}} to_type to_text)
            (map_field on_type on_text) undo_field v.fields i;
        index = v.index;
        docs = undo_list to_text on_text texts v.docs i;
      }

  undo_parameter :
      Undoes (map_parameter {G = F} to_type to_text) (map_parameter {G = Unit {0}} on_type on_text)
  undo_parameter p =
      λ i. record { name = texts p.name i; ty = undo_option to_type on_type types p.ty i }

  undo_definition :
      Undoes (map_definition {G = F} to_type to_text) (map_definition {G = Unit {0}} on_type on_text)
  undo_definition (def.Composite d) =
      λ i.
      def.Composite
      (record { fields = undo_list (map_field {F = Unit {0}} to_type to_text) (map_field on_type on_text) undo_field d.fields i })
  undo_definition (def.Variant d) =
      λ i.
      def.Variant
      (record { variants = undo_list (map_variant {F = Unit {0}} to_type to_text) (map_variant on_type on_text) undo_variant d.variants i })
  undo_definition (def.Sequence d) =
      λ i. def.Sequence (record { type_param = types d.type_param i; form = tt })
  undo_definition (def.Array d) =
      λ i. def.Array (record { len = d.len; type_param = types d.type_param i; form = tt })
  undo_definition (def.Tuple d) =
      λ i. def.Tuple (record { fields = undo_list to_type on_type types d.fields i; form = tt })
  undo_definition (def.Primitive p) = refl
  undo_definition (def.Compact d) = λ i. def.Compact (record { type_param = types d.type_param i; form = tt })
  undo_definition (def.BitSequence d) =
      λ i.
      def.BitSequence
      (record { bit_store_type = types d.bit_store_type i; bit_order_type = types d.bit_order_type i; form = tt })
  undo_definition (def.Map d) =
      λ i. def.Map (record { key = types d.key i; value = types d.value i; form = tt })

  -- reading a description and then reading it back gives the description
  pub undo_description :
      Undoes (map_description {G = F} to_type to_text) (map_description {G = Unit {0}} on_type on_text)
  undo_description d = λ i.
      record {
        path = record { segments = undo_list to_text on_text texts d.path.segments i; form = tt };
        type_params =
            undo_list (map_parameter {F = Unit {0}} to_type to_text)
            (map_parameter on_type on_text) undo_parameter d.type_params i;
        type_def = undo_definition d.type_def i;
        docs = undo_list to_text on_text texts d.docs i;
      }

-- portable descriptions of one content, by ids and bytes, are equal
pub portable_content :
    (a b : portable.Description)
    → content (λ (symbol : portable.Id). symbol.id) (λ text. text) a
    ≡ content (λ (symbol : portable.Id). symbol.id) (λ text. text) b → a ≡ b
portable_content =
    one_reading (map_description (λ id. record { id = id; marker = record {} }) (λ text. text))
    (content (λ symbol. symbol.id) (λ text. text))
    (undo_description (λ id. record { id = id; marker = record {} }) (λ symbol. symbol.id) (λ text. text) (λ text. text) (λ symbol. refl) (λ text. refl))
