-- The shape of a description: the description with its references taken out and its texts read as
-- bytes.
use Rattle.std.specs.Prelude.{ℕ, List, map, option_map}
use Rattle.scale_info_types.specs.declared.ty.path.Path.{Path}
use Rattle.scale_info_types.specs.declared.ty.fields.Field.{Field}
use Rattle.scale_info_types.specs.declared.ty.variant.Variant.{Variant}
use Rattle.scale_info_types.specs.declared.ty.TypeParameter.{TypeParameter}
use Rattle.scale_info_types.specs.declared.ty.TypeDef.{TypeDef}
use Rattle.scale_info_types.specs.declared.ty.TypeDef.TheVariants as def
use Rattle.scale_info_types.specs.declared.ty.Description.{Description}

-- A description read part by part: each type t becomes `on_type t`, each text s becomes
-- `on_text s`, and all else stays: the kind of definition, numbers, counts, the order of parts, and
-- which names and types are there. The form F is a name alone, so a reading may be given another
-- one, G.
module _ {F G T U S R : Type 0} (on_type : T → U) (on_text : S → R) where
  -- the path with each segment read
  abbrev pub map_path : Path F T S → Path G U R
  map_path p = record { segments = map on_text p.segments; form = tt }

  -- the parameter with its name, and its type if it has one, read
  abbrev pub map_parameter : TypeParameter F T S → TypeParameter G U R
  map_parameter p = record { name = on_text p.name; ty = option_map on_type p.ty }

  -- the field with its name, type, type name and docs read
  abbrev pub map_field : Field F T S → Field G U R
  map_field f =
      record {
        name = option_map on_text f.name;
        ty = on_type f.ty;
        type_name = option_map on_text f.type_name;
        docs = map on_text f.docs;
      }

  -- the variant with its name, fields and docs read; the index stays
  abbrev pub map_variant : Variant F T S → Variant G U R
  map_variant v =
      record {
        name = on_text v.name;
        fields = map map_field v.fields;
        index = v.index;
        docs = map on_text v.docs;
      }

  -- the definition with its types, fields and variants read
  abbrev pub map_definition : TypeDef F T S → TypeDef G U R
  map_definition (def.Composite d) = def.Composite (record { fields = map map_field d.fields })
  map_definition (def.Variant d) = def.Variant (record { variants = map map_variant d.variants })
  map_definition (def.Sequence d) =
      def.Sequence (record { type_param = on_type d.type_param; form = tt })
  map_definition (def.Array d) =
      def.Array (record { len = d.len; type_param = on_type d.type_param; form = tt })
  map_definition (def.Tuple d) = def.Tuple (record { fields = map on_type d.fields; form = tt })
  map_definition (def.Primitive p) = def.Primitive p
  map_definition (def.Compact d) =
      def.Compact (record { type_param = on_type d.type_param; form = tt })
  map_definition (def.BitSequence d) =
      def.BitSequence (record {
        bit_store_type = on_type d.bit_store_type;
        bit_order_type = on_type d.bit_order_type;
        form = tt;
      })
  map_definition (def.Map d) =
      def.Map (record { key = on_type d.key; value = on_type d.value; form = tt })

  -- the description with all its parts read
  abbrev pub map_description : Description F T S → Description G U R
  map_description d =
      record {
        path = map_path d.path;
        type_params = map map_parameter d.type_params;
        type_def = map_definition d.type_def;
        docs = map on_text d.docs;
      }

-- a shape: a description whose references are all alike and whose texts are lists of bytes, in no
-- form
abbrev pub Shape : Type 0
Shape = Description (Unit {0}) (Unit {0}) (List ℕ)

-- the shape of a description, where `text` gives the bytes of a text; shapes of both forms can be
-- equal
abbrev pub shape : {F T S : Type 0} → (S → List ℕ) → Description F T S → Shape
shape text d = map_description (λ _. tt) text d

-- the contents of a description: each type read as what it stands for, each text as its bytes, in
-- no form
abbrev pub content :
    {F T S R : Type 0}
    → (T → R) → (S → List ℕ) → Description F T S → Description (Unit {0}) R (List ℕ)
content reference text d = map_description reference text d
