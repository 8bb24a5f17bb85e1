-- What is within the limits has an encoding.
use Rattle.std.proofs.Common.{ℕ, ◌<◌, ◌^◌, List, [], ◌∷◌, ◌++◌, length, Option, Some, None, refl}
use Rattle.std.proofs.Common.{inl, inr}
use Rattle.std.proofs.lemmas.Bool.{cases_lt}
use Rattle.std.specs.List.{AllByRecursion}
use Rattle.scale_info_types.specs.Portable as portable
use Rattle.scale_info_types.specs.Portable.{Id, Text}
use Rattle.scale_info_types.specs.declared.ty.PortableType.{PortableType}
use Rattle.scale_info_types.specs.declared.ty.TypeDef.TheVariants as def
use Rattle.scale_info_primitives.specs.declared.primitive.TypeDefPrimitive.{TypeDefPrimitive}
use Rattle.scale_info_primitives.specs.declared.primitive.TypeDefPrimitive.TheVariants as kind
use Rattle.scale_info_grammar.specs.Ty as described
use Rattle.scale_info_grammar.specs.Ty.{
  EncodesTypeDefWithIndex,
  IsPrimitiveByte,
  EncodesDescription,
  EncodesField,
  EncodesId,
  EncodesParameter,
  EncodesPath,
  EncodesPortableType,
  EncodesPrimitive,
  EncodesTypeDef,
  EncodesVariant,
}
use Rattle.scale_info_grammar.specs.Limits.{
  AreEntriesWithinLimits,
  IsDefinitionWithinLimits,
  IsDescriptionWithinLimits,
  IsEntryWithinLimits,
  IsFieldWithinLimits,
  IsIdWithinLimits,
  IsListWithinLimits,
  IsOptionWithinLimits,
  IsParameterWithinLimits,
  IsPathWithinLimits,
  IsTextWithinLimits,
  IsVariantWithinLimits,
}
use Rattle.scale_info_bytes.specs.Integers.{
  EncodesCompact,
  EncodesU32,
  EncodesU8,
  in_five,
  in_four,
  in_one,
  in_two,
}
use Rattle.scale_info_bytes.specs.PartLaws.{concatenation}
use Rattle.scale_info_bytes.specs.Parts.{EncodesItems, EncodesList, EncodesOption, EncodesPair}
use Rattle.scale_info_bytes.specs.Strings.{EncodesText}

-- some bytes encode the value
pub record HasEncoding {A : Type 0} (S : A → List ℕ → Type 0) (v : A) : Type 0 where
  pub bytes : List ℕ
  pub encodes : S v bytes

has_compact : (n : ℕ) → n < 2 ^ 32 → HasEncoding EncodesCompact n
has_compact n fits =
    elim (cases_lt n 64) [
      | inl below_64 ↦ record { bytes = _; encodes = in_one below_64 refl }
      | inr from_64 ↦ elim (cases_lt n 16384) [
        | inl below_16384 ↦ record { bytes = _; encodes = in_two from_64 below_16384 refl }
        | inr from_16384 ↦ elim (cases_lt n 1073741824) [
          | inl short ↦ record { bytes = _; encodes = in_four from_16384 short refl }
          | inr long ↦ record { bytes = _; encodes = in_five long fits refl }
        ]
      ]
    ]

has_u8 : (n : ℕ) → n < 256 → HasEncoding EncodesU8 n
has_u8 n fits = record { bytes = n ∷ []; encodes = record { fits = fits; is = refl } }

has_u32 : (n : ℕ) → n < 2 ^ 32 → HasEncoding EncodesU32 n
has_u32 n fits = record { bytes = _; encodes = record { fits = fits; is = refl } }

has_pair :
    {A B : Type 0} {S : A → List ℕ → Type 0} {R : B → List ℕ → Type 0} (v : A) (w : B)
    → HasEncoding S v → HasEncoding R w → HasEncoding (EncodesPair S R) (v, w)
has_pair v w first second = record {
  bytes = first.bytes ++ second.bytes;
  encodes = record {
    both = concatenation _ _ first.encodes second.encodes;
  };
}

has_option :
    {A : Type 0} {F : A → Type 0} {S : A → List ℕ → Type 0} → ((v : A) → F v → HasEncoding S v)
    → (v : Option A) → IsOptionWithinLimits F v → HasEncoding (EncodesOption S) v
has_option each None within = record { bytes = 0 ∷ []; encodes = refl }
has_option each (Some v) within =
    let value = each v within in
    record {
      bytes = 1 ∷ value.bytes;
      encodes = record { rest = value.bytes; encodes_rest = value.encodes; parts = refl };
    }

has_items :
    {A : Type 0} {F : A → Type 0} {S : A → List ℕ → Type 0} → ((v : A) → F v → HasEncoding S v)
    → (vs : List A) → AllByRecursion F vs → HasEncoding (EncodesItems S) vs
has_items each [] within = record { bytes = []; encodes = refl }
has_items each (v ∷ vs) within =
    let first = each v within.0 in
    let rest = has_items each vs within.1 in
    record {
      bytes = first.bytes ++ rest.bytes;
      encodes = concatenation _ _ first.encodes rest.encodes;
    }

has_list :
    {A : Type 0} {F : A → Type 0} {S : A → List ℕ → Type 0} → ((v : A) → F v → HasEncoding S v)
    → (vs : List A) → IsListWithinLimits F vs → HasEncoding (EncodesList S) vs
has_list each vs within =
    let count = has_compact (length vs) within.0 in
    let items = has_items each vs within.1 in
    record {
      bytes = count.bytes ++ items.bytes;
      encodes = concatenation _ _ count.encodes items.encodes;
    }

has_text : (v : Text) → IsTextWithinLimits v → HasEncoding EncodesText v
has_text v within =
    let count = has_compact (length v) within.1 in
    record {
      bytes = count.bytes ++ v;
      encodes = record {
        utf8 = within.0;
        counted = concatenation _ _ count.encodes refl;
      };
    }

has_texts :
    (vs : List Text) → IsListWithinLimits IsTextWithinLimits vs
    → HasEncoding (EncodesList EncodesText) vs
has_texts = has_list has_text

-- a value is encoded as its parts are
by_parts :
    {A B : Type 0} {S : B → List ℕ → Type 0} {v : A} (parts : A → B) → HasEncoding S (parts v)
    → HasEncoding (λ w b. S (parts w) b) v
by_parts parts p = record { bytes = p.bytes; encodes = p.encodes }

has_id : (v : Id) → IsIdWithinLimits v → HasEncoding EncodesId v
has_id v within = by_parts (λ w. w.id) (has_compact v.id within)

has_path : (v : portable.Path) → IsPathWithinLimits v → HasEncoding EncodesPath v
has_path v within = by_parts (λ w. w.segments) (has_texts v.segments within)

has_parameter :
    (v : portable.TypeParameter) → IsParameterWithinLimits v → HasEncoding EncodesParameter v
has_parameter v within =
    by_parts described.parameter_parts
    (has_pair v.name v.ty (has_text v.name within.0) (has_option has_id v.ty within.1))

has_field : (v : portable.Field) → IsFieldWithinLimits v → HasEncoding EncodesField v
has_field v within =
    by_parts described.field_parts
    (has_pair v.name (v.ty, (v.type_name, v.docs)) (has_option has_text v.name within.0)
    (has_pair v.ty (v.type_name, v.docs) (has_id v.ty within.1)
    (has_pair v.type_name v.docs (has_option has_text v.type_name within.2)
    (has_texts v.docs within.3))))

has_variant : (v : portable.Variant) → IsVariantWithinLimits v → HasEncoding EncodesVariant v
has_variant v within =
    by_parts described.variant_parts
    (has_pair v.name (v.fields, (v.index, v.docs)) (has_text v.name within.0)
    (has_pair v.fields (v.index, v.docs) (has_list has_field v.fields within.1)
    (has_pair v.index v.docs (has_u8 v.index within.2) (has_texts v.docs within.3))))

primitive_of : (i : ℕ) (v : TypeDefPrimitive) → IsPrimitiveByte i v → HasEncoding EncodesPrimitive v
primitive_of i v stands_for =
    record { bytes = i ∷ []; encodes = record { byte = i; stands_for = stands_for; is = refl } }

has_primitive : (v : TypeDefPrimitive) → HasEncoding EncodesPrimitive v
has_primitive kind.Bool = primitive_of 0 _ described.bool
has_primitive kind.Char = primitive_of 1 _ described.char
has_primitive kind.Str = primitive_of 2 _ described.str
has_primitive kind.U8 = primitive_of 3 _ described.u8
has_primitive kind.U16 = primitive_of 4 _ described.u16
has_primitive kind.U32 = primitive_of 5 _ described.u32
has_primitive kind.U64 = primitive_of 6 _ described.u64
has_primitive kind.U128 = primitive_of 7 _ described.u128
has_primitive kind.U256 = primitive_of 8 _ described.u256
has_primitive kind.I8 = primitive_of 9 _ described.i8
has_primitive kind.I16 = primitive_of 10 _ described.i16
has_primitive kind.I32 = primitive_of 11 _ described.i32
has_primitive kind.I64 = primitive_of 12 _ described.i64
has_primitive kind.I128 = primitive_of 13 _ described.i128
has_primitive kind.I256 = primitive_of 14 _ described.i256

after_index :
    (i : ℕ) (d : portable.TypeDef) (b : List ℕ) → EncodesTypeDefWithIndex i d b
    → HasEncoding EncodesTypeDef d
after_index i d b parts = record {
  bytes = i ∷ b;
  encodes = record { index = i; indexed = record { rest = b; encodes_rest = parts; parts = refl } };
}

has_definition : (v : portable.TypeDef) → IsDefinitionWithinLimits v → HasEncoding EncodesTypeDef v
has_definition (def.Composite d) within =
    let fields = has_list has_field d.fields within in
    after_index 0 _ fields.bytes (described.composite fields.encodes)
has_definition (def.Variant d) within =
    let variants = has_list has_variant d.variants within in
    after_index 1 _ variants.bytes (described.variant variants.encodes)
has_definition (def.Sequence d) within =
    let id = has_id d.type_param within in after_index 2 _ id.bytes (described.sequence id.encodes)
has_definition (def.Array d) within =
    let parts =
    has_pair d.len d.type_param (has_u32 d.len within.0) (has_id d.type_param within.1)
    in
    after_index 3 _ parts.bytes (described.array parts.encodes)
has_definition (def.Tuple d) within =
    let ids = has_list has_id d.fields within in
    after_index 4 _ ids.bytes (described.tuple ids.encodes)
has_definition (def.Primitive v) within =
    let byte = has_primitive v in after_index 5 _ byte.bytes (described.primitive byte.encodes)
has_definition (def.Compact d) within =
    let id = has_id d.type_param within in after_index 6 _ id.bytes (described.compact id.encodes)
has_definition (def.BitSequence d) within =
    let parts =
    has_pair d.bit_store_type d.bit_order_type (has_id d.bit_store_type within.0)
    (has_id d.bit_order_type within.1)
    in
    after_index 7 _ parts.bytes (described.bit_sequence parts.encodes)
has_definition (def.Map d) within =
    let parts = has_pair d.key d.value (has_id d.key within.0) (has_id d.value within.1) in
    after_index 8 _ parts.bytes (described.map parts.encodes)

has_description :
    (v : portable.Description) → IsDescriptionWithinLimits v → HasEncoding EncodesDescription v
has_description v within =
    by_parts described.description_parts
    (has_pair v.path (v.type_params, (v.type_def, v.docs)) (has_path v.path within.0)
    (has_pair v.type_params (v.type_def, v.docs) (has_list has_parameter v.type_params within.1)
    (has_pair v.type_def v.docs (has_definition v.type_def within.2) (has_texts v.docs within.3))))

has_portable_type : (v : PortableType) → IsEntryWithinLimits v → HasEncoding EncodesPortableType v
has_portable_type v within =
    let id = has_compact v.id within.0 in
    let ty = has_description v.ty within.1 in
    record {
      bytes = id.bytes ++ ty.bytes;
      encodes = record {
        both = concatenation _ _ id.encodes ty.encodes;
      };
    }

-- entries within the limits have an encoding
pub has_entries :
    (vs : List PortableType) → AreEntriesWithinLimits vs
    → HasEncoding (EncodesList EncodesPortableType) vs
has_entries = has_list has_portable_type
