-- The laws of encodings of descriptions.
use Rattle.std.specs.Prelude.{◌≡◌, ℕ, ◌<◌, List, [], ◌∷◌, ◌++◌, Option}
use Rattle.std.proofs.Common.{ap, sym, ◌∙◌, refl, subst, lit<}
use Rattle.std.specs.List.{AllByRecursion}
use Rattle.scale_info_types.specs.Portable as portable
use Rattle.scale_info_types.specs.Portable.{Id, Text}
use Rattle.scale_info_type_ids.specs.declared.impls.Compact.{Compact}
use Rattle.scale_info_types.specs.declared.ty.PortableType.{PortableType}
use Rattle.scale_info_types.specs.declared.ty.TypeDef.TheVariants as def
use Rattle.scale_info_primitives.specs.declared.primitive.TypeDefPrimitive.{TypeDefPrimitive}
use Rattle.scale_info_bytes.specs.Encodings.{IsEncoding, IsByte}
use Rattle.scale_info_bytes.specs.IntegerLaws.{u8_law, u32_law}
use Rattle.scale_info_bytes.specs.CompactLaws.{compact_law}
use Rattle.scale_info_bytes.specs.StringLaws.{text_law}
use Rattle.scale_info_bytes.specs.PartLaws.{pair_law, through_law, option_law, list_law}
use Rattle.scale_info_grammar.specs.Ty.{EncodesId, EncodesPath, EncodesParameter, parameter_parts}
use Rattle.scale_info_grammar.specs.Ty.{EncodesField, field_parts, EncodesVariant, variant_parts}
use Rattle.scale_info_grammar.specs.Ty.{IsPrimitiveByte, bool, char, str, u8, u16, u32, u64, u128}
use Rattle.scale_info_grammar.specs.Ty.{u256, i8, i16, i32, i64, i128, i256, EncodesPrimitive}
use Rattle.scale_info_grammar.specs.Ty.{EncodesTypeDefWithIndex, composite, variant, sequence}
use Rattle.scale_info_grammar.specs.Ty.{array}
use Rattle.scale_info_grammar.specs.Ty.{tuple, primitive, compact, bit_sequence, map}
use Rattle.scale_info_grammar.specs.Ty.{EncodesTypeDef}
use Rattle.scale_info_grammar.specs.Ty.{EncodesDescription, description_parts, EncodesPortableType}
use Rattle.scale_info_grammar.specs.Ty.{portable_type_parts, EncodesComposite, EncodesVariants}
use Rattle.scale_info_grammar.specs.Ty.{EncodesSequence, EncodesArray, EncodesTuple, array_parts}
use Rattle.scale_info_grammar.specs.Ty.{EncodesCompactType, EncodesBitSequence, EncodesMap}
use Rattle.scale_info_grammar.specs.Ty.{bit_sequence_parts, map_parts}

-- EncodesId is an encoding of ids
pub id_law : IsEncoding EncodesId
id_law = through_law (λ v. v.id) (λ v w e i. record { id = e i; marker = v.marker }) compact_law

-- ---- values by their parts

-- the path of these segments
abbrev pub path_of : List Text → portable.Path
path_of segments = record { segments = segments; form = tt }

-- the composite of these fields
abbrev pub composite_of : List portable.Field → portable.TypeDefComposite
composite_of fields = record { fields = fields }

-- the enum of these variants
abbrev pub variants_of : List portable.Variant → portable.TypeDefVariant
variants_of variants = record { variants = variants }

-- the parameter with this name and type
abbrev pub parameter_of : Text × Option Id → portable.TypeParameter
parameter_of parts = record { name = parts.0; ty = parts.1 }

-- the sequence of this type
abbrev pub sequence_of : Id → portable.TypeDefSequence
sequence_of id = record { type_param = id; form = tt }

-- the array of this length and type
abbrev pub array_of : ℕ × Id → portable.TypeDefArray
array_of parts = record { len = parts.0; type_param = parts.1; form = tt }

-- the tuple of these types
abbrev pub tuple_of : List Id → portable.TypeDefTuple
tuple_of ids = record { fields = ids; form = tt }

-- the bit sequence of this store and order
abbrev pub bit_sequence_of : Id × Id → portable.TypeDefBitSequence
bit_sequence_of ids = record { bit_store_type = ids.0; bit_order_type = ids.1; form = tt }

-- the compact integer of this type
abbrev pub compact_of : Id → portable.TypeDefCompact
compact_of id = record { type_param = id; form = tt }

-- the map of this key and value
abbrev pub map_of : Id × Id → portable.TypeDefMap
map_of ids = record { key = ids.0; value = ids.1; form = tt }

-- the entry with this id and description
abbrev pub entry_of : Compact ℕ × portable.Description → PortableType
entry_of parts = record { id = parts.0.0; ty = parts.1 }

-- ---- encodings of the parts of descriptions

-- EncodesPath is an encoding of paths
pub path_law : IsEncoding EncodesPath
path_law = through_law (λ v. v.segments) (λ v w e. ap path_of e) (list_law text_law)

-- EncodesParameter is an encoding of parameters
pub parameter_law : IsEncoding EncodesParameter
parameter_law =
    through_law parameter_parts (λ v w e. ap parameter_of e)
    (pair_law text_law (option_law id_law))

-- EncodesField is an encoding of fields
pub field_law : IsEncoding EncodesField
field_law = through_law field_parts
    (λ v w e i.
    record { name = (e i).0; ty = (e i).1.0; type_name = (e i).1.1.0; docs = (e i).1.1.1 })
    (pair_law (option_law text_law)
    (pair_law id_law (pair_law (option_law text_law) (list_law text_law))))

-- EncodesVariant is an encoding of variants
pub variant_law : IsEncoding EncodesVariant
variant_law = through_law variant_parts
    (λ v w e i.
    record { name = (e i).0; fields = (e i).1.0; index = (e i).1.1.0; docs = (e i).1.1.1 })
    (pair_law text_law (pair_law (list_law field_law) (pair_law u8_law (list_law text_law))))

-- EncodesComposite is an encoding of composites
pub composite_law : IsEncoding EncodesComposite
composite_law = through_law (λ v. v.fields) (λ v w e. ap composite_of e) (list_law field_law)

-- EncodesVariants is an encoding of enums
pub variants_law : IsEncoding EncodesVariants
variants_law = through_law (λ v. v.variants) (λ v w e. ap variants_of e) (list_law variant_law)

-- EncodesSequence is an encoding of sequences
pub sequence_law : IsEncoding EncodesSequence
sequence_law = through_law (λ v. v.type_param) (λ v w e. ap sequence_of e) id_law

-- EncodesArray is an encoding of arrays
pub array_law : IsEncoding EncodesArray
array_law = through_law array_parts (λ v w e. ap array_of e) (pair_law u32_law id_law)

-- EncodesTuple is an encoding of tuples
pub tuple_law : IsEncoding EncodesTuple
tuple_law = through_law (λ v. v.fields) (λ v w e. ap tuple_of e) (list_law id_law)

-- EncodesCompactType is an encoding of compact integers
pub compact_type_law : IsEncoding EncodesCompactType
compact_type_law = through_law (λ v. v.type_param) (λ v w e. ap compact_of e) id_law

-- EncodesBitSequence is an encoding of bit sequences
pub bit_sequence_law : IsEncoding EncodesBitSequence
bit_sequence_law =
    through_law bit_sequence_parts (λ v w e. ap bit_sequence_of e) (pair_law id_law id_law)

-- EncodesMap is an encoding of maps
pub map_law : IsEncoding EncodesMap
map_law = through_law map_parts (λ v w e. ap map_of e) (pair_law id_law id_law)

-- ---- primitives

primitive_one : (i j : ℕ) (v : TypeDefPrimitive) → IsPrimitiveByte i v → IsPrimitiveByte j v → i ≡ j
primitive_one i j v bool bool = refl
primitive_one i j v char char = refl
primitive_one i j v str str = refl
primitive_one i j v u8 u8 = refl
primitive_one i j v u16 u16 = refl
primitive_one i j v u32 u32 = refl
primitive_one i j v u64 u64 = refl
primitive_one i j v u128 u128 = refl
primitive_one i j v u256 u256 = refl
primitive_one i j v i8 i8 = refl
primitive_one i j v i16 i16 = refl
primitive_one i j v i32 i32 = refl
primitive_one i j v i64 i64 = refl
primitive_one i j v i128 i128 = refl
primitive_one i j v i256 i256 = refl

primitive_same :
    (i : ℕ) (v w : TypeDefPrimitive) → IsPrimitiveByte i v → IsPrimitiveByte i w → v ≡ w
primitive_same i v w bool bool = refl
primitive_same i v w char char = refl
primitive_same i v w str str = refl
primitive_same i v w u8 u8 = refl
primitive_same i v w u16 u16 = refl
primitive_same i v w u32 u32 = refl
primitive_same i v w u64 u64 = refl
primitive_same i v w u128 u128 = refl
primitive_same i v w u256 u256 = refl
primitive_same i v w i8 i8 = refl
primitive_same i v w i16 i16 = refl
primitive_same i v w i32 i32 = refl
primitive_same i v w i64 i64 = refl
primitive_same i v w i128 i128 = refl
primitive_same i v w i256 i256 = refl

primitive_byte : (i : ℕ) (v : TypeDefPrimitive) → IsPrimitiveByte i v → i < 256
primitive_byte i v bool = lit< tt
primitive_byte i v char = lit< tt
primitive_byte i v str = lit< tt
primitive_byte i v u8 = lit< tt
primitive_byte i v u16 = lit< tt
primitive_byte i v u32 = lit< tt
primitive_byte i v u64 = lit< tt
primitive_byte i v u128 = lit< tt
primitive_byte i v u256 = lit< tt
primitive_byte i v i8 = lit< tt
primitive_byte i v i16 = lit< tt
primitive_byte i v i32 = lit< tt
primitive_byte i v i64 = lit< tt
primitive_byte i v i128 = lit< tt
primitive_byte i v i256 = lit< tt

primitive_prefix_free :
    (v w : TypeDefPrimitive) (b c x y : List ℕ) → EncodesPrimitive v b → EncodesPrimitive w c
    → b ++ x ≡ c ++ y → (b ≡ c) × (v ≡ w)
primitive_prefix_free v w b c x y p q e =
    let h : p.byte ∷ x ≡ q.byte ∷ y = sym (ap (λ t. t ++ x) p.is) ∙ e ∙ ap (λ t. t ++ y) q.is in
    let k : p.byte ≡ q.byte = cc in (
      p.is ∙ ap (λ n. n ∷ []) k ∙ sym q.is,
      primitive_same q.byte v w (subst (λ n. IsPrimitiveByte n v) k p.stands_for) q.stands_for,
    )

-- EncodesPrimitive is an encoding of primitives
pub primitive_law : IsEncoding EncodesPrimitive
primitive_law = record {
  one = λ v b c p q.
      p.is ∙ ap (λ n. n ∷ []) (primitive_one _ _ v p.stands_for q.stands_for) ∙ sym q.is;
  prefix_free = primitive_prefix_free;
  bytes = λ v b p. rw p.is (primitive_byte _ v p.stands_for, tt);
}

-- ---- definitions

index_one :
    (i j : ℕ) (v : portable.TypeDef) (b c : List ℕ) → EncodesTypeDefWithIndex i v b
    → EncodesTypeDefWithIndex j v c → (i ≡ j) × (b ≡ c)
index_one i j v b c (composite p) (composite q) = (refl, (list_law field_law).one _ b c p q)
index_one i j v b c (variant p) (variant q) = (refl, (list_law variant_law).one _ b c p q)
index_one i j v b c (sequence p) (sequence q) = (refl, id_law.one _ b c p q)
index_one i j v b c (array p) (array q) = (refl, (pair_law u32_law id_law).one _ b c p q)
index_one i j v b c (tuple p) (tuple q) = (refl, (list_law id_law).one _ b c p q)
index_one i j v b c (primitive p) (primitive q) = (refl, primitive_law.one _ b c p q)
index_one i j v b c (compact p) (compact q) = (refl, id_law.one _ b c p q)
index_one i j v b c (bit_sequence p) (bit_sequence q) =
    (refl, (pair_law id_law id_law).one _ b c p q)
index_one i j v b c (map p) (map q) = (refl, (pair_law id_law id_law).one _ b c p q)

module _ (x y : List ℕ) where
  under_index :
      {A : Type 0} {S : A → List ℕ → Type 0} {b c : List ℕ} (make : A → portable.TypeDef)
      → IsEncoding S → (v w : A) → S v b → S w c → b ++ x ≡ c ++ y → (b ≡ c) × (make v ≡ make w)
  under_index make law v w p q e = let h = law.prefix_free v w _ _ x y p q e in (h.0, ap make h.1)

  -- after one index byte
  index_free :
      {i : ℕ} {v w : portable.TypeDef} {b c : List ℕ} → EncodesTypeDefWithIndex i v b
      → EncodesTypeDefWithIndex i w c → b ++ x ≡ c ++ y → (b ≡ c) × (v ≡ w)
  index_free (composite {d} p) (composite {d = f} q) =
      under_index def.Composite composite_law d f p q
  index_free (variant {d} p) (variant {d = f} q) = under_index def.Variant variants_law d f p q
  index_free (sequence {d} p) (sequence {d = f} q) = under_index def.Sequence sequence_law d f p q
  index_free (array {d} p) (array {d = f} q) = under_index def.Array array_law d f p q
  index_free (tuple {d} p) (tuple {d = f} q) = under_index def.Tuple tuple_law d f p q
  index_free (primitive {p = d} p) (primitive {p = f} q) =
      under_index def.Primitive primitive_law d f p q
  index_free (compact {d} p) (compact {d = f} q) = under_index def.Compact compact_type_law d f p q
  index_free (bit_sequence {d} p) (bit_sequence {d = f} q) =
      under_index def.BitSequence bit_sequence_law d f p q
  index_free (map {d} p) (map {d = f} q) = under_index def.Map map_law d f p q

index_bytes :
    (i : ℕ) (v : portable.TypeDef) (b : List ℕ) → EncodesTypeDefWithIndex i v b
    → (i < 256) × AllByRecursion IsByte b
index_bytes i v b (composite p) = (lit< tt, (list_law field_law).bytes _ b p)
index_bytes i v b (variant p) = (lit< tt, (list_law variant_law).bytes _ b p)
index_bytes i v b (sequence p) = (lit< tt, id_law.bytes _ b p)
index_bytes i v b (array p) = (lit< tt, (pair_law u32_law id_law).bytes _ b p)
index_bytes i v b (tuple p) = (lit< tt, (list_law id_law).bytes _ b p)
index_bytes i v b (primitive p) = (lit< tt, primitive_law.bytes _ b p)
index_bytes i v b (compact p) = (lit< tt, id_law.bytes _ b p)
index_bytes i v b (bit_sequence p) = (lit< tt, (pair_law id_law id_law).bytes _ b p)
index_bytes i v b (map p) = (lit< tt, (pair_law id_law id_law).bytes _ b p)

type_def_one :
    (v : portable.TypeDef) (b c : List ℕ) → EncodesTypeDef v b → EncodesTypeDef v c → b ≡ c
type_def_one v b c p q =
    let h = index_one _ _ v _ _ p.indexed.encodes_rest q.indexed.encodes_rest in
    p.indexed.parts ∙ ap (λ n. n ∷ p.indexed.rest) h.0 ∙ ap (λ t. q.index ∷ t) h.1
    ∙ sym q.indexed.parts

type_def_prefix_free :
    (v w : portable.TypeDef) (b c x y : List ℕ) → EncodesTypeDef v b → EncodesTypeDef w c
    → b ++ x ≡ c ++ y → (b ≡ c) × (v ≡ w)
type_def_prefix_free v w b c x y p q e =
    let h : p.index ∷ (p.indexed.rest ++ x) ≡ q.index ∷ (q.indexed.rest ++ y) =
    sym (ap (λ t. t ++ x) p.indexed.parts) ∙ e ∙ ap (λ t. t ++ y) q.indexed.parts in
    let k : p.index ≡ q.index = cc in
    let t : p.indexed.rest ++ x ≡ q.indexed.rest ++ y = cc in
    let f =
    index_free x y
    (subst (λ n. EncodesTypeDefWithIndex n v p.indexed.rest) k p.indexed.encodes_rest)
    q.indexed.encodes_rest t in (
      p.indexed.parts ∙ ap (λ n. n ∷ p.indexed.rest) k ∙ ap (λ t. q.index ∷ t) f.0
          ∙ sym q.indexed.parts,
      f.1,
    )

type_def_bytes : (v : portable.TypeDef) (b : List ℕ) → EncodesTypeDef v b → AllByRecursion IsByte b
type_def_bytes v b p =
    rw p.indexed.parts (index_bytes p.index v p.indexed.rest p.indexed.encodes_rest)

-- EncodesTypeDef is an encoding of definitions
pub type_def_law : IsEncoding EncodesTypeDef
type_def_law = record {
  one = type_def_one;
  prefix_free = type_def_prefix_free;
  bytes = type_def_bytes;
}

-- EncodesDescription is an encoding of descriptions
pub description_law : IsEncoding EncodesDescription
description_law = through_law description_parts
    (λ v w e i.
    record {
      path = (e i).0;
      type_params = (e i).1.0;
      type_def = (e i).1.1.0;
      docs = (e i).1.1.1;
    })
    (pair_law path_law
    (pair_law (list_law parameter_law) (pair_law type_def_law (list_law text_law))))

-- EncodesPortableType is an encoding of entries of tables
pub portable_type_law : IsEncoding EncodesPortableType
portable_type_law =
    through_law portable_type_parts (λ v w e. ap entry_of e)
    (pair_law (through_law (λ n. n.0) (λ v w e i. record { 0 = e i }) compact_law) description_law)
