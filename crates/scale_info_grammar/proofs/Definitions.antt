-- Definitions written and read.
use Rattle.std.proofs.Common.{◌≡◌, ℕ, ◌≤◌, ◌<◌, lit<, List, ◌∷◌, ◌++◌, refl, sym, ap}
use Rattle.std.proofs.Common.{subst, ◌∙◌, arith}
use Rattle.scale_info_types.specs.Orders.{definition_index}
use Rattle.scale_info_types.specs.Portable as portable
use Rattle.scale_info_types.specs.declared.ty.TypeDef.TheVariants as def
use Rattle.scale_info_bytes.specs.Encodings.{AppendsEncoding, HasPrefix, HasNoPrefix, HasNoEncoding}
use Rattle.scale_info_bytes.specs.Parts.{HasIndex}
use Rattle.scale_info_grammar.specs.Ty.{EncodesComposite, EncodesVariants, EncodesSequence}
use Rattle.scale_info_grammar.specs.Ty.{EncodesArray, EncodesTuple, EncodesPrimitive}
use Rattle.scale_info_grammar.specs.Ty.{EncodesCompactType, EncodesBitSequence, EncodesMap}
use Rattle.scale_info_grammar.specs.Ty.{EncodesTypeDefWithIndex, composite, variant, sequence}
use Rattle.scale_info_grammar.specs.Ty.{array}
use Rattle.scale_info_grammar.specs.Ty.{tuple, primitive, compact, bit_sequence, map}
use Rattle.scale_info_grammar.specs.Ty.{EncodesTypeDef}
use Rattle.scale_info_bytes.proofs.Index.{BeginsWith, prefix_past_index, after}
use Rattle.scale_info_bytes.proofs.Steps.{prefix_map}

-- after its index, the bytes encode what a definition holds
abbrev pub EncodesParts : portable.TypeDef → List ℕ → Type 0
EncodesParts (def.Composite d) b = EncodesComposite d b
EncodesParts (def.Variant d) b = EncodesVariants d b
EncodesParts (def.Sequence d) b = EncodesSequence d b
EncodesParts (def.Array d) b = EncodesArray d b
EncodesParts (def.Tuple d) b = EncodesTuple d b
EncodesParts (def.Primitive d) b = EncodesPrimitive d b
EncodesParts (def.Compact d) b = EncodesCompactType d b
EncodesParts (def.BitSequence d) b = EncodesBitSequence d b
EncodesParts (def.Map d) b = EncodesMap d b

-- what a definition holds, encoded after its index, is the definition
with_index :
    (v : portable.TypeDef) (b : List ℕ) → EncodesParts v b
    → EncodesTypeDefWithIndex (definition_index v) v b
with_index (def.Composite d) b p = composite p
with_index (def.Variant d) b p = variant p
with_index (def.Sequence d) b p = sequence p
with_index (def.Array d) b p = array p
with_index (def.Tuple d) b p = tuple p
with_index (def.Primitive d) b p = primitive p
with_index (def.Compact d) b p = compact p
with_index (def.BitSequence d) b p = bit_sequence p
with_index (def.Map d) b p = map p

-- a definition holds what is encoded after its index
inside :
    (i : ℕ) (v : portable.TypeDef) (b : List ℕ) → EncodesTypeDefWithIndex i v b → EncodesParts v b
inside i v b (composite p) = p
inside i v b (variant p) = p
inside i v b (sequence p) = p
inside i v b (array p) = p
inside i v b (tuple p) = p
inside i v b (primitive p) = p
inside i v b (compact p) = p
inside i v b (bit_sequence p) = p
inside i v b (map p) = p

-- the index of a definition and what it holds were written: so was the definition
pub appends_definition :
    {v : portable.TypeDef} {old new : List ℕ}
    → AppendsEncoding (HasIndex (definition_index v) (EncodesParts v)) old new
    → AppendsEncoding (EncodesTypeDef v) old new
appends_definition {v} p = record {
  encoding = p.encoding;
  encodes = record {
    index = definition_index v;
    indexed = record {
      rest = p.encodes.rest;
      encodes_rest = with_index v p.encodes.rest p.encodes.encodes_rest;
      parts = p.encodes.parts;
    };
  };
  parts = p.parts;
}

-- nothing encodes what the definition holds
abbrev pub HoldsUnencoded : portable.TypeDef → Type 0
HoldsUnencoded (def.Composite d) = HasNoEncoding (EncodesComposite d)
HoldsUnencoded (def.Variant d) = HasNoEncoding (EncodesVariants d)
HoldsUnencoded (def.Sequence d) = HasNoEncoding (EncodesSequence d)
HoldsUnencoded (def.Array d) = HasNoEncoding (EncodesArray d)
HoldsUnencoded (def.Tuple d) = HasNoEncoding (EncodesTuple d)
HoldsUnencoded (def.Primitive d) = HasNoEncoding (EncodesPrimitive d)
HoldsUnencoded (def.Compact d) = HasNoEncoding (EncodesCompactType d)
HoldsUnencoded (def.BitSequence d) = HasNoEncoding (EncodesBitSequence d)
HoldsUnencoded (def.Map d) = HasNoEncoding (EncodesMap d)

not_inside : (v : portable.TypeDef) (b : List ℕ) → HoldsUnencoded v → EncodesParts v b → ⊥
not_inside (def.Composite d) b n p = n.none b p
not_inside (def.Variant d) b n p = n.none b p
not_inside (def.Sequence d) b n p = n.none b p
not_inside (def.Array d) b n p = n.none b p
not_inside (def.Tuple d) b n p = n.none b p
not_inside (def.Primitive d) b n p = n.none b p
not_inside (def.Compact d) b n p = n.none b p
not_inside (def.BitSequence d) b n p = n.none b p
not_inside (def.Map d) b n p = n.none b p

-- a definition whose parts have no encoding has none
pub no_definition_encoding :
    {v : portable.TypeDef} → HoldsUnencoded v → HasNoEncoding (EncodesTypeDef v)
no_definition_encoding {v} n = record {
  none = λ text q.
      not_inside v q.indexed.rest n (inside q.index v q.indexed.rest q.indexed.encodes_rest);
}

-- what is said of a definition that is written as its index and what it holds
pub ruleset parts_written = (appends_definition, no_definition_encoding)

-- ---- reading

-- the bytes encode some value
pub record EncodesSome {A : Type 0} (S : A → List ℕ → Type 0) (b : List ℕ) : Type 0 where
  pub value : A
  pub encodes : S value b

-- an input that begins with no S begins with no R, if what encodes an R encodes some S
pub no_prefix_map :
    {A B : Type 0} {S : A → List ℕ → Type 0} {R : B → List ℕ → Type 0} {a : List ℕ}
    → ((v : B) (b : List ℕ) → R v b → EncodesSome S b) → HasNoPrefix S a → HasNoPrefix R a
no_prefix_map f n = record {
  none = λ v rest p.
      let h = f v p.encoding p.encodes in
      n.none h.value rest (record { encoding = p.encoding; encodes = h.encodes; parts = p.parts });
}

-- the index of a definition is below 9
pub below_nine : (i : ℕ) (v : portable.TypeDef) (b : List ℕ) → EncodesTypeDefWithIndex i v b → i < 9
below_nine i v b (composite p) = lit< tt
below_nine i v b (variant p) = lit< tt
below_nine i v b (sequence p) = lit< tt
below_nine i v b (array p) = lit< tt
below_nine i v b (tuple p) = lit< tt
below_nine i v b (primitive p) = lit< tt
below_nine i v b (compact p) = lit< tt
below_nine i v b (bit_sequence p) = lit< tt
below_nine i v b (map p) = lit< tt

-- an index from 9 on is the index of no definition
pub no_definition : (i : ℕ) (a : List ℕ) → 9 ≤ i → HasNoPrefix (EncodesTypeDefWithIndex i) a
no_definition i a l = record {
  none = λ v rest p. let h = below_nine i v p.encoding p.encodes in omega arith;
}

-- what is encoded after this index is a value that S encodes
abbrev Holds : {A : Type 0} → ℕ → (A → List ℕ → Type 0) → Type 0
Holds i S = (v : portable.TypeDef) (b : List ℕ) → EncodesTypeDefWithIndex i v b → EncodesSome S b

-- what is encoded after each index

-- the bytes of a composite
pub at_composite : Holds 0 EncodesComposite
at_composite v b (composite {d} p) = record { value = d; encodes = p }

-- the bytes of an enum
pub at_variant : Holds 1 EncodesVariants
at_variant v b (variant {d} p) = record { value = d; encodes = p }

-- what a definition holds, encoded after its index, is the definition
pub encodes_at :
    {v : portable.TypeDef} {b : List ℕ} (i : ℕ) → i ≡ definition_index v → EncodesParts v b
    → EncodesTypeDefWithIndex i v b
encodes_at {v} {b} i e p =
    subst (λ n. EncodesTypeDefWithIndex n v b) (sym e) (with_index v b p)

-- an input that begins with what a definition holds begins with the definition, after its index
pub prefix_parts :
    {v : portable.TypeDef} {a c : List ℕ} (i : ℕ) → i ≡ definition_index v
    → HasPrefix (EncodesParts v) a c → HasPrefix (EncodesTypeDefWithIndex i v) a c
prefix_parts i e p = prefix_map (λ b q. encodes_at i e q) p

-- a prefix for a definition with one index is one for an equal index
pub prefix_at :
    {v : portable.TypeDef} {a c : List ℕ} (i k : ℕ) → i ≡ k
    → HasPrefix (EncodesTypeDefWithIndex k v) a c → HasPrefix (EncodesTypeDefWithIndex i v) a c
prefix_at {v} {a} {c} i k e p = subst (λ n. HasPrefix (EncodesTypeDefWithIndex n v) a c) (sym e) p

-- an input that begins with nothing that S encodes begins with no definition, after the index at
-- which S stands
pub no_parts :
    {A : Type 0} {S : A → List ℕ → Type 0} {a : List ℕ} {i k : ℕ} → Holds k S → i ≡ k
    → HasNoPrefix S a → HasNoPrefix (EncodesTypeDefWithIndex i) a
no_parts {a = a} held e n =
    subst (λ m. HasNoPrefix (EncodesTypeDefWithIndex m) a) (sym e) (no_prefix_map held n)

-- the input begins with nothing that is encoded after this index
pub data HasNoParts : ℕ → List ℕ → Type 0 where
  no_composite : {a : List ℕ} → HasNoPrefix EncodesComposite a → HasNoParts 0 a
  no_variant : {a : List ℕ} → HasNoPrefix EncodesVariants a → HasNoParts 1 a
  no_sequence : {a : List ℕ} → HasNoPrefix EncodesSequence a → HasNoParts 2 a
  no_array : {a : List ℕ} → HasNoPrefix EncodesArray a → HasNoParts 3 a
  no_tuple : {a : List ℕ} → HasNoPrefix EncodesTuple a → HasNoParts 4 a
  no_primitive : {a : List ℕ} → HasNoPrefix EncodesPrimitive a → HasNoParts 5 a
  no_compact : {a : List ℕ} → HasNoPrefix EncodesCompactType a → HasNoParts 6 a
  no_bit_sequence : {a : List ℕ} → HasNoPrefix EncodesBitSequence a → HasNoParts 7 a
  no_map : {a : List ℕ} → HasNoPrefix EncodesMap a → HasNoParts 8 a

module _ (a b rest : List ℕ) (e : a ≡ b ++ rest) where
  no_part :
      {A : Type 0} {S : A → List ℕ → Type 0} (v : A) → HasNoPrefix S a → S v b → ⊥
  no_part v n p = n.none v rest (record { encoding = b; encodes = p; parts = e })

  no_parts_here :
      (i : ℕ) (v : portable.TypeDef) → HasNoParts i a → EncodesTypeDefWithIndex i v b → ⊥
  no_parts_here i v (no_composite n) (composite p) = no_part _ n p
  no_parts_here i v (no_variant n) (variant p) = no_part _ n p
  no_parts_here i v (no_sequence n) (sequence p) = no_part _ n p
  no_parts_here i v (no_array n) (array p) = no_part _ n p
  no_parts_here i v (no_tuple n) (tuple p) = no_part _ n p
  no_parts_here i v (no_primitive n) (primitive p) = no_part _ n p
  no_parts_here i v (no_compact n) (compact p) = no_part _ n p
  no_parts_here i v (no_bit_sequence n) (bit_sequence p) = no_part _ n p
  no_parts_here i v (no_map n) (map p) = no_part _ n p

-- an input that begins with nothing that is encoded after this index begins with no definition,
-- after the index
pub no_parts_at : {i : ℕ} {a : List ℕ} → HasNoParts i a → HasNoPrefix (EncodesTypeDefWithIndex i) a
no_parts_at {i} {a} n = record {
  none = λ v rest p. no_parts_here a p.encoding rest p.parts i v n p.encodes;
}

-- what is said of an input after each index
pub ruleset parts_read = (
  prefix_parts,
  no_parts_at,
  no_definition,
  no_composite,
  no_variant,
  no_sequence,
  no_array,
  no_tuple,
  no_primitive,
  no_compact,
  no_bit_sequence,
  no_map,
)

-- ---- the index and the parts

-- an index byte, and then what is encoded after it, make a definition
pub prefix_definition :
    {v : portable.TypeDef} {input rest : List ℕ} (i : ℕ) → BeginsWith i input
    → HasPrefix (EncodesTypeDefWithIndex i v) (after input) rest
    → HasPrefix (EncodesTypeDef v) input rest
prefix_definition i b p = record {
  encoding = i ∷ p.encoding;
  encodes = record {
    index = i;
    indexed = record { rest = p.encoding; encodes_rest = p.encodes; parts = refl };
  };
  parts = b.is ∙ ap (λ t. i ∷ t) p.parts;
}

-- no definition with that index after an index byte: no definition begins the input
pub no_prefix_definition :
    {input : List ℕ} (i : ℕ) → BeginsWith i input
    → HasNoPrefix (EncodesTypeDefWithIndex i) (after input) → HasNoPrefix EncodesTypeDef input
no_prefix_definition i b n = record {
  none = λ v rest p.
      let h =
      prefix_past_index b
      (record { encoding = p.encoding; encodes = p.encodes.indexed; parts = p.parts }) in
      n.none v rest (prefix_at i p.encodes.index h.0 h.1);
}
