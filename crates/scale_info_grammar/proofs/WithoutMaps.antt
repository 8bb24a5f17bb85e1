-- What the grammar without maps says to encode a table encodes the same table by the whole grammar.
use Rattle.std.proofs.Common.{ℕ, List, [], ◌∷◌}
use Rattle.scale_info_grammar.specs.Ty as whole
use Rattle.scale_info_grammar.specs.Ty.{description_parts, portable_type_parts}
use Rattle.scale_info_bytes.specs.Parts.{EncodesItems, EncodesList, EncodesPair}
use Rattle.scale_info_grammar.specs.WithoutMaps.{
  DefinitionAtWithoutMaps,
  EncodesDescriptionWithoutMaps,
  EncodesPortableTypeWithoutMaps,
  EncodesTypeDefWithoutMaps,
  array,
  bit_sequence,
  compact,
  composite,
  primitive,
  sequence,
  tuple,
  variant,
}

-- whatever the first relation says of bytes, the second one says too
abbrev pub Stays : {A : Type 0} → (A → List ℕ → Type 0) → (A → List ℕ → Type 0) → Type 0
Stays {A} S R = (v : A) (b : List ℕ) → S v b → R v b

-- pairs whose parts stay
pair_stays :
    {A B : Type 0} {S S' : A → List ℕ → Type 0} {R R' : B → List ℕ → Type 0}
    → Stays S S' → Stays R R' → Stays (EncodesPair S R) (EncodesPair S' R')
pair_stays first second v b p = record {
  both = record {
    first = p.both.first;
    second = p.both.second;
    encodes_first = first v.0 p.both.first p.both.encodes_first;
    encodes_second = second v.1 p.both.second p.both.encodes_second;
    parts = p.both.parts;
  };
}

items_stay :
    {A : Type 0} {S R : A → List ℕ → Type 0} → Stays S R → Stays (EncodesItems S) (EncodesItems R)
items_stay each [] b none = none
items_stay each (v ∷ vs) b both = record {
  first = both.first;
  second = both.second;
  encodes_first = each v both.first both.encodes_first;
  encodes_second = items_stay each vs both.second both.encodes_second;
  parts = both.parts;
}

-- lists whose items stay
list_stays :
    {A : Type 0} {S R : A → List ℕ → Type 0} → Stays S R → Stays (EncodesList S) (EncodesList R)
list_stays each vs b both = record {
  first = both.first;
  second = both.second;
  encodes_first = both.encodes_first;
  encodes_second = items_stay each vs both.second both.encodes_second;
  parts = both.parts;
}

definition_at_stays : (i : ℕ) → Stays (DefinitionAtWithoutMaps i) (whole.EncodesTypeDefWithIndex i)
definition_at_stays i v b (composite p) = whole.composite p
definition_at_stays i v b (variant p) = whole.variant p
definition_at_stays i v b (sequence p) = whole.sequence p
definition_at_stays i v b (array p) = whole.array p
definition_at_stays i v b (tuple p) = whole.tuple p
definition_at_stays i v b (primitive p) = whole.primitive p
definition_at_stays i v b (compact p) = whole.compact p
definition_at_stays i v b (bit_sequence p) = whole.bit_sequence p

definition_stays : Stays EncodesTypeDefWithoutMaps whole.EncodesTypeDef
definition_stays v b p = record {
  index = p.index;
  indexed = record {
    rest = p.indexed.rest;
    encodes_rest = definition_at_stays p.index v p.indexed.rest p.indexed.encodes_rest;
    parts = p.indexed.parts;
  };
}

description_stays : Stays EncodesDescriptionWithoutMaps whole.EncodesDescription
description_stays v b =
    pair_stays (λ path c p. p)
    (pair_stays (λ parameters c p. p) (pair_stays definition_stays (λ docs c p. p)))
    (description_parts v) b

portable_type_stays : Stays EncodesPortableTypeWithoutMaps whole.EncodesPortableType
portable_type_stays v b = pair_stays (λ id c p. p) description_stays (portable_type_parts v) b

-- the entries of a table
pub entries_stay :
    Stays (EncodesList EncodesPortableTypeWithoutMaps) (EncodesList whole.EncodesPortableType)
entries_stay = list_stays portable_type_stays
