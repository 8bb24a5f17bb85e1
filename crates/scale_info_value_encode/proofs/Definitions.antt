-- Values by the definitions of their types.
use Rattle.std.proofs.Common.{◌≡◌, ℕ, ◌+◌, List, [], ◌∷◌, map, length}
use Rattle.scale_info_types.specs.Portable.{Id, Field, TypeDef}
use Rattle.scale_info_types.specs.declared.ty.TypeDef.TheVariants as def
use Rattle.scale_info_types.specs.Shapes.{map_definition, map_field}
use Rattle.scale_info_value.specs.declared.value.Value.{Value}
use Rattle.scale_info_value.specs.declared.value.Value.TheVariants as Values
use Rattle.scale_info_value.specs.Outcomes.{Decoder, unsupported, outcome_map}
use Rattle.scale_info_value.specs.Outcomes as outcomes
use Rattle.scale_info_value.specs.IntegerDecoders as integers
use Rattle.scale_info_value.specs.ValueDefinitions as values
use Rattle.scale_info_value.specs.ValueDefinitions.{Part}
use Rattle.scale_info_value_encode.specs.Writers as outcome
use Rattle.scale_info_value_encode.specs.Writers.{Writer, written, item, in_turn}
use Rattle.scale_info_value_encode.specs.IntegerWriters.{count}
use Rattle.scale_info_value_encode.specs.DefinitionWriters.{Writers, held, list_in, record_in, fields, items, members}
use Rattle.scale_info_value_encode.specs.DefinitionWriters.{pair, pairs, counted, value_by, compact_by, compact_field}
use Rattle.scale_info_value_encode.proofs.Inverse.{IsInverse, of_kind, nothing, followed, none_in_turn, one_in_turn}
use Rattle.scale_info_value_encode.proofs.Inverse.{items_at, repeated, as_many}
use Rattle.scale_info_value_encode.proofs.NamedParts.{AreInverse, fields_read_back, variants_read_back}
use Rattle.scale_info_value_encode.proofs.Primitives.{primitives, compact_primitives}
use Rattle.scale_info_value_encode.proofs.Texts.{counts}
use Rattle.scale_info_value_encode.proofs.ValueKinds.{lists, records}

-- lists after their counts are read and written
counted_read_back :
    (read : ℕ → Decoder (List Value)) (write : ℕ → Writer (List Value)) → ((n : ℕ) → IsInverse (read n) (write n))
    → ((n : ℕ) (all : List Value) (b : List ℕ) → write n all ≡ written b → length all ≡ n)
    → IsInverse (values.counted read) (counted write)
counted_read_back read write each long = followed length integers.count count read write counts each long

-- lists are read and written
list_read_back :
    (read : Decoder (List Value)) (write : Writer (List Value)) → IsInverse read write
    → IsInverse (λ input. outcome_map Values.List (read input)) (held list_in write)
list_read_back read write inverse = of_kind Values.List list_in read write lists inverse

module _ (part : Id → Part) (writers : Id → Writers) (inverse : (r : Id) → AreInverse (part r) (writers r)) where
  -- so many values of one type are read and written
  items_read_back : (r : Id) (n : ℕ) → IsInverse (values.items n (part r)) (items n (writers r))
  items_read_back r n =
      repeated n 0 (part r).value (item (writers r).value) (items_at (part r).value (writers r).value (inverse r).value)

  -- values of each type from a place on, in order, are read and written
  members_from :
      (place : ℕ) (types : List Id)
      → IsInverse (values.members (map part types)) (in_turn place (map (λ p. item p.value) (map writers types)))
  members_from place [] = none_in_turn place
  members_from place (r ∷ types) =
      one_in_turn place (part r).value (item (writers r).value) (map (λ p. p.value) (map part types))
      (map (λ p. item p.value) (map writers types)) (items_at (part r).value (writers r).value (inverse r).value place)
      (members_from (place + 1) types)

  -- values of each type in order are read and written
  members_read_back : (types : List Id) → IsInverse (values.members (map part types)) (members (map writers types))
  members_read_back types = members_from 0 types

  -- a key and a value are read and written
  pair_read_back :
      (key value : Id) → IsInverse (values.pair (part key) (part value)) (pair (writers key) (writers value))
  pair_read_back key value =
      list_read_back (outcomes.in_turn ((part key).inner ∷ (part value).inner ∷ []))
      (in_turn 0 (item (writers key).inner ∷ item (writers value).inner ∷ []))
      (one_in_turn 0 (part key).inner (item (writers key).inner) ((part value).inner ∷ []) (item (writers value).inner ∷ [])
      (items_at (part key).inner (writers key).inner (inverse key).inner 0)
      (one_in_turn 1 (part value).inner (item (writers value).inner) [] []
      (items_at (part value).inner (writers value).inner (inverse value).inner 1) (none_in_turn 2)))

  -- so many keys and values are read and written
  pairs_read_back :
      (key value : Id) (n : ℕ)
      → IsInverse (values.pairs n (part key) (part value)) (pairs n (writers key) (writers value))
  pairs_read_back key value n =
      repeated n 0 (values.pair (part key) (part value)) (item (pair (writers key) (writers value)))
      (items_at (values.pair (part key) (part value)) (pair (writers key) (writers value)) (pair_read_back key value))

  -- a value of each kind of definition is read and written
  pub values_read_back :
      (d : TypeDef)
      → IsInverse (values.value_by (map_definition {G = Unit {0}} part (λ t. t) d))
      (value_by (map_definition {G = Unit {0}} writers (λ t. t) d))
  values_read_back (def.Composite d) =
      of_kind Values.Record record_in (values.fields (map (map_field {G = Unit {0}} part (λ t. t)) d.fields))
      (fields (map (map_field {G = Unit {0}} writers (λ t. t)) d.fields)) records
      (fields_read_back part writers inverse d.fields)
  values_read_back (def.Variant d) = variants_read_back part writers inverse d.variants
  values_read_back (def.Sequence d) =
      let r = d.type_param in
      list_read_back (values.counted (λ n. values.items n (part r))) (counted (λ n. items n (writers r)))
      (counted_read_back (λ n. values.items n (part r)) (λ n. items n (writers r)) (items_read_back r)
      (λ n all b e. as_many n 0 (item (writers r).value) all b e))
  values_read_back (def.Array d) =
      let r = d.type_param in
      list_read_back (values.items d.len (part r)) (items d.len (writers r)) (items_read_back r d.len)
  values_read_back (def.Tuple d) =
      list_read_back (values.members (map part d.fields)) (members (map writers d.fields)) (members_read_back d.fields)
  values_read_back (def.Primitive p) = primitives p
  values_read_back (def.Compact d) = (inverse d.type_param).compact
  values_read_back (def.BitSequence d) = nothing unsupported outcome.unsupported
  values_read_back (def.Map d) =
      list_read_back (values.counted (λ n. values.pairs n (part d.key) (part d.value)))
      (counted (λ n. pairs n (writers d.key) (writers d.value)))
      (counted_read_back (λ n. values.pairs n (part d.key) (part d.value)) (λ n. pairs n (writers d.key) (writers d.value))
      (pairs_read_back d.key d.value) (λ n all b e. as_many n 0 (item (pair (writers d.key) (writers d.value))) all b e))

module _ (read : Id → Decoder ℕ) (write : Id → Writer Value)
    (inverse : (r : Id) → IsInverse (λ input. outcome_map Values.Unsigned (read r input)) (write r)) where
  -- a compact integer of the only field is read and written
  field_read_back :
      (all : List Field)
      → IsInverse (λ input. outcome_map Values.Unsigned (values.compact_field (map (map_field {G = Unit {0}} read (λ t. t)) all) input))
      (compact_field (map (map_field {G = Unit {0}} write (λ t. t)) all))
  field_read_back [] = nothing unsupported outcome.unsupported
  field_read_back (f ∷ []) = inverse f.ty
  field_read_back (f ∷ g ∷ more) = nothing unsupported outcome.unsupported

  -- a compact integer of each kind of definition is read and written
  pub compacts_read_back :
      (d : TypeDef)
      → IsInverse (λ input. outcome_map Values.Unsigned (values.compact_by (map_definition {G = Unit {0}} read (λ t. t) d) input))
      (compact_by (map_definition {G = Unit {0}} write (λ t. t) d))
  compacts_read_back (def.Composite d) = field_read_back d.fields
  compacts_read_back (def.Primitive p) = compact_primitives p
  compacts_read_back _ = nothing unsupported outcome.unsupported
