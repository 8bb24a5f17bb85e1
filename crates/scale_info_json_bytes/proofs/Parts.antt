-- Structs of four parts at the start of the input.
use Rattle.std.proofs.Common.{ℕ, List}
use Rattle.scale_info_bytes.specs.Encodings.{HasPrefix, HasNoPrefix}
use Rattle.scale_info_bytes.specs.Parts.{EncodesOption, EncodesPair}
use Rattle.scale_info_bytes.specs.Strings.{EncodesText}
use Rattle.scale_info_grammar.specs.Ty.{EncodesBitSequence, EncodesField, EncodesId, EncodesVariant}
use Rattle.scale_info_grammar.specs.Ty.{bit_sequence_parts, field_parts, variant_parts}
use Rattle.scale_info_bytes.proofs.Steps.{prefix_pair, no_prefix_first, no_prefix_through}
use Rattle.scale_info_json_bytes.proofs.Skips.{no_second_part}
use Rattle.scale_info_json_bytes.specs.Skips.{IsOnlyRest}

module _ {A B C D : Type 0} (S : A → List ℕ → Type 0) (R : B → List ℕ → Type 0)
    (T : C → List ℕ → Type 0) (U : D → List ℕ → Type 0) where
  -- the encoding of four parts
  abbrev pub EncodesFour : A × (B × (C × D)) → List ℕ → Type 0
  EncodesFour = EncodesPair S (EncodesPair R (EncodesPair T U))

  -- an input that begins with the four parts, one after another
  pub four_parts :
      (v : A × (B × (C × D))) (a b c d e : List ℕ) → HasPrefix (S v.0) a b
      → HasPrefix (R v.1.0) b c → HasPrefix (T v.1.1.0) c d → HasPrefix (U v.1.1.1) d e
      → HasPrefix (EncodesFour v) a e
  four_parts v a b c d e p q r t =
      prefix_pair {S = S} {R = EncodesPair R (EncodesPair T U)} {v = v} p
      (prefix_pair {S = R} {R = EncodesPair T U} {v = v.1} q
      (prefix_pair {S = T} {R = U} {v = v.1.1} r t))

-- a value that is encoded as its four parts
module _ {V A B C D : Type 0} {S : A → List ℕ → Type 0} {R : B → List ℕ → Type 0}
    {T : C → List ℕ → Type 0} {U : D → List ℕ → Type 0} {a : List ℕ}
    (parts : V → A × (B × (C × D))) where
  -- no first part
  pub no_first : HasNoPrefix S a → HasNoPrefix (λ v x. EncodesFour S R T U (parts v) x) a
  no_first n = no_prefix_through parts (no_prefix_first {R = EncodesPair R (EncodesPair T U)} n)

  -- the first part, and no second part after it
  pub no_second :
      {b : List ℕ} → IsOnlyRest S a b → HasNoPrefix R b
      → HasNoPrefix (λ v x. EncodesFour S R T U (parts v) x) a
  no_second p n =
      no_prefix_through parts (no_second_part p (no_prefix_first {R = EncodesPair T U} n))

  -- the first two parts, and no third part after them
  pub no_third :
      {b c : List ℕ} → IsOnlyRest S a b → IsOnlyRest R b c → HasNoPrefix T c
      → HasNoPrefix (λ v x. EncodesFour S R T U (parts v) x) a
  no_third p q n =
      no_prefix_through parts
      (no_second_part p (no_second_part q (no_prefix_first {R = U} n)))

  -- the first three parts, and no fourth part after them
  pub no_fourth :
      {b c d : List ℕ} → IsOnlyRest S a b → IsOnlyRest R b c → IsOnlyRest T c d → HasNoPrefix U d
      → HasNoPrefix (λ v x. EncodesFour S R T U (parts v) x) a
  no_fourth p q h n =
      no_prefix_through parts (no_second_part p (no_second_part q (no_second_part h n)))

-- ---- structs whose first part is missing

-- an input that begins with no name begins with no field
pub no_field_name : {a : List ℕ} → HasNoPrefix (EncodesOption EncodesText) a → HasNoPrefix EncodesField a
no_field_name n = no_first field_parts n

-- an input that begins with no name begins with no variant
pub no_variant_name : {a : List ℕ} → HasNoPrefix EncodesText a → HasNoPrefix EncodesVariant a
no_variant_name n = no_first variant_parts n

-- an input that begins with no id begins with no bit sequence
pub no_store : {a : List ℕ} → HasNoPrefix EncodesId a → HasNoPrefix EncodesBitSequence a
no_store n = no_prefix_through bit_sequence_parts (no_prefix_first {R = EncodesId} n)

-- what is said of an input that begins with no first part
pub ruleset no_first_part = (no_field_name, no_variant_name, no_store)
