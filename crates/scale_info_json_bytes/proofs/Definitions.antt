-- Definitions of which a part is read and written, or none.
use Rattle.std.proofs.Common.{ℕ, List, Result, IfOk, Bor, refl}
use Rattle.json.specs.Written.{Written}
use Rattle.scale_info_bytes.specs.Encodings.{HasNoPrefix}
use Rattle.scale_info_bytes.specs.Parts.{EncodesList}
use Rattle.scale_info_bytes.specs.declared.error.DecodeError.{DecodeError}
use Rattle.scale_info_bytes.proofs.Results.{ok_on}
use Rattle.scale_info_bytes.proofs.Steps.{no_prefix_through}
use Rattle.scale_info_grammar.specs.Ty as held
use Rattle.scale_info_grammar.specs.Ty.{EncodesComposite, EncodesVariants, EncodesSequence, EncodesArray, EncodesId}
use Rattle.scale_info_grammar.specs.Ty.{EncodesPrimitive, EncodesCompactType, EncodesBitSequence, EncodesMap}
use Rattle.scale_info_grammar.specs.Ty.{EncodesTypeDefWithIndex}
use Rattle.scale_info_grammar.specs.TyLaws.{tuple_of}
use Rattle.scale_info_grammar.proofs.Definitions.{HasNoParts, no_tuple, parts_read}
use Rattle.scale_info_json_trees.specs.DefinitionTrees.{definition_row}
use Rattle.scale_info_json_bytes.proofs.Objects.{row_into}
use Rattle.scale_info_json_bytes.specs.Transcodings.{WritesRow}
use Rattle.scale_info_types.specs.Portable as portable
use Rattle.scale_info_types.specs.declared.ty.TypeDef.TheVariants as def

-- an input that begins with no list of ids begins with no parts of a tuple
pub no_ids : {a : List ℕ} → HasNoPrefix (EncodesList EncodesId) a → HasNoParts 4 a
no_ids n = no_tuple (no_prefix_through (λ d. d.fields) n)

-- where a value was read, the row of the definition that is made of it was appended
abbrev pub WritesMade :
    {A : Type 0} → (A → List ℕ → Type 0) → (A → portable.TypeDef) → Result (Bor (List ℕ)) DecodeError
    → List ℕ → Written → Written → Type 0
WritesMade S make r a old new = IfOk r (λ rest. WritesRow S (λ v. definition_row (make v)) a rest.now old new)

-- where what is encoded after this index was read, the definition's row was appended
pub data WritesParts (r : Result (Bor (List ℕ)) DecodeError) (a : List ℕ) (old new : Written) : ℕ → Type 0 where
  composite : WritesMade EncodesComposite def.Composite r a old new → WritesParts r a old new 0
  variant : WritesMade EncodesVariants def.Variant r a old new → WritesParts r a old new 1
  sequence : WritesMade EncodesSequence def.Sequence r a old new → WritesParts r a old new 2
  array : WritesMade EncodesArray def.Array r a old new → WritesParts r a old new 3
  tuple : WritesMade (EncodesList EncodesId) (λ ids. def.Tuple (tuple_of ids)) r a old new → WritesParts r a old new 4
  primitive : WritesMade EncodesPrimitive def.Primitive r a old new → WritesParts r a old new 5
  compact : WritesMade EncodesCompactType def.Compact r a old new → WritesParts r a old new 6
  bit_sequence : WritesMade EncodesBitSequence def.BitSequence r a old new → WritesParts r a old new 7
  map : WritesMade EncodesMap def.Map r a old new → WritesParts r a old new 8

module _ (r : Result (Bor (List ℕ)) DecodeError) (a : List ℕ) (old new : Written) where
  row_made :
      {A : Type 0} {S : A → List ℕ → Type 0} (i : ℕ) (make : A → portable.TypeDef)
      → ((v : A) (b : List ℕ) → S v b → EncodesTypeDefWithIndex i (make v) b) → WritesMade S make r a old new
      → IfOk r (λ rest. WritesRow (EncodesTypeDefWithIndex i) definition_row a rest.now old new)
  row_made i make k p = ok_on r (λ rest w. row_into make k (λ v. refl) w) p

  -- so a definition was read, after the index, and its row was appended
  pub parts_written :
      {i : ℕ} → WritesParts r a old new i
      → IfOk r (λ rest. WritesRow (EncodesTypeDefWithIndex i) definition_row a rest.now old new)
  parts_written (composite p) = row_made 0 def.Composite (λ v b s. held.composite s) p
  parts_written (variant p) = row_made 1 def.Variant (λ v b s. held.variant s) p
  parts_written (sequence p) = row_made 2 def.Sequence (λ v b s. held.sequence s) p
  parts_written (array p) = row_made 3 def.Array (λ v b s. held.array s) p
  parts_written (tuple p) = row_made 4 (λ ids. def.Tuple (tuple_of ids)) (λ v b s. held.tuple s) p
  parts_written (primitive p) = row_made 5 def.Primitive (λ v b s. held.primitive s) p
  parts_written (compact p) = row_made 6 def.Compact (λ v b s. held.compact s) p
  parts_written (bit_sequence p) = row_made 7 def.BitSequence (λ v b s. held.bit_sequence s) p
  parts_written (map p) = row_made 8 def.Map (λ v b s. held.map s) p

-- what is said of an input after each index
pub ruleset parts_transcoded = (
  no_ids,
  parts_read,
  parts_written,
  composite,
  variant,
  sequence,
  array,
  tuple,
  primitive,
  compact,
  bit_sequence,
  map,
)
