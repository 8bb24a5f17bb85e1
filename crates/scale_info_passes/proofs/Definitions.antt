-- Definitions of which a part is gone over, or none.
use Rattle.std.proofs.Common.{◌≡◌, ℕ, List, [], ◌∷◌, Option, Bor, refl}
use Rattle.std.specs.Prelude.{map, IfSome}
use Rattle.std.specs.List.{flat_map}
use Rattle.std.proofs.lemmas.List.Concat.{flat_map_single}
use Rattle.scale_info_types.specs.Portable as portable
use Rattle.scale_info_types.specs.Portable.{Id}
use Rattle.scale_info_types.specs.References.{definition_references, field_references}
use Rattle.scale_info_types.specs.Shapes.{map_definition, map_field, map_variant}
use Rattle.scale_info_types.specs.declared.ty.TypeDef.TheVariants as def
use Rattle.scale_info_bytes.specs.Encodings.{HasNoPrefix}
use Rattle.scale_info_bytes.specs.Integers.{EncodesU32}
use Rattle.scale_info_bytes.specs.Parts.{EncodesList, EncodesPair}
use Rattle.scale_info_bytes.proofs.Options.{some_on}
use Rattle.scale_info_bytes.proofs.Steps.{no_prefix_through}
use Rattle.scale_info_grammar.specs.Ty.{EncodesField, EncodesId, EncodesPrimitive, EncodesVariant}
use Rattle.scale_info_grammar.specs.Ty.{EncodesTypeDefWithIndex}
use Rattle.scale_info_grammar.specs.Ty as held
use Rattle.scale_info_grammar.specs.TyLaws.{composite_of, variants_of, sequence_of, array_of}
use Rattle.scale_info_grammar.specs.TyLaws.{tuple_of, compact_of, bit_sequence_of, map_of}
use Rattle.scale_info_grammar.specs.Ty.{array_parts, bit_sequence_parts, map_parts}
use Rattle.scale_info_grammar.proofs.Definitions as absent
use Rattle.scale_info_grammar.proofs.Definitions.{HasNoParts, no_parts_at, no_definition}
use Rattle.scale_info_passes.specs.Pieces.{Piece, HasVisitedSome}
use Rattle.scale_info_passes.proofs.Passes.{visited_into, own_references}

-- the input begins with nothing that is gone over after this index
pub data HasNothingHeld : ℕ → List ℕ → Type 0 where
  no_fields : {a : List ℕ} → HasNoPrefix (EncodesList EncodesField) a → HasNothingHeld 0 a
  no_variants : {a : List ℕ} → HasNoPrefix (EncodesList EncodesVariant) a → HasNothingHeld 1 a
  no_sequence : {a : List ℕ} → HasNoPrefix EncodesId a → HasNothingHeld 2 a
  no_array : {a : List ℕ} → HasNoPrefix (EncodesPair EncodesU32 EncodesId) a → HasNothingHeld 3 a
  no_ids : {a : List ℕ} → HasNoPrefix (EncodesList EncodesId) a → HasNothingHeld 4 a
  no_primitive : {a : List ℕ} → HasNoPrefix EncodesPrimitive a → HasNothingHeld 5 a
  no_compact : {a : List ℕ} → HasNoPrefix EncodesId a → HasNothingHeld 6 a
  no_bits : {a : List ℕ} → HasNoPrefix (EncodesPair EncodesId EncodesId) a → HasNothingHeld 7 a
  no_map : {a : List ℕ} → HasNoPrefix (EncodesPair EncodesId EncodesId) a → HasNothingHeld 8 a

no_parts : {i : ℕ} {a : List ℕ} → HasNothingHeld i a → HasNoParts i a
no_parts (no_fields n) = absent.no_composite (no_prefix_through (λ d. d.fields) n)
no_parts (no_variants n) = absent.no_variant (no_prefix_through (λ d. d.variants) n)
no_parts (no_sequence n) = absent.no_sequence (no_prefix_through (λ d. d.type_param) n)
no_parts (no_array n) = absent.no_array (no_prefix_through array_parts n)
no_parts (no_ids n) = absent.no_tuple (no_prefix_through (λ d. d.fields) n)
no_parts (no_primitive n) = absent.no_primitive n
no_parts (no_compact n) = absent.no_compact (no_prefix_through (λ d. d.type_param) n)
no_parts (no_bits n) = absent.no_bit_sequence (no_prefix_through bit_sequence_parts n)
no_parts (no_map n) = absent.no_map (no_prefix_through map_parts n)

-- an input that begins with nothing that is gone over begins with no definition, after the index
pub nothing_at :
    {i : ℕ} {a : List ℕ} → HasNothingHeld i a → HasNoPrefix (EncodesTypeDefWithIndex i) a
nothing_at n = no_parts_at (no_parts n)

-- where a value was passed, it was visited
abbrev pub Visits :
    {A V : Type 0} → (A → List ℕ → Type 0) → (A → List Id) → ((Id → Id) → A → A) → (List Piece → V → V → Type 0)
    → Option (Bor (List ℕ)) → List ℕ → V → V → Type 0
Visits S references_of on Visited r a s t =
    IfSome r (λ rest. HasVisitedSome S references_of on Visited a rest.now s t)

-- where what is encoded after this index was passed, it was visited
pub data VisitsHeld {V : Type 0} (Visited : List Piece → V → V → Type 0) (r : Option (Bor (List ℕ)))
    (a : List ℕ) (s t : V) : ℕ → Type 0 where
  fields :
      Visits (EncodesList EncodesField) (flat_map (λ f. f.ty ∷ [])) (λ f. map (λ v. map_field f (λ s. s) v))
      Visited r a s t
      → VisitsHeld Visited r a s t 0
  variants :
      Visits (EncodesList EncodesVariant) (flat_map (λ v. field_references v.fields))
      (λ f. map (λ v. map_variant f (λ s. s) v)) Visited r a s t
      → VisitsHeld Visited r a s t 1
  sequence : Visits EncodesId (λ i. i ∷ []) (λ f i. f i) Visited r a s t → VisitsHeld Visited r a s t 2
  array :
      Visits (EncodesPair EncodesU32 EncodesId) (λ p. p.1 ∷ []) (λ f p. (p.0, f p.1)) Visited r a s t
      → VisitsHeld Visited r a s t 3
  ids :
      Visits (EncodesList EncodesId) (flat_map (λ i. i ∷ [])) (λ f. map (λ i. f i)) Visited r a s t
      → VisitsHeld Visited r a s t 4
  primitive : Visits EncodesPrimitive (λ _. []) (λ _ p. p) Visited r a s t → VisitsHeld Visited r a s t 5
  compact : Visits EncodesId (λ i. i ∷ []) (λ f i. f i) Visited r a s t → VisitsHeld Visited r a s t 6
  bits :
      Visits (EncodesPair EncodesId EncodesId) (λ p. p.0 ∷ p.1 ∷ []) (λ f p. (f p.0, f p.1)) Visited r a s t
      → VisitsHeld Visited r a s t 7
  key_and_value :
      Visits (EncodesPair EncodesId EncodesId) (λ p. p.0 ∷ p.1 ∷ []) (λ f p. (f p.0, f p.1)) Visited r a s t
      → VisitsHeld Visited r a s t 8

module _ {V : Type 0} (Visited : List Piece → V → V → Type 0) (r : Option (Bor (List ℕ)))
    (a : List ℕ) (s t : V) where
  made_of :
      {A : Type 0} {S : A → List ℕ → Type 0} {references_of : A → List Id} {on : (Id → Id) → A → A}
      (i : ℕ) (make : A → portable.TypeDef) → ((v : A) (b : List ℕ) → S v b → EncodesTypeDefWithIndex i (make v) b)
      → ((v : A) → references_of v ≡ definition_references (make v))
      → ((f : Id → Id) (v : A) → map_definition f (λ s. s) (make v) ≡ make (on f v))
      → Visits S references_of on Visited r a s t
      → Visits (EncodesTypeDefWithIndex i) definition_references (λ f v. map_definition f (λ s. s) v)
      Visited r a s t
  made_of i make k e o p = some_on r (λ rest q. visited_into make k e o q) p

  -- so a definition was passed, after the index, and it was visited
  pub visited_held :
      {i : ℕ} → VisitsHeld Visited r a s t i
      → IfSome r
      (λ rest. HasVisitedSome (EncodesTypeDefWithIndex i) definition_references
      (λ f v. map_definition f (λ s. s) v) Visited a rest.now s t)
  visited_held (fields p) =
      made_of 0 (λ q. def.Composite (composite_of q)) (λ q b e. held.composite e)
      (λ q. flat_map_single (λ f. f.ty) q) (λ f q. refl) p
  visited_held (variants p) =
      made_of 1 (λ q. def.Variant (variants_of q)) (λ q b e. held.variant e) (λ q. refl) (λ f q. refl) p
  visited_held (sequence p) =
      made_of 2 (λ q. def.Sequence (sequence_of q)) (λ q b e. held.sequence e) (λ q. refl) (λ f q. refl) p
  visited_held (array p) =
      made_of 3 (λ q. def.Array (array_of q)) (λ q b e. held.array e) (λ q. refl) (λ f q. refl) p
  visited_held (ids p) =
      made_of 4 (λ q. def.Tuple (tuple_of q)) (λ q b e. held.tuple e) own_references (λ f q. refl) p
  visited_held (primitive p) =
      made_of 5 def.Primitive (λ q b e. held.primitive e) (λ q. refl) (λ f q. refl) p
  visited_held (compact p) =
      made_of 6 (λ q. def.Compact (compact_of q)) (λ q b e. held.compact e) (λ q. refl) (λ f q. refl) p
  visited_held (bits p) =
      made_of 7 (λ q. def.BitSequence (bit_sequence_of q)) (λ q b e. held.bit_sequence e)
      (λ q. refl) (λ f q. refl) p
  visited_held (key_and_value p) =
      made_of 8 (λ q. def.Map (map_of q)) (λ q b e. held.map e) (λ q. refl) (λ f q. refl) p

-- what is said of an input after each index
pub ruleset gone_over = (
  nothing_at,
  no_definition,
  visited_held,
  fields,
  variants,
  sequence,
  array,
  ids,
  primitive,
  compact,
  bits,
  key_and_value,
  no_fields,
  no_variants,
  no_sequence,
  no_array,
  no_ids,
  no_primitive,
  no_compact,
  no_bits,
  no_map,
)
