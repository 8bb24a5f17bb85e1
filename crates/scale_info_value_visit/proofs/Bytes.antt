-- Bytes shown one by one.
use Rattle.std.proofs.Common.{◌≡◌, ℕ, zero, suc, ◌+◌, ◌*◌, ◌<◌, ◌≤◌, List, [], ◌∷◌, ◌++◌, length, map, take, drop, replicate}
use Rattle.std.proofs.Common.{refl, ap, sym, ◌∙◌, slice_index_or, append_assoc, arith, inl, inr, true, false, Some}
use Rattle.std.proofs.lemmas.Grind.{common_steps}
use Rattle.std.proofs.lemmas.Bool.{cases_lt}
use Rattle.scale_info_types.specs.Portable.{TypeDef}
use Rattle.scale_info_table.specs.declared.portable.PortableRegistry.{PortableRegistry}
use Rattle.scale_info_primitives.specs.declared.primitive.TypeDefPrimitive.TheVariants as kind
use Rattle.scale_info_value.specs.declared.integer.IntegerWidth.TheVariants as width
use Rattle.scale_info_value.specs.declared.value.Value.{Value}
use Rattle.scale_info_value.specs.declared.value.Value.TheVariants as Values
use Rattle.scale_info_value.specs.Outcomes.{Outcome, Decoder, decoded, failed, malformed, and_then, outcome_map, in_turn}
use Rattle.scale_info_value.specs.IntegerDecoders.{bytes}
use Rattle.scale_info_value.specs.IntegerWidths.{integer_of, integer_within}
use Rattle.scale_info_value.specs.ValueDefinitions.{primitive}
use Rattle.scale_info_value.specs.Readings.{definition_within}
use Rattle.scale_info_value.proofs.Steps.{primitives_are}
use Rattle.scale_info_value.proofs.Texts.{bytes_whole}
use Rattle.scale_info_value.proofs.Integers.{value_there, values_missing, unsigned_within}
use Rattle.scale_info_value.proofs.InOrder.{alike}
use Rattle.std.proofs.lemmas.List.{take_more, map-append, take_all, take-append-drop}
use Rattle.scale_info_value_visit.specs.Events.{unsigned, begin_list, end_list, integers_events, is_byte}
use Rattle.scale_info_value_visit.proofs.Primitives.{byte_type}

-- one byte more
pub one_byte :
    (all : List ℕ) (at : ℕ) → at < length all
    → (begin_list (length all) ∷ map unsigned (take at all)) ++ unsigned (slice_index_or all at 0) ∷ []
    ≡ begin_list (length all) ∷ map unsigned (take (at + 1) all)
one_byte all at h =
    ap (λ es. begin_list (length all) ∷ es)
    (sym (ap (λ bs. map unsigned bs) (take_more all at 0 h) ∙ map-append unsigned (take at all) _))

-- all bytes, and the end
pub all_bytes :
    (all : List ℕ) (at : ℕ) → length all ≤ at
    → (begin_list (length all) ∷ map unsigned (take at all)) ++ end_list ∷ [] ≡ integers_events all
all_bytes all at h =
    ap (λ bs. begin_list (length all) ∷ map unsigned bs ++ end_list ∷ []) (take_all at all h)

-- some bytes, and the others
pub bytes_split :
    (all : List ℕ) (at : ℕ)
    → integers_events all ≡ (begin_list (length all) ∷ map unsigned (take at all)) ++ (map unsigned (drop at all) ++ end_list ∷ [])
bytes_split all at =
    ap (λ bs. begin_list (length all) ∷ map unsigned bs ++ end_list ∷ []) (sym (take-append-drop at all))
    ∙ ap (λ es. begin_list (length all) ∷ es ++ end_list ∷ []) (map-append unsigned (take at all) (drop at all))
    ∙ ap (λ es. begin_list (length all) ∷ es) (append_assoc (map unsigned (take at all)) (map unsigned (drop at all)) (end_list ∷ []))

-- where they are not there, they are missing
bytes_short : (n : ℕ) (input : List ℕ) → length input < n → bytes n input ≡ failed malformed
bytes_short n input h = grind (arith, common_steps)

-- a byte, as an integer of one byte
abbrev read_byte : Decoder Value
read_byte = integer_within width.One false

-- where it is there
byte_there : (b : ℕ) (bs : List ℕ) → read_byte (b ∷ bs) ≡ decoded (Values.Unsigned b) bs
byte_there b bs =
    let one : b + 256 * 0 ≡ b = omega arith in
    value_there (integer_of width.One false) 1 (b ∷ bs) (omega arith) ∙ ap (λ n. decoded (Values.Unsigned n) bs) one

-- where so many bytes are there, they are as many integers
each_byte :
    (n : ℕ) (input : List ℕ) → n ≤ length input
    → in_turn (replicate n read_byte) input ≡ decoded (map Values.Unsigned (take n input)) (drop n input)
each_byte zero input h = refl
each_byte (suc n) [] h = absurd (omega arith)
each_byte (suc n) (b ∷ bs) h =
    ap (λ o. and_then o (λ v r. outcome_map (λ vs. v ∷ vs) (in_turn (replicate n read_byte) r))) (byte_there b bs)
    ∙ ap (λ o. outcome_map (λ vs. Values.Unsigned b ∷ vs) o) (each_byte n bs (omega arith))

-- so many bytes are as many integers
bytes_are_integers :
    (n : ℕ) (input : List ℕ)
    → in_turn (replicate n (primitive kind.U8)) input ≡ outcome_map (λ all. map Values.Unsigned all) (bytes n input)
bytes_are_integers n input =
    alike n input (unsigned_within width.One)
    ∙ elim (cases_lt (length input) n) [
      | inl short ↦
          values_missing (integer_of width.One false) n 1 input (omega (arith, short))
          ∙ ap (λ o. outcome_map (λ all. map Values.Unsigned all) o) (sym (bytes_short n input short))
      | inr long ↦
          each_byte n input long ∙ ap (λ o. outcome_map (λ all. map Values.Unsigned all) o) (sym (bytes_whole n input long))
    ]

-- values of a type of bytes, by what the bytes are
pub bytes_decoded :
    (left : ℕ) (table : PortableRegistry) (d : TypeDef) (n : ℕ) (input : List ℕ) {o : Outcome (List ℕ)}
    → is_byte (Some d) ≡ true → bytes n input ≡ o
    → in_turn (replicate n (definition_within left table d)) input ≡ outcome_map (λ all. map Values.Unsigned all) o
bytes_decoded left table d n input byte_sized e =
    primitives_are left table d kind.U8 n input (byte_type d byte_sized) ∙ bytes_are_integers n input
    ∙ ap (λ o. outcome_map (λ all. map Values.Unsigned all) o) e
