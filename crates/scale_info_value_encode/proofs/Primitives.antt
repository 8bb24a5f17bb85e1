-- Values of primitives.
use Rattle.std.proofs.Common.{◌≡◌, ℕ, ◌≤◌, ◌^◌, ◌==◌, Bool, true, false, List, [], ◌∷◌, ◌++◌}
use Rattle.std.proofs.Common.{refl, ap, sym, ◌∙◌, arith}
use Rattle.std.proofs.lemmas.Grind.{common_steps}
use Rattle.std.specs.Prelude.{if◌then◌else◌}
use Rattle.std.specs.Int.{w8, w16, w32, w64, w128}
use Rattle.std.specs.List.{AllByRecursion}
use Rattle.scale_info_bytes.specs.Encodings.{HasPrefix, IsByte}
use Rattle.scale_info_primitives.specs.declared.primitive.TypeDefPrimitive.{TypeDefPrimitive}
use Rattle.scale_info_primitives.specs.declared.primitive.TypeDefPrimitive.TheVariants as kind
use Rattle.scale_info_value.specs.declared.value.Value.{Value}
use Rattle.scale_info_value.specs.declared.value.Value.TheVariants as Values
use Rattle.scale_info_value.specs.Outcomes.{decoded, failed, malformed, unsupported, outcome_map}
use Rattle.scale_info_value.specs.IntegerDecoders as read
use Rattle.scale_info_value.specs.ValueDefinitions as values
use Rattle.scale_info_value_encode.specs.Writers as writers
use Rattle.scale_info_value_encode.specs.Writers.{written}
use Rattle.scale_info_value_encode.specs.IntegerWriters.{compact_below}
use Rattle.scale_info_value_encode.specs.DefinitionWriters.{held, truth, truth_in, unsigned_in, primitive, compact_primitive}
use Rattle.scale_info_value_encode.proofs.Compacts.{compacts_below}
use Rattle.scale_info_value_encode.proofs.Inverse.{IsInverse, by_kind, of_kind, nothing}
use Rattle.scale_info_value_encode.proofs.Texts.{texts_read_back}
use Rattle.scale_info_value_encode.proofs.ValueKinds.{truths, unsigned_integers}
use Rattle.scale_info_value_encode.proofs.Widths.{unsigned_read_back, signed_read_back}

-- numbers that test as equal are equal
equal_of : (a b : ℕ) → (a == b) ≡ true → a ≡ b
equal_of a b e = grind (arith, common_steps)

-- the byte of a truth value, by the tests for 0 and 1
bit_is :
    (b : ℕ) (r rest : List ℕ) (value : Value) (zero_there one_there : Bool) → (zero_there ≡ true → b ≡ 0)
    → (one_there ≡ true → b ≡ 1)
    → (if zero_there then decoded (Values.Bool false) r
    else if one_there then decoded (Values.Bool true) r else failed malformed) ≡ decoded value rest
    → (x : Bool) × (value ≡ Values.Bool x) × (truth x ≡ written (b ∷ [])) × (r ≡ rest)
bit_is b r rest value true one_there is_0 is_1 e =
    let same : value ≡ Values.Bool false = cc in
    let left : r ≡ rest = cc in
    (false, same, ap (λ n. written (n ∷ [])) (sym (is_0 refl)), left)
bit_is b r rest value false true is_0 is_1 e =
    let same : value ≡ Values.Bool true = cc in
    let left : r ≡ rest = cc in
    (true, same, ap (λ n. written (n ∷ [])) (sym (is_1 refl)), left)
bit_is b r rest value false false is_0 is_1 e = cc

-- truth values are read and written
truths_read_back : IsInverse values.truth (held truth_in truth)
truths_read_back = by_kind Values.Bool truth_in values.truth truth truths gives back forth
  where
    gives :
        (input : List ℕ) (value : Value) (rest : List ℕ) → values.truth input ≡ decoded value rest
        → (x : Bool) × (value ≡ Values.Bool x)
    gives [] value rest e = cc
    gives (b ∷ r) value rest e =
        let p = bit_is b r rest value (b == 0) (b == 1) (equal_of b 0) (equal_of b 1) e in (p.0, p.1)

    back :
        (x : Bool) (b rest : List ℕ) → truth x ≡ written b → values.truth (b ++ rest) ≡ decoded (Values.Bool x) rest
    back false b rest e = let same : 0 ∷ [] ≡ b = cc in ap (λ c. values.truth (c ++ rest)) (sym same)
    back true b rest e = let same : 1 ∷ [] ≡ b = cc in ap (λ c. values.truth (c ++ rest)) (sym same)

    forth :
        (input : List ℕ) (x : Bool) (rest : List ℕ) → AllByRecursion IsByte input
        → values.truth input ≡ decoded (Values.Bool x) rest → HasPrefix (λ bytes. truth x ≡ written bytes) input rest
    forth [] x rest all e = cc
    forth (b ∷ r) x rest all e =
        let p = bit_is b r rest (Values.Bool x) (b == 0) (b == 1) (equal_of b 0) (equal_of b 1) e in
        let same : x ≡ p.0 = cc in
        record { encoding = b ∷ []; encodes = ap truth same ∙ p.2; parts = λ i. b ∷ p.3 i }

-- values of each primitive are read and written
pub primitives : (p : TypeDefPrimitive) → IsInverse (values.primitive p) (primitive p)
primitives kind.Bool = truths_read_back
primitives kind.Str = texts_read_back
primitives kind.U8 = unsigned_read_back w8
primitives kind.U16 = unsigned_read_back w16
primitives kind.U32 = unsigned_read_back w32
primitives kind.U64 = unsigned_read_back w64
primitives kind.U128 = unsigned_read_back w128
primitives kind.I8 = signed_read_back w8
primitives kind.I16 = signed_read_back w16
primitives kind.I32 = signed_read_back w32
primitives kind.I64 = signed_read_back w64
primitives kind.I128 = signed_read_back w128
primitives _ = nothing unsupported writers.unsupported

-- compact integers below a limit, as values
compact_values :
    (most : ℕ) → most ≤ 256 ^ 16
    → IsInverse (λ input. outcome_map Values.Unsigned (read.compact_below most input)) (held unsigned_in (compact_below most))
compact_values most h =
    of_kind Values.Unsigned unsigned_in (read.compact_below most) (compact_below most) unsigned_integers
    (compacts_below most h)

-- compact integers of each primitive are read and written
pub compact_primitives :
    (p : TypeDefPrimitive)
    → IsInverse (λ input. outcome_map Values.Unsigned (values.compact_primitive p input)) (compact_primitive p)
compact_primitives kind.U8 = compact_values (2 ^ 8) (omega arith)
compact_primitives kind.U16 = compact_values (2 ^ 16) (omega arith)
compact_primitives kind.U32 = compact_values (2 ^ 32) (omega arith)
compact_primitives kind.U64 = compact_values (2 ^ 64) (omega arith)
compact_primitives kind.U128 = compact_values (2 ^ 128) (omega arith)
compact_primitives _ = nothing unsupported writers.unsupported
