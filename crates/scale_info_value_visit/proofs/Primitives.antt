-- Values of primitive types have no parts.
use Rattle.std.proofs.Common.{◌≡◌, ℕ, Bool, true, false, ◌==◌, List, Some, ap, subst, refl}
use Rattle.std.specs.Prelude.{if◌then◌else◌}
use Rattle.std.specs.Str.{is_utf8}
use Rattle.std.specs.Int.{w8, w16, w32, w64, w128, cast_signed}
use Rattle.scale_info_types.specs.Portable.{TypeDef}
use Rattle.scale_info_types.specs.declared.ty.TypeDef.TheVariants as def
use Rattle.scale_info_primitives.specs.declared.primitive.TypeDefPrimitive.{TypeDefPrimitive}
use Rattle.scale_info_primitives.specs.declared.primitive.TypeDefPrimitive.TheVariants as kind
use Rattle.scale_info_value.specs.declared.value.Value.{Value}
use Rattle.scale_info_value.specs.declared.value.Value.TheVariants as Values
use Rattle.scale_info_value.specs.Outcomes.{Outcome, decoded, failed, malformed, Decoder, and_then, outcome_map}
use Rattle.scale_info_value.specs.IntegerDecoders.{byte, bytes, count, integer}
use Rattle.scale_info_value.specs.ValueDefinitions.{primitive, truth, text}
use Rattle.scale_info_value_visit.specs.Events.{is_byte}
use Rattle.scale_info_value_visit.proofs.Events.{HasNoParts, truth_alone, unsigned_alone, signed_alone, text_alone}

-- the value of an outcome, if there is one, has no parts
abbrev AllAlone : Outcome Value → Type 0
AllAlone outcome = (value : Value) (rest : List ℕ) → outcome ≡ decoded value rest → HasNoParts value

-- so it is of one value
one_alone : (value : Value) (rest : List ℕ) → HasNoParts value → AllAlone (decoded value rest)
one_alone value rest h other left e = let p : value ≡ other = cc in subst HasNoParts p h

-- and of none
none_alone : (why : _) → AllAlone (failed why)
none_alone why value rest e = cc

-- of what comes after another
then_alone : {A : Type 0} (o : Outcome A) (next : A → Decoder Value) → ((x : A) (rest : List ℕ) → AllAlone (next x rest)) → AllAlone (and_then o next)
then_alone (decoded x rest) next h = h x rest
then_alone (failed why) next h = none_alone why

-- of a choice
choice_alone : (b : Bool) (o p : Outcome Value) → AllAlone o → AllAlone p → AllAlone (if b then o else p)
choice_alone true o p h k = h
choice_alone false o p h k = k

-- of a function of another value
mapped_alone : {A : Type 0} (f : A → Value) (o : Outcome A) → ((x : A) → HasNoParts (f x)) → AllAlone (outcome_map f o)
mapped_alone f (decoded x rest) h = one_alone (f x) rest (h x)
mapped_alone f (failed why) h = none_alone why

-- a truth value
truths_alone : (input : List ℕ) → AllAlone (truth input)
truths_alone input =
    then_alone (byte input) _ (λ b rest.
    choice_alone (b == 0) _ _ (one_alone _ rest (truth_alone false))
    (choice_alone (b == 1) _ _ (one_alone _ rest (truth_alone true)) (none_alone malformed)))

-- a text
texts_alone : (input : List ℕ) → AllAlone (text input)
texts_alone input =
    then_alone (count input) _ (λ n rest. then_alone (bytes n rest) _ (λ all after.
    choice_alone (is_utf8 all) _ _ (one_alone _ after (text_alone all)) (none_alone malformed)))

-- a value of a primitive type has no parts
pub no_parts :
    (k : TypeDefPrimitive) (input : List ℕ) (value : Value) (rest : List ℕ)
    → primitive k input ≡ decoded value rest → HasNoParts value
no_parts kind.Bool input = truths_alone input
no_parts kind.Char input = none_alone _
no_parts kind.Str input = texts_alone input
no_parts kind.U8 input = mapped_alone Values.Unsigned (integer 1 input) unsigned_alone
no_parts kind.U16 input = mapped_alone Values.Unsigned (integer 2 input) unsigned_alone
no_parts kind.U32 input = mapped_alone Values.Unsigned (integer 4 input) unsigned_alone
no_parts kind.U64 input = mapped_alone Values.Unsigned (integer 8 input) unsigned_alone
no_parts kind.U128 input = mapped_alone Values.Unsigned (integer 16 input) unsigned_alone
no_parts kind.U256 input = none_alone _
no_parts kind.I8 input = mapped_alone (λ n. Values.Signed (cast_signed w8 n)) (integer 1 input) (λ n. signed_alone (cast_signed w8 n))
no_parts kind.I16 input = mapped_alone (λ n. Values.Signed (cast_signed w16 n)) (integer 2 input) (λ n. signed_alone (cast_signed w16 n))
no_parts kind.I32 input = mapped_alone (λ n. Values.Signed (cast_signed w32 n)) (integer 4 input) (λ n. signed_alone (cast_signed w32 n))
no_parts kind.I64 input = mapped_alone (λ n. Values.Signed (cast_signed w64 n)) (integer 8 input) (λ n. signed_alone (cast_signed w64 n))
no_parts kind.I128 input = mapped_alone (λ n. Values.Signed (cast_signed w128 n)) (integer 16 input) (λ n. signed_alone (cast_signed w128 n))
no_parts kind.I256 input = none_alone _

-- a type whose values are bytes
byte_kind : (k : TypeDefPrimitive) → is_byte (Some (def.Primitive k)) ≡ true → k ≡ kind.U8
byte_kind kind.U8 e = refl
byte_kind k e = cc

-- the definition of a type whose values are bytes
pub byte_type : (d : TypeDef) → is_byte (Some d) ≡ true → d ≡ def.Primitive kind.U8
byte_type (def.Primitive k) e = ap def.Primitive (byte_kind k e)
byte_type d e = cc
