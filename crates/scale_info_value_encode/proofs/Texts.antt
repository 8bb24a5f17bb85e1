-- Counts and texts, which are those of the grammar of tables.
use Rattle.std.proofs.Common.{◌≡◌, ℕ, ◌<◌, ◌≤◌, ◌^◌, Bool, true, false, inl, inr, List, ◌++◌}
use Rattle.std.proofs.Common.{length, ap, sym, ◌∙◌, arith}
use Rattle.std.proofs.lemmas.Bool.{cases_lt}
use Rattle.std.proofs.lemmas.Str.{IsUtf8-from_is_utf8, is_utf8-from_IsUtf8}
use Rattle.std.specs.Prelude.{nat_lt, if◌then◌else◌}
use Rattle.std.specs.Str.{is_utf8}
use Rattle.scale_info_bytes.specs.Integers.{EncodesCompact, in_one, in_two, in_four, in_five}
use Rattle.scale_info_bytes.specs.Strings.{EncodesText}
use Rattle.scale_info_value.specs.declared.value.Value.{Value}
use Rattle.scale_info_value.specs.declared.value.Value.TheVariants as Values
use Rattle.scale_info_value.specs.Outcomes.{decoded, failed, malformed, and_then}
use Rattle.scale_info_value.specs.IntegerDecoders as read
use Rattle.scale_info_value.specs.IntegerDecoders.{bytes}
use Rattle.scale_info_value.specs.ValueDefinitions as values
use Rattle.scale_info_value.proofs.Texts.{encoded, nothing_else}
use Rattle.scale_info_value_encode.specs.Writers.{written, if_fits, followed_by}
use Rattle.scale_info_value_encode.specs.IntegerWriters.{compact_bytes, count, first_width, many_bytes}
use Rattle.scale_info_value_encode.specs.DefinitionWriters.{held, text, text_in}
use Rattle.scale_info_value_encode.proofs.Compacts as compacts
use Rattle.scale_info_value_encode.proofs.Compacts.{compacts_below, in_many}
use Rattle.scale_info_value_encode.proofs.Inverse.{IsInverse, by_kind, parted, sequenced}
use Rattle.scale_info_value_encode.proofs.ValueKinds.{texts}
use Rattle.scale_info_value_encode.proofs.Widths.{fitting, less_of, less_is}

-- counts are read and written
pub counts : IsInverse read.count count
counts = compacts_below (2 ^ 32) (omega arith)

-- an integer of 5 bytes
in_five_bytes : (n : ℕ) → 1073741824 ≤ n → n < 2 ^ 32 → compact_bytes n ≡ many_bytes 4 n
in_five_bytes n h k =
    in_many n h
    ∙ ap (λ t. many_bytes (if t then 4 else first_width 11 5 n) n) (less_is n (2 ^ 32) k)

-- a count is a compact integer of the grammar of tables
pub count_encodes : (n : ℕ) (b : List ℕ) → count n ≡ written b → EncodesCompact n b
count_encodes n b e =
    let f = fitting (nat_lt n (2 ^ 32)) (compact_bytes n) b e in
    let below : n < 2 ^ 32 = less_of n (2 ^ 32) f.0 in
    elim (cases_lt n 64) [
      | inl one ↦ in_one one (sym f.1 ∙ compacts.in_one n one)
      | inr from_64 ↦ elim (cases_lt n 16384) [
        | inl two ↦ in_two from_64 two (sym f.1 ∙ compacts.in_two n from_64 two)
        | inr from_16384 ↦ elim (cases_lt n 1073741824) [
          | inl four ↦ in_four from_16384 four (sym f.1 ∙ compacts.in_four n from_16384 four)
          | inr five ↦ in_five five below (sym f.1 ∙ in_five_bytes n five below)
        ]
      ]
    ]

-- a count that is written
count_of : (n : ℕ) (b : List ℕ) → n < 2 ^ 32 → compact_bytes n ≡ b → count n ≡ written b
count_of n b h e = ap (λ t. if_fits t (compact_bytes n)) (less_is n (2 ^ 32) h) ∙ ap written e

-- such a compact integer is the count's bytes
pub encodes_count : (n : ℕ) (b : List ℕ) → EncodesCompact n b → count n ≡ written b
encodes_count n b (in_one h e) = count_of n b (omega arith) (compacts.in_one n h ∙ sym e)
encodes_count n b (in_two h k e) = count_of n b (omega arith) (compacts.in_two n h k ∙ sym e)
encodes_count n b (in_four h k e) = count_of n b (omega arith) (compacts.in_four n h k ∙ sym e)
encodes_count n b (in_five h k e) = count_of n b k (in_five_bytes n h k ∙ sym e)

-- and so the bytes of the integer
pub encodes_compact : (n : ℕ) (b : List ℕ) → EncodesCompact n b → written (compact_bytes n) ≡ written b
encodes_compact n b e =
    let f = fitting (nat_lt n (2 ^ 32)) (compact_bytes n) b (encodes_count n b e) in ap written f.1

-- a text is a string of the grammar of tables
pub text_encodes : (t b : List ℕ) → text t ≡ written b → EncodesText t b
text_encodes t b e =
    let p = parted (count (length t)) (if_fits (is_utf8 t) t) b e in
    let f = fitting (is_utf8 t) t p.1 p.3 in
    record {
      utf8 = IsUtf8-from_is_utf8 t f.0;
      counted = record {
        first = p.0;
        second = p.1;
        encodes_first = count_encodes (length t) p.0 p.2;
        encodes_second = sym f.1;
        parts = p.4;
      };
    }

-- such a string is the text's bytes
pub encodes_text : (t b : List ℕ) → EncodesText t b → text t ≡ written b
encodes_text t b e =
    let c = e.counted in
    (λ i. followed_by (encodes_count (length t) c.first c.encodes_first i)
    (if_fits (is_utf8-from_IsUtf8 t e.utf8 i) t))
    ∙ ap (λ s. written (c.first ++ s)) (sym c.encodes_second) ∙ ap written (sym c.parts)

-- what is read as a text is one
is_text :
    (utf8 : Bool) (all after rest : List ℕ) (value : Value)
    → (if utf8 then decoded (Values.Text all) after else failed malformed) ≡ decoded value rest
    → (t : List ℕ) × (value ≡ Values.Text t)
is_text true all after rest value e = let same : value ≡ Values.Text all = cc in (all, same)
is_text false all after rest value e = cc

-- texts are read and written
pub texts_read_back : IsInverse values.text (held text_in text)
texts_read_back =
    by_kind Values.Text text_in values.text text texts
    (λ input value rest e.
    let p =
    sequenced (read.count input) (λ n r. and_then (bytes n r) (λ all after.
    if is_utf8 all then decoded (Values.Text all) after else failed malformed)) value rest e in
    let q =
    sequenced (bytes p.0 p.1) (λ all after.
    if is_utf8 all then decoded (Values.Text all) after else failed malformed) value rest p.3 in
    is_text (is_utf8 q.0) q.0 q.1 rest value q.3)
    (λ t b rest e. encoded t b rest (text_encodes t b e))
    (λ input t rest all e.
    let h = nothing_else input rest t all e in
    record { encoding = h.encoding; encodes = encodes_text t h.encoding h.encodes; parts = h.parts })
