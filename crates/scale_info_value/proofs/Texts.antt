-- Texts at the start of bytes, which are the strings of the grammar of tables.
use Rattle.std.proofs.Common.{◌≡◌, ℕ, ◌≤◌, List, ◌++◌, length, take, drop, Bool, true, false, refl}
use Rattle.std.proofs.Common.{ap, sym, ◌∙◌}
use Rattle.std.proofs.Common.{subst, append_assoc, arith, IsUtf8}
use Rattle.std.proofs.Math.Seq.{take-append_seam, drop-append_seam}
use Rattle.std.proofs.lemmas.Grind.{common_steps}
use Rattle.std.proofs.lemmas.List.{length-append, length-take-le, take-append-drop}
use Rattle.std.proofs.lemmas.Str.{IsUtf8-from_is_utf8, is_utf8-from_IsUtf8}
use Rattle.std.specs.List.{AllByRecursion}
use Rattle.std.specs.Prelude.{if◌then◌else◌}
use Rattle.std.specs.Str.{is_utf8}
use Rattle.scale_info_bytes.specs.Encodings.{HasPrefix, IsByte}
use Rattle.scale_info_bytes.specs.Integers.{EncodesCompact}
use Rattle.scale_info_bytes.specs.PartLaws.{concatenation}
use Rattle.scale_info_bytes.specs.Strings.{EncodesText}
use Rattle.scale_info_value.specs.declared.value.Value.{Value}
use Rattle.scale_info_value.specs.declared.value.Value.TheVariants as Values
use Rattle.scale_info_value.specs.Outcomes.{Outcome, decoded, failed, malformed, and_then}
use Rattle.scale_info_value.specs.IntegerDecoders.{bytes, count}
use Rattle.scale_info_value.specs.ValueDefinitions.{text}
use Rattle.scale_info_value.proofs.Counts as counts
use Rattle.scale_info_value.proofs.Decoded as decoded_counts

-- the text, if the bytes were found to be UTF-8
if_utf8 : Bool → List ℕ → List ℕ → Outcome Value
if_utf8 b all after = if b then decoded (Values.Text all) after else failed malformed

not_utf8 : (b : Bool) (all after : List ℕ) → (b ≡ true → ⊥) → if_utf8 b all after ≡ failed malformed
unfolding if_utf8
not_utf8 true all after h = absurd (h refl)
not_utf8 false all after h = refl

by_bytes :
    (input rest all after : List ℕ) (n : ℕ) → count input ≡ decoded n rest → bytes n rest ≡ decoded all after
    → text input ≡ if_utf8 (is_utf8 all) all after
unfolding if_utf8
by_bytes input rest all after n e f =
    ap (λ o. and_then o (λ n rest. and_then (bytes n rest) (λ all after. if_utf8 (is_utf8 all) all after))) e
    ∙ ap (λ o. and_then o (λ all after. if_utf8 (is_utf8 all) all after)) f

-- a count and so many bytes of UTF-8 are a text
pub text_decoded :
    (input rest all after : List ℕ) (n : ℕ) (copy : List ℕ)
    → count input ≡ decoded n rest → bytes n rest ≡ decoded all after → IsUtf8 all → copy ≡ all
    → text input ≡ decoded (Values.Text copy) after
unfolding if_utf8
text_decoded input rest all after n copy e f u h =
    by_bytes input rest all after n e f ∙ ap (λ b. if_utf8 b all after) (is_utf8-from_IsUtf8 all u)
    ∙ ap (λ t. decoded (Values.Text t) after) (sym h)

-- other bytes are none
pub text_failed :
    (input rest all after : List ℕ) (n : ℕ)
    → count input ≡ decoded n rest → bytes n rest ≡ decoded all after → (IsUtf8 all → ⊥)
    → text input ≡ failed malformed
text_failed input rest all after n e f u =
    by_bytes input rest all after n e f ∙ not_utf8 (is_utf8 all) all after (λ h. u (IsUtf8-from_is_utf8 all h))

-- so many bytes, where they are there
pub bytes_whole : (n : ℕ) (input : List ℕ) → n ≤ length input → bytes n input ≡ decoded (take n input) (drop n input)
bytes_whole n input h = grind (arith, common_steps)

-- where so many bytes are decoded, they are there
pub bytes_long : (n : ℕ) (input all after : List ℕ) → bytes n input ≡ decoded all after → n ≤ length input
bytes_long n input all after h = grind (arith, common_steps)

bytes_of : (t rest : List ℕ) → bytes (length t) (t ++ rest) ≡ decoded t rest
bytes_of t rest =
    let whole = length-append t rest in
    bytes_whole (length t) (t ++ rest) (omega arith)
    ∙ (λ i. decoded (take-append_seam t rest i) (drop-append_seam t rest i))

-- each encoding of a text is decoded, whatever follows it
pub encoded :
    (t b rest : List ℕ) → EncodesText t b → text (b ++ rest) ≡ decoded (Values.Text t) rest
encoded t b rest e =
    let c = e.counted in
    let parts : b ≡ c.first ++ t = c.parts ∙ ap (λ s. c.first ++ s) c.encodes_second in
    let whole : b ++ rest ≡ c.first ++ (t ++ rest) =
    ap (λ s. s ++ rest) parts ∙ append_assoc c.first t rest in
    let n : count (b ++ rest) ≡ decoded (length t) (t ++ rest) =
    ap (λ s. count s) whole ∙ counts.encoded (length t) c.first (t ++ rest) c.encodes_first in
    text_decoded (b ++ rest) (t ++ rest) t rest (length t) t n (bytes_of t rest) e.utf8 refl

-- what so many bytes are
bytes_inverse :
    (n : ℕ) (rest t after : List ℕ) → bytes n rest ≡ decoded t after → (length t ≡ n) × (t ++ after ≡ rest)
bytes_inverse n rest t after e =
    let long = bytes_long n rest t after e in
    let h : decoded (take n rest) (drop n rest) ≡ decoded t after = sym (bytes_whole n rest long) ∙ e in
    let p : take n rest ≡ t = cc in
    let q : drop n rest ≡ after = cc in
    (ap length (sym p) ∙ length-take-le n rest long, (λ i. sym p i ++ sym q i) ∙ take-append-drop n rest)

utf8_parts :
    (b : Bool) (all after t s : List ℕ) → if_utf8 b all after ≡ decoded (Values.Text t) s
    → (b ≡ true) × (all ≡ t) × (after ≡ s)
unfolding if_utf8
utf8_parts true all after t s e =
    let p : all ≡ t = cc in
    let q : after ≡ s = cc in
    (refl, p, q)
utf8_parts false all after t s e = cc

bytes_parts :
    (o : Outcome (List ℕ)) (t s : List ℕ)
    → and_then o (λ all after. if_utf8 (is_utf8 all) all after) ≡ decoded (Values.Text t) s
    → (o ≡ decoded t s) × IsUtf8 t
bytes_parts (decoded all after) t s e =
    let p = utf8_parts (is_utf8 all) all after t s e in
    ((λ i. decoded (p.1 i) (p.2 i)), subst (λ u. IsUtf8 u) p.1 (IsUtf8-from_is_utf8 all p.0))
bytes_parts (failed why) t s e = cc

text_parts :
    (o : Outcome ℕ) (t s : List ℕ)
    → and_then o (λ n rest. and_then (bytes n rest) (λ all after. if_utf8 (is_utf8 all) all after))
    ≡ decoded (Values.Text t) s
    → (n : ℕ) × (rest : List ℕ) × (o ≡ decoded n rest) × (bytes n rest ≡ decoded t s) × IsUtf8 t
text_parts (decoded n rest) t s e =
    let p = bytes_parts (bytes n rest) t s e in
    (n, rest, refl, p.0, p.1)
text_parts (failed why) t s e = cc

-- what is decoded as a text is an encoding of it
pub nothing_else :
    (input rest t : List ℕ) → AllByRecursion IsByte input → text input ≡ decoded (Values.Text t) rest
    → HasPrefix (EncodesText t) input rest
unfolding if_utf8
nothing_else input rest t all e =
    let p = text_parts (count input) t rest e in
    let b = bytes_inverse p.0 p.1 t rest p.3 in
    let c = decoded_counts.counted input p.1 p.0 all p.2 in
    record {
      encoding = c.encoding ++ t;
      encodes = record {
        utf8 = p.4;
        counted =
            concatenation _ _ (subst (λ n. EncodesCompact n c.encoding) (sym b.0) c.encodes) refl;
      };
      parts = c.parts ∙ ap (λ x. c.encoding ++ x) (sym b.1) ∙ sym (append_assoc c.encoding t rest);
    }
