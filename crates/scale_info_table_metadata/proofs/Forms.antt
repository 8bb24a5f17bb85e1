-- The forms in which metadata comes, of which an input has one at most.
use Rattle.std.proofs.Common.{◌≡◌, ℕ, ◌+◌, ◌*◌, ◌<◌, List, [], ◌∷◌, ◌++◌, length, sym, ap, get_or}
use Rattle.std.proofs.Common.{◌∙◌, arith, subst, drop, ◌/◌, ◌%◌}
use Rattle.scale_info_bytes.specs.CompactLaws.{compact_law}
use Rattle.scale_info_bytes.specs.Encodings.{HasPrefix, HasNoPrefix}
use Rattle.scale_info_bytes.specs.Integers.{EncodesCompact, in_one, in_two, in_four, in_five}
use Rattle.scale_info_table_metadata.specs.Metadata.{EncodesBytes, EncodesSomeBytes, IsMetadata, alone}
use Rattle.scale_info_table_metadata.specs.Metadata.{in_string, in_option, word}

-- what comes after the same list twice is the same
same_rest : (first a b : List ℕ) → first ++ a ≡ first ++ b → a ≡ b
same_rest [] a b e = e
same_rest (x ∷ xs) a b e = same_rest xs a b cc

-- a byte string begins with a compact integer, which counts all that comes after it
pub count_of :
    {n : ℕ} {input rest bytes : List ℕ} → HasPrefix (EncodesCompact n) input rest
    → EncodesBytes bytes input → (rest ≡ bytes) × (n ≡ length bytes)
count_of {n} {input} {rest} {bytes} p s =
    let same = compact_law.prefix_free n (length bytes) p.encoding s.count rest bytes p.encodes
    s.counts (sym p.parts ∙ s.parts) in
    let e : s.count ++ rest ≡ s.count ++ bytes =
    ap (λ t. t ++ rest) (sym same.0) ∙ sym p.parts ∙ s.parts in
    (same_rest s.count rest bytes e, same.1)

-- what begins with no compact integer is no byte string
pub no_count :
    {input bytes : List ℕ} → HasNoPrefix EncodesCompact input → EncodesBytes bytes input → ⊥
no_count {input} {bytes} n s =
    n.none (length bytes) bytes (record { encoding = s.count; encodes = s.counts; parts = s.parts })

-- one byte string has one list of bytes
one_string : {input a b : List ℕ} → EncodesBytes a input → EncodesBytes b input → a ≡ b
one_string {input} {a} {b} s t =
    (count_of (record { encoding = s.count; encodes = s.counts; parts = s.parts }) t).0

-- an element of equal lists, by its place
at : (i : ℕ) {a b : List ℕ} → a ≡ b → get_or a i 0 ≡ get_or b i 0
at i e = ap (λ t. get_or t i 0) e

-- a byte string of metadata does not begin with the word
not_alone :
    (a b : List ℕ) {count : List ℕ} {n : ℕ} → EncodesCompact n count → word ++ a ≡ count ++ (word ++ b) → ⊥
not_alone a b (in_one l e) p =
    let f = at 0 (p ∙ ap (λ t. t ++ (word ++ b)) e) in absurd (omega arith)
not_alone a b (in_two l m e) p =
    let f = at 2 (p ∙ ap (λ t. t ++ (word ++ b)) e) in absurd (omega arith)
not_alone a b (in_four l m e) p =
    let f = at 0 (p ∙ ap (λ t. t ++ (word ++ b)) e) in absurd (omega arith)
not_alone a b (in_five l m e) p =
    let f = at 0 (p ∙ ap (λ t. t ++ (word ++ b)) e) in absurd (omega arith)

-- the byte string in an option is not what follows a count of one byte
not_counted :
    (a b : List ℕ) {count : List ℕ} {x n m : ℕ} → n < 16384 → x ≡ n / 64 → n % 64 ≡ 0 → n ≡ 4 + length a
    → EncodesCompact m count → m ≡ 4 + length b → x ∷ (word ++ a) ≡ count ++ (word ++ b) → ⊥
not_counted a b few ex mode en (in_one l e) em p =
    let f = p ∙ ap (λ t. t ++ (word ++ b)) e in
    let first = at 0 f in
    let long = ap length f in
    absurd (omega arith)
not_counted a b few ex mode en (in_two l m e) em p =
    let f = at 2 (p ∙ ap (λ t. t ++ (word ++ b)) e) in absurd (omega arith)
not_counted a b few ex mode en (in_four l m e) em p =
    let f = at 4 (p ∙ ap (λ t. t ++ (word ++ b)) e) in absurd (omega arith)
not_counted a b few ex mode en (in_five l m e) em p =
    let long = ap length (p ∙ ap (λ t. t ++ (word ++ b)) e) in absurd (omega arith)

-- a byte string of metadata has four bytes and those after the word
as_long : (b : List ℕ) → length (word ++ b) ≡ 4 + length b
as_long b = omega arith

-- an option of a byte string of metadata is no byte string of metadata
not_string :
    (a b : List ℕ) {count string : List ℕ} {n : ℕ} → EncodesCompact n count → n ≡ 4 + length a
    → 1 ∷ string ≡ count ++ (word ++ a) → EncodesBytes (word ++ b) string → ⊥
not_string a b {count} {string} (in_one l e) en p s =
    let f = at 0 (p ∙ ap (λ t. t ++ (word ++ a)) e) in absurd (omega arith)
not_string a b {count} {string} {n} (in_two l m e) en p s =
    let f = p ∙ ap (λ t. t ++ (word ++ a)) e in
    let first = at 0 f in
    let rest : string ≡ (4 * n + 1) / 256 % 256 ∷ (word ++ a) = ap (λ t. drop 1 t) f in
    not_counted a b {x = (4 * n + 1) / 256 % 256} {n = n} m (omega arith) (omega arith) en s.counts
    (as_long b) (sym rest ∙ s.parts)
not_string a b {count} {string} (in_four l m e) en p s =
    let f = at 0 (p ∙ ap (λ t. t ++ (word ++ a)) e) in absurd (omega arith)
not_string a b {count} {string} (in_five l m e) en p s =
    let f = at 0 (p ∙ ap (λ t. t ++ (word ++ a)) e) in absurd (omega arith)

-- a word is not an option's byte
not_some : {a string : List ℕ} → word ++ a ≡ 1 ∷ string → ⊥
not_some p = let f = at 0 p in absurd (omega arith)

-- an input is metadata in one way at most
pub one_metadata :
    {input after other : List ℕ} → IsMetadata after input → IsMetadata other input → after ≡ other
one_metadata (alone p) (alone q) = same_rest word _ _ (sym p ∙ q)
one_metadata (alone p) (in_string s) = absurd (not_alone _ _ s.counts (sym p ∙ s.parts))
one_metadata (alone p) (in_option o) = absurd (not_some (sym p ∙ o.parts))
one_metadata (in_string s) (alone q) = absurd (not_alone _ _ s.counts (sym q ∙ s.parts))
one_metadata (in_string s) (in_string t) = same_rest word _ _ (one_string s t)
one_metadata (in_string s) (in_option o) =
    absurd (not_string _ _ s.counts (as_long _) (sym o.parts ∙ s.parts) o.encodes)
one_metadata (in_option o) (alone q) = absurd (not_some (sym q ∙ o.parts))
one_metadata (in_option o) (in_string t) =
    absurd (not_string _ _ t.counts (as_long _) (sym o.parts ∙ t.parts) o.encodes)
one_metadata (in_option o) (in_option u) =
    let same = ap (λ t. drop 1 t) (sym o.parts ∙ u.parts) in
    same_rest word _ _ (one_string (subst (EncodesBytes _) same o.encodes) u.encodes)

-- what is metadata is so alone, in a byte string or in an option
pub no_metadata :
    {input : List ℕ} → ((after : List ℕ) → input ≡ word ++ after → ⊥)
    → ((after : List ℕ) → EncodesBytes (word ++ after) input → ⊥)
    → ((after : List ℕ) → EncodesSomeBytes (word ++ after) input → ⊥)
    → (after : List ℕ) → IsMetadata after input → ⊥
no_metadata f g h after (alone p) = f after p
no_metadata f g h after (in_string s) = g after s
no_metadata f g h after (in_option o) = h after o

-- where a byte string is not of metadata, no word leads to what comes after it
pub no_word :
    {bytes input : List ℕ} → EncodesBytes bytes input
    → ((after : List ℕ) → bytes ≡ word ++ after → ⊥)
    → (after : List ℕ) → EncodesBytes (word ++ after) input → ⊥
no_word s f after t = f after (one_string s t)

-- where what comes after an option's byte is no byte string of metadata, the option has none
pub no_option :
    {string input : List ℕ} → input ≡ 1 ∷ string
    → ((after : List ℕ) → EncodesBytes (word ++ after) string → ⊥)
    → (after : List ℕ) → EncodesSomeBytes (word ++ after) input → ⊥
no_option p f after o =
    f after (subst (EncodesBytes _) (ap (λ t. drop 1 t) (sym o.parts ∙ p)) o.encodes)

-- a byte string does not begin with a compact integer that counts anything else
pub not_as_many :
    {n : ℕ} {input rest bytes : List ℕ} → HasPrefix (EncodesCompact n) input rest
    → EncodesBytes bytes input → (length rest ≡ n → ⊥) → ⊥
not_as_many p s different =
    let found = count_of p s in different (ap length found.0 ∙ sym found.1)
