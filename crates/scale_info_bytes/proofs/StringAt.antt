-- A string at the start of the input.
use Rattle.std.proofs.Common.{◌≡◌, ℕ, ◌<◌, ◌≤◌, List, ◌++◌, length, take, drop, sym, ap, subst, ◌∙◌}
use Rattle.std.proofs.Common.{refl, arith, length-append, length-take}
use Rattle.std.specs.Prelude.{IsUtf8}
use Rattle.std.proofs.lemmas.List.{take_at, take-append-drop}
use Rattle.scale_info_bytes.specs.Encodings.{HasPrefix, HasNoPrefix}
use Rattle.scale_info_bytes.specs.Integers.{EncodesCompact}
use Rattle.scale_info_bytes.specs.CompactLaws.{compact_law}
use Rattle.scale_info_bytes.specs.Strings.{EncodesText}
use Rattle.scale_info_bytes.specs.Parts.{IsConcatenation}
use Rattle.scale_info_bytes.proofs.Steps.{prefix_both, split_prefix, same_prefix}

-- an input that begins with no count begins with no string
pub no_text_count : (a : List ℕ) → HasNoPrefix EncodesCompact a → HasNoPrefix EncodesText a
no_text_count a n = record {
  none = λ v rest p.
      let h =
      split_prefix
      (record { encoding = p.encoding; encodes = p.encodes.counted; parts = p.parts }) in
      n.none (length v) h.0 h.1;
}

-- a count, and no string of so many bytes after it
pub no_text_after :
    (n : ℕ) (a b : List ℕ) → HasPrefix (EncodesCompact n) a b
    → ((v rest : List ℕ) → length v ≡ n → IsUtf8 v → b ≡ v ++ rest → ⊥) → HasNoPrefix EncodesText a
no_text_after n a b f none = record {
  none = λ v rest p.
      let h =
      split_prefix
      (record { encoding = p.encoding; encodes = p.encodes.counted; parts = p.parts }) in
      let e = same_prefix compact_law (length v) n a h.0 b h.1 f in
      none v rest e.0 p.encodes.utf8 (sym e.1 ∙ h.2.parts ∙ ap (λ t. t ++ rest) h.2.encodes);
}

-- a count, and fewer bytes than that after it: no string begins the input
pub no_text_short :
    (n : ℕ) (a b : List ℕ) → HasPrefix (EncodesCompact n) a b → length b < n
    → HasNoPrefix EncodesText a
no_text_short n a b f l =
    no_text_after n a b f (λ v rest k u e. omega (arith, ap length e, length-append v rest))

-- a count, and so many bytes that are not UTF-8 after it: no string begins the input
pub no_text_utf8 :
    (n : ℕ) (a b : List ℕ) → HasPrefix (EncodesCompact n) a b → (IsUtf8 (take n b) → ⊥)
    → HasNoPrefix EncodesText a
no_text_utf8 n a b f bad =
    no_text_after n a b f
    (λ v rest k u e. bad (subst IsUtf8 (sym (ap (take n) e ∙ take_at v rest n k)) u))

-- a count, and so many bytes of UTF-8 after it, encode the string of these bytes
pub prefix_text :
    (n : ℕ) (v a b c : List ℕ) → HasPrefix (EncodesCompact n) a b → n ≤ length b → v ≡ take n b
    → c ≡ drop n b → IsUtf8 v → HasPrefix (EncodesText v) a c
prefix_text n v a b c f l e d u =
    let k : n ≡ length v = rw e (omega (arith, length-take n b)) in
    let t : b ≡ v ++ c =
    sym (ap (λ x. x ++ c) e ∙ ap (λ x. take n b ++ x) d ∙ take-append-drop n b) in
    let h : HasPrefix (IsConcatenation (EncodesCompact (length v)) (λ bytes. bytes ≡ v)) a c =
    prefix_both (subst (λ m. HasPrefix (EncodesCompact m) a b) k f)
    (record { encoding = v; encodes = refl; parts = t }) in
    record {
      encoding = h.encoding;
      encodes = record { utf8 = u; counted = h.encodes };
      parts = h.parts;
    }
