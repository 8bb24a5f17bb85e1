-- Lemmas on identifiers.
use Rattle.std.proofs.Common.{◌≡◌, ◌≢◌, ◌↔◌, ◌++◌, ◌∷◌, ℕ, zero, suc, List, [], Some, None, sym, ap}
use Rattle.std.proofs.Common.{subst, ◌∙◌, append_assoc, append-nil, inl, inr, arith}
use Rattle.std.specs.Prelude.{codes}
use Rattle.std.specs.List.{repeat}
use Rattle.std.specs.Str.Pattern.{CutsPrefixes, FindsTextPrefix, IsFullyTrimmed, IsTrimStartMatches}
use Rattle.std.proofs.lemmas.List.{append_cancel_left}
use Rattle.std.proofs.lemmas.List.Elements.{All-head, All-same}
use Rattle.scale_info_segments.specs.Identifiers.{IsIdentifier, IsLetterOrDigit}
use Rattle.scale_info_segments.specs.Identifiers.{IsPlainIdentifier}

abbrev mark : List ℕ
mark = codes "r#"

repeat_append : (n : ℕ) (xs : List ℕ) → repeat n xs ++ xs ≡ xs ++ repeat n xs
repeat_append zero xs = sym (append-nil xs)
repeat_append (suc n) xs = append_assoc xs (repeat n xs) xs ∙ ap (λ t. xs ++ t) (repeat_append n xs)

-- matches that were cut off the front are copies of the mark
cut_marks :
    (s r ns : List ℕ) → CutsPrefixes (FindsTextPrefix mark) s ns r
    → (n : ℕ) × (s ≡ repeat n mark ++ r)
cut_marks s r [] e = (0, sym e)
cut_marks s r (n ∷ ns) (w, cuts, found, e) =
    let before = cut_marks s w ns cuts in
    let k = before.0 in (
      suc k,
      before.1
          ∙ ap (λ t. repeat k mark ++ t) (found.1 ∙ ap (λ t. mark ++ t) (sym e))
          ∙ sym (append_assoc (repeat k mark) mark r)
          ∙ ap (λ t. t ++ r) (repeat_append k mark),
    )

no_mark_left :
    (r : List ℕ) → IsFullyTrimmed (FindsTextPrefix mark) r → (rest : List ℕ) → r ≢ mark ++ rest
no_mark_left r (None, lacks, _) rest e = lacks rest e
no_mark_left r (Some n, found, is_zero) rest e =
    let two : n ≡ 2 = found.0 in
    let none : n ≡ 0 = is_zero in absurd (omega arith)

letter_or_digit_35 : IsLetterOrDigit 35 → ⊥
letter_or_digit_35 (inl (inl e)) = omega arith
letter_or_digit_35 (inl (inr (inl h))) = omega arith
letter_or_digit_35 (inl (inr (inr h))) = omega arith
letter_or_digit_35 (inr h) = omega arith

marked_is_not_plain : (more rest : List ℕ) → IsPlainIdentifier rest → mark ++ more ≡ rest → ⊥
marked_is_not_plain more rest plain e =
    let whole : 114 ∷ (35 ∷ more) ≡ plain.head ∷ plain.tail = e ∙ plain.spelled in
    let tails : 35 ∷ more ≡ plain.tail = cc in
    letter_or_digit_35
    (All-head IsLetterOrDigit 35 more
    (All-same IsLetterOrDigit (35 ∷ more) plain.tail tails plain.goes_on))

plain_rest :
    (n m : ℕ) (r rest : List ℕ)
    → ((more : List ℕ) → r ≢ mark ++ more)
    → IsPlainIdentifier rest
    → repeat n mark ++ r ≡ repeat m mark ++ rest
    → IsPlainIdentifier r
plain_rest zero zero r rest none plain e = subst IsPlainIdentifier (sym e) plain
plain_rest zero (suc m) r rest none plain e =
    absurd (none (repeat m mark ++ rest) (e ∙ append_assoc mark (repeat m mark) rest))
plain_rest (suc n) zero r rest none plain e =
    absurd
    (marked_is_not_plain (repeat n mark ++ r) rest plain
    (sym (append_assoc mark (repeat n mark) r) ∙ e))
plain_rest (suc n) (suc m) r rest none plain e =
    plain_rest n m r rest none plain
    (append_cancel_left mark (repeat n mark ++ r) (repeat m mark ++ rest)
    (sym (append_assoc mark (repeat n mark) r) ∙ e ∙ append_assoc mark (repeat m mark) rest))

-- a text is an identifier exactly where it is a plain one once each `r#` at its front is cut off
pub identifier_from_trimmed :
    (s r : List ℕ) → IsTrimStartMatches (FindsTextPrefix (codes "r#")) s r
    → IsPlainIdentifier r ↔ IsIdentifier s
identifier_from_trimmed s r ((ns, cuts), full) =
    let found = cut_marks s r ns cuts in (
      λ plain. record { count = found.0; rest = r; spelled = found.1; plain = plain },
      λ is.
          plain_rest found.0 is.count r is.rest (no_mark_left r full) is.plain
          (sym found.1 ∙ is.spelled),
    )
