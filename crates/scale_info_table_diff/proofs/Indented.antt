-- Lines without their indentation.
use Rattle.std.proofs.Common.{◌≡◌, ◌≢◌, ◌++◌, ◌∷◌, ◌∙◌, ℕ, zero, suc, List, [], Some, None, sym, ap}
use Rattle.std.proofs.Common.{append_assoc, append-nil, arith}
use Rattle.std.specs.Prelude.{codes}
use Rattle.std.specs.List.{repeat}
use Rattle.std.specs.Str.Pattern.{CutsPrefixes, FindsTextPrefix, IsFullyTrimmed, IsTrimStartMatches}
use Rattle.scale_info_table_diff.specs.Declarations.{IsIndented}

abbrev level : List ℕ
level = codes "    "

repeat_append : (n : ℕ) (xs : List ℕ) → repeat n xs ++ xs ≡ xs ++ repeat n xs
repeat_append zero xs = sym (append-nil xs)
repeat_append (suc n) xs = append_assoc xs (repeat n xs) xs ∙ ap (λ t. xs ++ t) (repeat_append n xs)

-- what was cut off the front are levels
cut_levels :
    (s r ns : List ℕ) → CutsPrefixes (FindsTextPrefix level) s ns r
    → (n : ℕ) × (s ≡ repeat n level ++ r)
cut_levels s r [] e = (0, sym e)
cut_levels s r (n ∷ ns) (w, cuts, found, e) =
    let before = cut_levels s w ns cuts in
    let k = before.0 in (
      suc k,
      before.1
          ∙ ap (λ t. repeat k level ++ t) (found.1 ∙ ap (λ t. level ++ t) (sym e))
          ∙ sym (append_assoc (repeat k level) level r)
          ∙ ap (λ t. t ++ r) (repeat_append k level),
    )

no_level_left :
    (r : List ℕ) → IsFullyTrimmed (FindsTextPrefix level) r → (rest : List ℕ) → r ≢ level ++ rest
no_level_left r (None, lacks, _) rest e = lacks rest e
no_level_left r (Some n, found, is_zero) rest e =
    let four : n ≡ 4 = found.0 in
    let none : n ≡ 0 = is_zero in absurd (omega arith)

-- what is left of a line once its levels are cut off
pub indented :
    (s r : List ℕ) → IsTrimStartMatches (FindsTextPrefix (codes "    ")) s r → IsIndented s r
indented s r ((ns, cuts), full) =
    let found = cut_levels s r ns cuts in
    record { levels = found.0; spelled = found.1; whole = no_level_left r full }
