-- A list of one text.
use Rattle.std.proofs.Common.{◌≡◌, ℕ, ◌≤◌, ◌<◌, List, [], ◌∷◌, length, get_or, sym, ap, ◌∙◌, arith}
use Rattle.std.specs.Bool.{Decides}

one : (arguments : List (List ℕ)) (w : List ℕ) → 1 ≤ length arguments → length arguments < 2 → w ≡ get_or arguments 0 w → arguments ≡ w ∷ []
one [] w l m e = absurd (omega arith)
one (v ∷ []) w l m e = ap (λ t. t ∷ []) (sym e)
one (v ∷ u ∷ us) w l m e = absurd (omega arith)

first : (v w : List ℕ) → v ∷ [] ≡ w ∷ [] → v ≡ w
first v w e = cc

-- whether the one argument is a text decides whether the arguments are that text alone
pub one_text : (arguments : List (List ℕ)) (w v text : List ℕ) (r : _) → 1 ≤ length arguments → length arguments < 2 → w ≡ get_or arguments 0 w → v ≡ w → Decides r (v ≡ text) → Decides r (arguments ≡ text ∷ [])
one_text arguments w v text r l m e f d =
    let k = one arguments w l m e in
    (λ t. k ∙ ap (λ x. x ∷ []) (sym f ∙ d.0 t), λ t. d.1 (f ∙ first w text (sym k ∙ t)))
