-- The text of a path, step by step.
use Rattle.std.proofs.Common.{◌≡◌, ℕ, zero, suc, ◌+◌, ◌<◌, List, [], ◌∷◌, ◌++◌, length, take, get_or}
use Rattle.std.proofs.Common.{ap, sym, ◌∙◌, append_assoc, arith}
use Rattle.std.proofs.lemmas.List.{append-nil}
use Rattle.std.specs.Prelude.{codes}
use Rattle.scale_info_value_encode.specs.declared.path.Step.{Step}
use Rattle.scale_info_value_encode.specs.Paths.{step_text, dotted, path_text}

-- one more step
dotted_more :
    (steps : List Step) (k : ℕ) (s : Step) → k < length steps → s ≡ get_or steps k s
    → dotted (take (suc k) steps) ≡ dotted (take k steps) ++ (codes "." ++ step_text s)
dotted_more [] k s h is = absurd (omega arith)
dotted_more (x ∷ steps) zero s h is =
    ap (λ t. codes "." ++ t) (append-nil (step_text x)) ∙ ap (λ y. codes "." ++ step_text y) (sym is)
dotted_more (x ∷ steps) (suc k) s h is =
    ap (λ t. codes "." ++ (step_text x ++ t)) (dotted_more steps k s (omega arith) is)
    ∙ ap (λ t. codes "." ++ t) (sym (append_assoc (step_text x) (dotted (take k steps)) (codes "." ++ step_text s)))

-- the first step and some after it, and one more
pub text_more :
    (first : Step) (steps : List Step) (k : ℕ) (s : Step) → k < length steps → s ≡ get_or steps k s
    → path_text (first ∷ take k steps) ++ (codes "." ++ step_text s) ≡ path_text (first ∷ take (k + 1) steps)
text_more first steps k s h is =
    let e : suc k ≡ k + 1 = omega arith in
    append_assoc (step_text first) (dotted (take k steps)) (codes "." ++ step_text s)
    ∙ ap (λ t. step_text first ++ t) (sym (dotted_more steps k s h is) ∙ ap (λ n. dotted (take n steps)) e)

-- the first step alone
pub text_first : (first : Step) (steps : List Step) → step_text first ≡ path_text (first ∷ take 0 steps)
text_first first steps = sym (append-nil (step_text first))

-- all of them
pub text_all :
    (path steps : List Step) (first : Step) (k : ℕ) → path ≡ first ∷ steps → take k steps ≡ steps
    → path_text (first ∷ take k steps) ≡ path_text path
text_all path steps first k is all = ap (λ more. path_text (first ∷ more)) all ∙ ap path_text (sym is)
