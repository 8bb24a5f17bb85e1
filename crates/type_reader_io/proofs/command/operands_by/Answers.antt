use Rattle.std.proofs.Common.{◌≡◌, ◌≤◌, ◌-◌, ◌∙◌, ℕ, List, [], ◌∷◌, ap, arith, drop, get_or, length}
use Rattle.std.proofs.Common.{rules, sym, take}
use Rattle.std.proofs.lemmas.List.{take_rest}
use Rattle.type_reader_io.proofs.command.operands_by.Goals as goal

-- the first two texts, and those after them
two_first :
    (texts : List (List ℕ)) (one two : List ℕ)
    → 2 ≤ length texts → one ≡ get_or texts 0 one → two ≡ get_or texts 1 two
    → texts ≡ one ∷ two ∷ take (length texts - 2) (drop 2 texts)
two_first [] one two long is_one is_two = absurd (omega (arith, long))
two_first (x ∷ []) one two long is_one is_two = absurd (omega (arith, long))
two_first (x ∷ y ∷ more) one two long is_one is_two =
    ap (λ t. t ∷ y ∷ more) (sym is_one) ∙ ap (λ t. one ∷ t ∷ more) (sym is_two)
    ∙ ap (λ ts. one ∷ two ∷ ts) (sym (take_rest (x ∷ y ∷ more) 2))

pub returns-then-eq-clause-some : goal.returns-then-eq-clause-some
returns-then-eq-clause-some c = (
  search rules,
  two_first c.args.more.now c.old-item.result c.new-item.result c.in-len2-up.len_at_least
      c.old-item.is c.new-item.is,
)
