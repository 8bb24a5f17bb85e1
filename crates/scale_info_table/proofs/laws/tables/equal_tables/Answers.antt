use Rattle.std.proofs.Common.{◌≡◌, List, [], ◌∷◌, map, refl, sym, ◌∙◌, ap}
use Rattle.scale_info_types.proofs.Contents.{same_list, through}
use Rattle.scale_info_table.proofs.laws.tables.equal_tables.Goals as goal

same_map : {X : Type 0} (xs : List X) → map (λ x. x) xs ≡ xs
same_map [] = refl
same_map (x ∷ xs) = ap (λ rest. x ∷ rest) (same_map xs)

pub returns : goal.returns
returns c = λ a b.
    through (same_list _ (λ entry. entry) c.equal_portable.ensures.entry a.types b.types)
    (λ entries. λ i. record { types = (sym (same_map a.types) ∙ entries ∙ same_map b.types) i })
    (λ tables. ap (λ table. map (λ entry. entry) table.types) tables)
