-- The entries from an index on.
use Rattle.std.proofs.Common.{◌≡◌, ℕ, zero, suc, ◌+◌, List, [], ◌∷◌, length, drop, Some, slice_get}
use Rattle.std.proofs.Common.{Option, None, ap, ◌∙◌, arith}
use Rattle.std.proofs.lemmas.Option.{same_Some}
use Rattle.std.specs.Iterator.{MakesProgress, item_count}
use Rattle.std.specs.Prelude.{Result, Ok, Err}
use Rattle.scale_info_table.specs.IndexedEntries.{indexed_from}
use Rattle.scale_info_types.specs.declared.ty.PortableType.{PortableType}
use Rattle.scale_info_table_view.specs.ViewEntries.{YieldsFirstOrFails}

-- an entry that is found comes first from its index on
entry_first :
    (types : List PortableType) (index : ℕ) (entry : PortableType)
    → slice_get types index ≡ Some entry → drop index types ≡ entry ∷ drop (suc index) types
entry_first [] index entry there = absurd cc
entry_first (e ∷ types) zero entry there = ap (λ x. x ∷ types) (same_Some e entry there)
entry_first (e ∷ types) (suc index) entry there = entry_first types index entry there

-- and so it does with its index
pub indexed_first :
    (types : List PortableType) (index next : ℕ) (entry : PortableType)
    → slice_get types index ≡ Some entry → next ≡ index + 1
    → indexed_from index (drop index types) ≡ (index, entry.ty) ∷ indexed_from next (drop next types)
indexed_first types index next entry there after =
    let suc_next : suc index ≡ next = omega arith in
    let more : index + 1 ≡ next = omega arith in
    ap (indexed_from index) (entry_first types index entry there)
    ∙ ap (λ n. (index, entry.ty) ∷ indexed_from n (drop (suc index) types)) more
    ∙ ap (λ n. (index, entry.ty) ∷ indexed_from next (drop n types)) suc_next

-- with the first of what was left gone, less is left
pub goes_on :
    {A E : Type 0} (can : List A → Type 0) (before after : List A) (r : Option (Result A E))
    → ((rest : List A) → can rest) → YieldsFirstOrFails before r after
    → MakesProgress can (item_count (λ rest. rest)) before r after
goes_on can before after None all h = record { on = λ _. tt; keeps = tt; rests = λ _. tt }
goes_on can before after (Some (Ok item)) all h = record {
  on = λ _. (all after, tt, omega (arith, ap length h));
  keeps = all after;
  rests = λ _. tt;
}
goes_on can before after (Some (Err e)) all h = record {
  on = λ _. (all after, tt, omega (arith, ap length h.1));
  keeps = all after;
  rests = λ _. tt;
}
