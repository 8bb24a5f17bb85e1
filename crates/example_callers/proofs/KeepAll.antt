-- To keep everything: each id is chosen, and the table of a numbering stays as it is.
use Rattle.std.proofs.Common.{◌≡◌, ◌<◌, ◌↔◌, ◌+◌, ℕ, zero, suc, List, [], ◌∷◌, ◌++◌, length, map}
use Rattle.std.proofs.Common.{true, Bool}
use Rattle.std.proofs.Common.{Some, slice_get, ap, sym, ◌∙◌, subst, arith, cond, zero-add}
use Rattle.std.proofs.lemmas.List.{length-map}
use Rattle.std.specs.BTreeMap.{BTreeMap, get}
use Rattle.std.specs.List.{range_with_len}
use Rattle.std.specs.Ordering.{nat_cmp}
use Rattle.scale_info.proofs.Exported.{one_system}
use Rattle.scale_info.proofs.SameTables.{PartsLaw, same_types}
use Rattle.scale_info.specs.Numberings.{IsNumbering}
use Rattle.scale_info.specs.Systems.{System}
use Rattle.scale_info.specs.Tables.{IsTable, all_places, table_system}
use Rattle.scale_info.proofs.Places.{at_range, in_range}
use Rattle.scale_info.proofs.Pruned.{keep_all_is_identity, keep_all_table}
use Rattle.scale_info.proofs.Tables.{one_table}
use Rattle.scale_info.specs.Shapes.{Shape}
use Rattle.scale_info.specs.Types.{PortableType}
use Rattle.scale_info.specs.Pruned.{IsChosen, IsPruned}
use Rattle.scale_info.specs.TypeSystems.{entry_of}

-- one number more
range_more : (a n : ℕ) → range_with_len a (suc n) ≡ range_with_len a n ++ (a + n) ∷ []
range_more a zero = let e : a ≡ a + zero = omega arith in ap (λ m. m ∷ []) e
range_more a (suc n) =
    let e : (a + 1) + n ≡ a + suc n = omega arith in
    ap (λ ms. a ∷ ms) (range_more (a + 1) n ∙ ap (λ m. range_with_len (a + 1) n ++ m ∷ []) e)

-- a filter that always returns true chooses every id
pub all_chosen :
    {F : Type 0} (step : F → ℕ → Bool → F → Type 0)
    → ((f : F) (id : ℕ) (answer : Bool) (f' : F) → step f id answer f' → answer ≡ true)
    → (first : F) (n : ℕ) (chosen : List ℕ) (last : F)
    → IsChosen step first n chosen last → chosen ≡ range_with_len 0 n
all_chosen step truth first zero chosen last (none, same) = none
all_chosen step truth first (suc n) chosen last (before, state, answer, asked, stepped, is) =
    let e = truth state n answer last stepped in
    let b = all_chosen step truth first n before state asked in
    let last_one = ap (λ m. range_with_len 0 n ++ m ∷ []) (sym (zero-add n)) ∙ sym (range_more 0 n) in
    is ∙ ap (λ a. cond a (before ++ n ∷ []) before) e ∙ ap (λ ids. ids ++ n ∷ []) b ∙ last_one

-- The table of a numbering, whose ids are indices, is pruned to all of its ids: it stays as it is,
-- and each id keeps itself.
pub all_kept :
    PartsLaw → (S : System Shape ℕ) (roots nodes : List ℕ) (old new : List PortableType)
    (new_ids : BTreeMap ℕ ℕ) (chosen : List ℕ)
    → chosen ≡ range_with_len 0 (length old) → IsPruned old chosen new new_ids
    → IsNumbering S roots nodes → IsTable S nodes (map entry_of old)
    → ((i : ℕ) (entry : PortableType) → slice_get old i ≡ Some entry → entry.id ≡ i)
    → (new ≡ old)
    × ((before after : ℕ) → (get nat_cmp new_ids before ≡ Some after) ↔ ((before ≡ after) × (after < length old)))
all_kept law S roots nodes old new new_ids chosen all pruned numbered table ids =
    let T = map entry_of old in
    let long : length T ≡ length old = length-map old entry_of in
    let places : chosen ≡ all_places T = all ∙ ap (λ n. range_with_len 0 n) (sym long) in
    let here = subst (λ (s : System Shape ℕ). IsNumbering s chosen pruned.order) (one_system old) pruned.numbering in
    let numbering = subst (λ c. IsNumbering (table_system T) c pruned.order) places here in
    let order = (keep_all_is_identity S roots nodes T numbered table pruned.order).0 numbering in
    let kept = subst (λ (s : System Shape ℕ). IsTable s pruned.order (map entry_of new)) (one_system old) pruned.table in
    let same = one_table (table_system T) pruned.order numbering.1.order.distinct (map entry_of new) T kept
    (subst (λ o. IsTable (table_system T) o T) (sym order) (keep_all_table S roots nodes T numbered table)) in
    let range : pruned.order ≡ range_with_len 0 (length old) = order ∙ ap (λ n. range_with_len 0 n) long in (
      same_types law new old pruned.ids ids same,
      λ before after. (
        λ found.
            let at = (pruned.indices before after).0 found in
            let p = in_range (length old) after before (subst (λ o. slice_get o after ≡ Some before) range at) in
            (p.1, p.0),
        λ both.
            (pruned.indices before after).1
            (subst (λ o. slice_get o after ≡ Some before) (sym range)
            (at_range (length old) after both.1 ∙ ap Some (sym both.0))),
      ),
    )
