-- What an implementation cites of entries whose descriptions stay in a catalogue.
use Rattle.std.specs.Borrow.{Bor}
use Rattle.std.specs.Prelude.{◌≡◌, ◌≤◌, ℕ, List, None, length}
use Rattle.std.proofs.Common.{◌∙◌, subst, sym}
use Rattle.std.proofs.lemmas.List.{length-map}
use Rattle.scale_info_identities.specs.declared.type_id.TypeId.{TypeId}
use Rattle.scale_info_registry.specs.BorrowedTypes.{all_with_ids_in, with_ids_in}
use Rattle.scale_info_table.proofs.Interned.{length_numbered}
use Rattle.scale_info_types.specs.MetaDescriptions.{MetaDescription}
use Rattle.scale_info_walk.specs.SystemLaws.{nothing_past}
use Rattle.scale_info_walk.specs.TypeSystems.{types_system}
use Rattle.scale_info_export.specs.BorrowedEntries.{borrowed_entries}

-- nothing stands at what is no index
pub nothing_past_borrowed :
    (ids : List TypeId) (descriptions : List (Bor MetaDescription)) (id : ℕ)
    → length descriptions ≤ id → types_system (borrowed_entries ids descriptions) id ≡ None
nothing_past_borrowed ids descriptions id past =
    nothing_past (borrowed_entries ids descriptions) id
    (subst (λ n. n ≤ id)
    (sym
    (length_numbered 0 (all_with_ids_in ids descriptions)
    ∙ length-map descriptions (λ d. with_ids_in ids d.now)))
    past)
