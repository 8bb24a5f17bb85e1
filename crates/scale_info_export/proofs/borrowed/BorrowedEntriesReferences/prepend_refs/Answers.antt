use Rattle.std.proofs.Common.{ap, length, List, refl, map, OnOk, Ok, Err, option_map, Result, slice_get}
use Rattle.std.proofs.Common.{Some, sym, ℕ, ◌++◌, ◌∙◌, ◌≡◌, Bor}
use Rattle.std.proofs.lemmas.Option.{slice_get_read}
use Rattle.scale_info_export.specs.BorrowedEntries.{borrowed_entries}
use Rattle.scale_info_export.proofs.BorrowedEntries.{borrowed_at, borrowed_references}
use Rattle.scale_info_identities.specs.declared.type_id.TypeId.{TypeId}
use Rattle.scale_info_numberings.specs.Systems.{Entry}
use Rattle.scale_info_registry.specs.BorrowedTypes.{id_in, with_ids_in}
use Rattle.scale_info_types.specs.MetaDescriptions.{MetaDescription}
use Rattle.scale_info_types.specs.References.{references}
use Rattle.scale_info_types.specs.Shapes.{Shape}
use Rattle.scale_info_walk.specs.TypeSystems.{entry_of, types_system}
use Rattle.scale_info_export.proofs.borrowed.BorrowedEntriesReferences.prepend_refs.Goals as goal

-- the ids of a borrowed description's types come before those that are left
prepended :
    {A E : Type 0} (ids : List TypeId) (found : List (Bor MetaDescription)) (id : ℕ) (d : Bor MetaDescription)
    (old new : List ℕ) (r : Result A E)
    (refs : List ℕ) → slice_get found id ≡ Some d → refs ≡ map (id_in ids) (references d.now)
    → OnOk r (new ≡ refs ++ old)
    → OnOk r ((x : Entry Shape ℕ) × (types_system (borrowed_entries ids found) id ≡ Some x) × (new ≡ x.refs ++ old))
prepended ids found id d old new (Ok x) refs e same h = (
  entry_of (record { id = id; ty = with_ids_in ids d.now }),
  ap (option_map entry_of) (borrowed_at ids found id d e),
  h ∙ ap (λ rs. rs ++ old) (same ∙ sym (borrowed_references ids d.now)),
)
prepended ids found id d old new (Err x) refs e same h = tt

pub returns-clause-refs : goal.returns-clause-refs
returns-clause-refs c =
    let ids = c.args.self.now.numbers in
    prepended ids c.args.self.now.descriptions.items c.args.id c.index.result.now c.args.refs.now c.prepend.new.self
    c.prepend.result c.deref.result.now
    (slice_get_read c.args.self.now.descriptions.items (length c.args.self.now.descriptions.items) c.args.id c.index.result.now
    refl c.requires c.index.ensures)
    (c.deref.ensures.value ∙ c.in_ok-ids.ensures ∙ ap (map (id_in ids)) c.in_ok-types.ensures) c.prepend.ensures.ok
