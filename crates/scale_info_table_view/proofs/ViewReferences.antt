-- The references of the entries of a view, as a walk asks for them.
use Rattle.std.proofs.Common.{◌≡◌, ℕ, List, [], ◌++◌, Option, Some, None, Result, Ok, Err, OnOk}
use Rattle.std.proofs.Common.{refl, sym, ap, ◌∙◌, option_map, slice_get}
use Rattle.std.proofs.lemmas.Option.{none-some, same_Some}
use Rattle.scale_info_grammar.specs.Ty.{EncodesPortableType}
use Rattle.scale_info_numberings.specs.Systems.{Entry}
use Rattle.scale_info_passes.specs.Visits.{AppendsReferences, ids_of}
use Rattle.scale_info_references.specs.Conversions.{ids_in}
use Rattle.scale_info_types.specs.References.{references}
use Rattle.scale_info_types.specs.Shapes.{Shape}
use Rattle.scale_info_types.specs.declared.ty.PortableType.{PortableType}
use Rattle.scale_info_walk.specs.TypeSystems.{entry_of, types_system}
use Rattle.scale_info_table_view.proofs.Viewed.{same_entry}
use Rattle.scale_info_table_view.specs.Views.{BeginsWithEntry}

-- what is gathered of the entry at an index are its references
pub references_found :
    (types : List PortableType) (index : ℕ) (bytes rest none ids : List ℕ)
    → BeginsWithEntry types index bytes → none ≡ []
    → AppendsReferences EncodesPortableType (λ entry. references entry.ty) bytes rest none ids
    → Some ids ≡ option_map (λ entry. ids_in entry.ty) (slice_get types index)
references_found types index bytes rest none ids begins is gathered =
    ap Some (gathered.appends ∙ ap (λ before. before ++ ids_of (references gathered.value.ty)) is)
    ∙ ap (option_map (λ entry. ids_in entry.ty))
    (same_entry types index bytes rest gathered.value begins gathered.prefix)

-- where there are references, there is an entry whose references they are
of_entry :
    (found : Option PortableType) (ids : List ℕ)
    → Some ids ≡ option_map (λ entry. ids_in entry.ty) found
    → (entry : PortableType) × (found ≡ Some entry) × (ids ≡ ids_in entry.ty)
of_entry None ids is = absurd (none-some ids (sym is))
of_entry (Some entry) ids is = (entry, refl, same_Some ids (ids_in entry.ty) is)

-- where the references at an index are put before others, they are those of the system there
pub prepended :
    {A E : Type 0} (types : List PortableType) (index : ℕ) (ids part old new : List ℕ)
    (result : Result A E)
    → Some ids ≡ option_map (λ entry. ids_in entry.ty) (slice_get types index) → part ≡ ids
    → OnOk result (new ≡ part ++ old)
    → OnOk result ((d : Entry Shape ℕ) × (types_system types index ≡ Some d) × (new ≡ d.refs ++ old))
prepended types index ids part old new (Ok x) is same put =
    let there = of_entry (slice_get types index) ids is in (
      entry_of there.0,
      ap (option_map entry_of) there.1,
      put ∙ ap (λ refs. refs ++ old) (same ∙ there.2),
    )
prepended types index ids part old new (Err e) is same put = tt
