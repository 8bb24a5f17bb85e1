use Rattle.std.proofs.Common.{◌≡◌, Result, Ok, Err, OnOk, Some, List, ℕ, ap, option_map, slice_get}
use Rattle.std.proofs.Common.{◌++◌, get_or}
use Rattle.std.proofs.lemmas.Option.{slice_get-get_or}
use Rattle.scale_info_numberings.specs.Systems.{Entry}
use Rattle.scale_info_types.specs.Shapes.{Shape}
use Rattle.scale_info_types.specs.declared.ty.PortableType.{PortableType}
use Rattle.scale_info_references.specs.Conversions.{ids_in}
use Rattle.scale_info_walk.specs.TypeSystems.{types_system, entry_of}
use Rattle.scale_info_walk.proofs.references.TypeReferencesReferences.prepend_refs.Goals as goal

prepended :
    {A E : Type 0} (types : List PortableType) (id : ℕ) (entry : PortableType) (old new : List ℕ)
    (r : Result A E)
    → slice_get types id ≡ Some entry
    → OnOk r (new ≡ ids_in entry.ty ++ old)
    → OnOk r ((x : Entry Shape ℕ) × (types_system types id ≡ Some x) × (new ≡ x.refs ++ old))
prepended types id entry old new (Ok x) e h = (entry_of entry, ap (option_map entry_of) e, h)
prepended types id entry old new (Err x) e h = tt

pub returns-clause-refs : goal.returns-clause-refs
returns-clause-refs c =
    let types = c.args.self.now.types.now in
    prepended types c.args.id (get_or types c.args.id c.index-self-id.result) c.args.refs.now c.prepend_of.new.self
    c.prepend_of.result (slice_get-get_or types c.args.id c.index-self-id.result c.requires) c.prepend_of.ensures.ok
