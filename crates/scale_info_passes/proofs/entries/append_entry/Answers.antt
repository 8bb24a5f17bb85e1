use Rattle.std.proofs.Common.{refl}
use Rattle.scale_info_passes.proofs.Offsets.{appends_entry, description_at_offset, offset_within}
use Rattle.scale_info_passes.proofs.Offsets.{rest_at}
use Rattle.scale_info_passes.proofs.entries.append_entry.Goals as goal

pub slice_bounds-description-count : goal.slice_bounds-description-count
slice_bounds-description-count c =
    let some = c.requires.offsets in
    offset_within some.entries c.args.index c.args.input.now c.args.offsets.now some.at_offsets c.requires.within

pub slice_bounds-description-start : goal.slice_bounds-description-start
slice_bounds-description-start c =
    let some = c.requires.offsets in
    offset_within some.entries c.args.index c.args.input.now c.args.offsets.now some.at_offsets c.requires.within

pub renumber-requires : goal.renumber-requires
renumber-requires c =
    let some = c.requires.offsets in
    description_at_offset some.entries c.args.index c.args.input.now c.args.offsets.now _ some.at_offsets c.requires.within
    (rest_at c.args.input.now _ _ refl)

pub returns-clause-ok : goal.returns-clause-ok
returns-clause-ok c = λ entries at_offsets.
    appends_entry entries _ c.args.id c.args.index c.args.input.now c.args.offsets.now _ _ _ _ _ at_offsets c.requires.within
    (rest_at c.args.input.now _ _ refl) c.in_ok-encode_compact.ensures.ok c.in_ok-renumber.ensures.ok
