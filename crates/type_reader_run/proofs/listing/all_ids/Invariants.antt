use Rattle.std.proofs.Common.{◌≡◌, filter, not}
use Rattle.std.specs.List.{range_with_len}
use Rattle.type_reader_run.specs.Listings.{has_path}
use Rattle.type_reader_run.proofs.listing.all_ids.Given as goal

abbrev pub invariant-loop-index : goal.invariant-loop-index
invariant-loop-index l =
    (l.ids.items ≡ filter (has_path l.table.types) (range_with_len 0 l.index))
    × (l.others.items ≡ filter (λ id. not (has_path l.table.types id)) (range_with_len 0 l.index))
