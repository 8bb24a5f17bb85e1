use Rattle.std.proofs.Common.{◌≡◌, ◌++◌, drop, string_bytes}
use Rattle.std.specs.List.{flat_map}
use Rattle.type_reader_run.specs.Listings.{title_line}
use Rattle.type_reader_run.proofs.listing.titles_of.Given as goal

abbrev pub invariant-loop-id : goal.invariant-loop-id
invariant-loop-id l =
    string_bytes l.out ++ flat_map (title_line l.table) (drop l.id-index l.ids)
    ≡ flat_map (title_line l.table) l.ids
