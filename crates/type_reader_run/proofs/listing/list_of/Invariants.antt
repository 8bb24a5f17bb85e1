use Rattle.std.proofs.Common.{◌≡◌, ◌++◌, drop, string_bytes}
use Rattle.std.specs.List.{flat_map}
use Rattle.type_reader_run.specs.Listings.{listed_type}
use Rattle.type_reader_run.proofs.listing.list_of.Given as goal

abbrev pub invariant-loop-id : goal.invariant-loop-id
invariant-loop-id l =
    string_bytes l.out ++ flat_map (listed_type l.table) (drop l.id-index l.ids)
    ≡ flat_map (listed_type l.table) l.ids
