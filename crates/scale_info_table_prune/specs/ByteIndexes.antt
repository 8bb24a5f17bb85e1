-- An index of a table's bytes, as a reference system.
use Rattle.std.specs.Prelude.{ℕ, ◌+◌, ◌-◌, List, length, drop, take, option_map, slice_get}
use Rattle.std.specs.Prelude.{slice_index_or}
use Rattle.scale_info_numberings.specs.Systems.{System}

-- the references of the entry whose first reference has this index: up to those of the next entry
abbrev pub references_from : List ℕ → List ℕ → ℕ → ℕ → List ℕ
references_from starts references i start =
    take (slice_index_or starts (i + 1) (length references) - start) (drop start references)

-- each entry with its references and no shape
abbrev pub index_system : List ℕ → List ℕ → System (Unit {0}) ℕ
index_system starts references i =
    option_map (λ start. record { shape = tt; refs = references_from starts references i start })
    (slice_get starts i)
