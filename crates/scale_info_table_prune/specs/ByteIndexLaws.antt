-- What an implementation cites of an index of a table's bytes as a reference system.
use Rattle.std.specs.Prelude.{◌≡◌, ◌≤◌, ℕ, List, None, length, option_map}
use Rattle.std.proofs.Common.{ap}
use Rattle.std.proofs.lemmas.Option.{slice_get_past}
use Rattle.scale_info_table_prune.specs.ByteIndexes.{index_system, references_from}

-- nothing stands at what is no index
pub nothing_past_index :
    (starts references : List ℕ) (id : ℕ) → length starts ≤ id
    → index_system starts references id ≡ None
nothing_past_index starts references id past =
    ap
    (option_map (λ start. record { shape = tt; refs = references_from starts references id start }))
    (slice_get_past starts id past)
