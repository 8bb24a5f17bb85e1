-- What a caller of loaded types cites.
use Rattle.std.specs.Prelude.{ℕ, List, [], ◌∷◌, Contains}
use Rattle.std.proofs.Common.{arith}
use Rattle.scale_info_numberings.proofs.Places.{contains_head}
use Rattle.scale_info_numberings.specs.Systems.{IsReached, root}
use Rattle.scale_info_table.specs.TableSystems.{system_of}
use Rattle.scale_info_table.specs.declared.portable.PortableRegistry.{PortableRegistry}

-- an id that is chosen is reached
pub chosen_reached :
    (table : PortableRegistry) (ids : List ℕ) (id : ℕ)
    → Contains ids id → IsReached (system_of table) ids id
chosen_reached table ids id chosen = root id chosen (λ none. let within = none.1 in omega arith)

-- so is one that is chosen alone
pub alone_reached : (table : PortableRegistry) (id : ℕ) → IsReached (system_of table) (id ∷ []) id
alone_reached table id = chosen_reached table (id ∷ []) id (contains_head id [])
