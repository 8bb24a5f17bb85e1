use Rattle.std.proofs.Common.{ℕ, List, All, Contains, take}
use Rattle.scale_info_numberings.specs.Tables.{ArePlaces}
use Rattle.scale_info_walk.specs.Walks.{AreNumbers}
use Rattle.scale_info_table_prune.proofs.new_ids.new_ids_of.Given as goal

abbrev pub invariant-loop-id : goal.invariant-loop-id
invariant-loop-id l =
    (order : List ℕ) → AreNumbers order l.numbers → All (λ id. Contains order id) l.ids
    → ArePlaces order (take l.id-index l.ids) l.new_ids.items
