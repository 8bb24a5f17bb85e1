-- Descriptions with their ids.
use Rattle.std.proofs.Common.{◌≡◌, ℕ, List, length}
use Rattle.std.proofs.lemmas.List.FromFn.{length-enumerate_from}
use Rattle.std.specs.List.{enumerate_from}
use Rattle.scale_info_types.specs.Portable as portable

-- there are as many as descriptions
pub length_enumerated :
    (id : ℕ) (types : List portable.Description)
    → length (enumerate_from id types) ≡ length types
length_enumerated id types = length-enumerate_from id types
