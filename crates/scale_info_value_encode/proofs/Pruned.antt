-- Pruning changes no encoding.
use Rattle.std.proofs.Common.{◌≡◌, ℕ, List, map, slice_get, Some, refl, ap}
use Rattle.scale_info_numberings.specs.Tables.{IsTable}
use Rattle.scale_info_table.specs.TableSystems.{system_of}
use Rattle.scale_info_walk.specs.TypeSystems.{entry_of}
use Rattle.scale_info_table.specs.declared.portable.PortableRegistry.{PortableRegistry}
use Rattle.scale_info_value.specs.declared.value.Value.{Value}
use Rattle.scale_info_value.proofs.Unfolded.{same_in_table}
use Rattle.scale_info_value_encode.specs.Writings.{writing, value_within, compact_within}
use Rattle.scale_info_value_encode.proofs.AsLevels.{writings}

-- a table of nodes encodes as the table that they are nodes of
pub writes_alike :
    (old new : PortableRegistry) (kept : List ℕ) → IsTable (system_of old) kept (map entry_of new.types)
    → (index id : ℕ) → slice_get kept index ≡ Some id → (depth : ℕ) (value : Value)
    → writing new index depth value ≡ writing old id depth value
unfolding writings value_within compact_within
writes_alike old new kept table index id at depth value =
    ap (λ write. write value)
    (same_in_table writings (λ table other r s value inner compact. refl) old new kept table index id at depth)
