-- Caches of numbers: lists of slots, each for some of the hashes.
use Rattle.std.specs.Prelude.{ℕ, List, length, ◌-◌, bit_and}

-- the index of the slot of a hash; the number of slots is a power of two
abbrev pub slot_of : List ℕ → ℕ → ℕ
slot_of slots hash = bit_and hash (length slots - 1)
