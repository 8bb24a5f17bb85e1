use Rattle.std.proofs.Common.{◌≡◌, ◌≤◌, ℕ, Contains, length, slice_get, take, vec_capacity}
use Rattle.scale_info_references.specs.Conversions.{number_of}
use Rattle.scale_info_walk.specs.Kept.{AreKept}
use Rattle.scale_info_table.proofs.retain.kept_entries.Given as goal

abbrev pub invariant-loop-index : goal.invariant-loop-index
invariant-loop-index l = record {
  kept : AreKept l.fn.types.items (take l.index-index l.order) (number_of l.numbers) l.kept.items;
  others : (k : ℕ) → ¬ (Contains (take l.index-index l.order) k) → slice_get l.types.items k ≡ slice_get l.fn.types.items k;
  long : length l.types.items ≡ length l.fn.types.items;
  room : length l.order ≤ vec_capacity l.kept;
}
