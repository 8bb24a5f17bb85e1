use Rattle.std.proofs.Common.{List, take}
use Rattle.scale_info_types.specs.declared.ty.PortableType.{PortableType}
use Rattle.scale_info_bytes.specs.Encodings.{IsPrefix}
use Rattle.scale_info_passes.specs.Entries.{AreAtOffsets, AppendsKeptEntries}
use Rattle.scale_info_passes.specs.Visits.{renumbered}
use Rattle.scale_info_passes.proofs.entries.renumber_entries.Given as goal

abbrev pub invariant-loop-id : goal.invariant-loop-id
invariant-loop-id l = record {
  appends : (entries : List PortableType) → AreAtOffsets l.input entries l.offsets →
      AppendsKeptEntries entries (renumbered l.numbers) (take l.id l.indices) l.fn.out.items l.out.items;
  keeps : IsPrefix l.fn.out.items l.out.items;
}
