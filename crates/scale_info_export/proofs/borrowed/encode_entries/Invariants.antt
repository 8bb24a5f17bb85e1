use Rattle.std.proofs.Common.{take}
use Rattle.scale_info_bytes.specs.Encodings.{AppendsEncoding}
use Rattle.scale_info_bytes.specs.Parts.{EncodesItems}
use Rattle.scale_info_grammar.specs.Ty.{EncodesPortableType}
use Rattle.scale_info_export.specs.BorrowedEntries.{picked, renumbered_entries}
use Rattle.scale_info_export.proofs.borrowed.encode_entries.Given as goal

abbrev pub invariant-loop-id : goal.invariant-loop-id
invariant-loop-id l =
    AppendsEncoding
    (EncodesItems EncodesPortableType
    (renumbered_entries l.ids.numbers.now l.ids.new.now (picked l.borrowed.descriptions.items (take l.id l.order))))
    l.fn.out.items l.out.items
