use Rattle.std.proofs.Common.{◌≡◌, ◌++◌, string_bytes}
use Rattle.std.specs.Str.Iter.{chars_rest}
use Rattle.scale_info_table_dot.specs.GraphTexts.{GoesOn, label_text}
use Rattle.scale_info_table_dot.proofs.pieces.append_label.Given as goal

abbrev pub invariant-loop-character : goal.invariant-loop-character
invariant-loop-character l =
    (string_bytes l.out ++ label_text (chars_rest l.character-iterator)
    ≡ string_bytes l.fn.out ++ label_text l.fn.text)
    × GoesOn (string_bytes l.fn.out) (string_bytes l.out)
