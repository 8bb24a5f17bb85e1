use Rattle.std.proofs.Common.{◌≡◌, ◌++◌, drop, string_bytes}
use Rattle.std.specs.List.{flat_map}
use Rattle.scale_info_table_dot.specs.GraphTexts.{GoesOn}
use Rattle.scale_info_table_dot.proofs.pieces.append_pieces.Given as goal

abbrev pub invariant-loop-piece : goal.invariant-loop-piece
invariant-loop-piece l =
    (string_bytes l.out ++ flat_map (λ piece. piece.now) (drop l.piece-index l.pieces)
    ≡ string_bytes l.initial.out ++ flat_map (λ piece. piece.now) l.pieces)
    × GoesOn (string_bytes l.initial.out) (string_bytes l.out)
