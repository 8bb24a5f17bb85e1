use Rattle.std.proofs.Common.{◌≡◌, ℕ, List, length}
use Rattle.scale_info_bytes.specs.Encodings.{HasPrefix}
use Rattle.scale_info_bytes.specs.Parts.{EncodesItems}
use Rattle.scale_info_bytes.specs.Strings.{EncodesText}
use Rattle.scale_info_segments.specs.TypePaths.{texts}
use Rattle.scale_info_types.specs.Portable.{Text}
use Rattle.scale_info_table_view.proofs.PathsFound.{AreReadSoFar}
use Rattle.scale_info_table_view.proofs.path.has_segments.Given as goal

abbrev pub invariant-loop-segment : goal.invariant-loop-segment
invariant-loop-segment l =
    (strings : List Text) (end : List ℕ) → length strings ≡ length l.path
    → HasPrefix (EncodesItems EncodesText strings) l.bytes end
    → AreReadSoFar strings (texts l.path) l.segment-index l.rest end
