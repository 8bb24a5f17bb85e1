-- Texts that are cut where they went on.
use Rattle.std.proofs.Common.{◌≡◌, ◌∙◌, ℕ, List, length, take, ap, sym, subst, arith, length-append}
use Rattle.std.proofs.Math.Seq.{take-append_seam}
use Rattle.std.proofs.lemmas.Str.{IsCharBoundary-from_take}
use Rattle.std.specs.Str.{IsCharBoundary, IsUtf8}
use Rattle.scale_info_table_dot.specs.GraphTexts.{GoesOn}

-- what was there before stays
pub taken : (old new : List ℕ) → GoesOn old new → take (length old) new ≡ old
taken old new goes = ap (take (length old)) goes.parts ∙ take-append_seam old goes.more

-- a text that went on may be cut where it did
pub cut :
    (old new : List ℕ) → IsUtf8 old → IsUtf8 new → GoesOn old new → IsCharBoundary new (length old)
cut old new text longer goes =
    IsCharBoundary-from_take new (length old) longer
    (omega (arith, ap length goes.parts ∙ length-append old goes.more))
    (subst IsUtf8 (sym (taken old new goes)) text)
