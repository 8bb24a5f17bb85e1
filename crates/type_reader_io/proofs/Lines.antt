-- The first line of some bytes, and those after it.
use Rattle.std.proofs.Common.{◌≡◌, ◌≢◌, ℕ, suc, ◌<◌, ◌==◌, eqb}
use Rattle.std.proofs.Common.{false, List, [], ◌∷◌, ◌++◌, ◌∙◌, length, refl}
use Rattle.std.proofs.Common.{ap, arith, ne_eqb, if◌then◌else◌}
use Rattle.std.proofs.lemmas.List.Splits.{length-slice_split, slice_split_at, slice_split_none}
use Rattle.std.specs.List.{slice_split}
use Rattle.std.specs.Str.Lines.{lines, lines_of_parts, strip_carriage_return}
use Rattle.type_reader_io.specs.Inputs.{IsWithoutFeed}

-- the lines in parts of which there is more than one
lines_more :
    (line : List ℕ) (parts : List (List ℕ)) → 0 < length parts
    → lines_of_parts (line ∷ parts) ≡ strip_carriage_return line ∷ lines_of_parts parts
lines_more line [] some = absurd (omega arith)
lines_more line (part ∷ parts) some = refl

-- a line that ends with a line feed, and those after it
pub lines_at_feed :
    (line rest : List ℕ) → IsWithoutFeed line
    → lines (line ++ 10 ∷ rest) ≡ strip_carriage_return line ∷ lines rest
lines_at_feed line rest without =
    let parts = slice_split (λ b. b == 10) rest in
    let more : 0 < length parts = omega (arith, length-slice_split (λ b. b == 10) rest) in
    ap lines_of_parts (slice_split_at (λ b. b == 10) line 10 rest without refl)
    ∙ lines_more line parts more

-- the one line without a line feed
only_line : (bytes : List ℕ) → bytes ≢ [] → lines_of_parts (bytes ∷ []) ≡ bytes ∷ []
only_line [] some = absurd (some refl)
only_line (x ∷ xs) some =
    let long : eqb (suc (length xs)) 0 ≡ false = ne_eqb _ 0 (λ e. omega (arith, e)) in
    ap (λ b. if b then [] else (x ∷ xs) ∷ []) long

-- a last line, which lacks its line feed
pub last_line : (line : List ℕ) → line ≢ [] → IsWithoutFeed line → lines line ≡ line ∷ []
last_line line some without =
    ap lines_of_parts (slice_split_none (λ b. b == 10) line without) ∙ only_line line some
