-- References gathered in a list.
use Rattle.std.specs.Prelude.{◌≡◌, ◌++◌, List, map}
use Rattle.std.specs.Borrow.{Bor}

-- what the borrows in the list point at, in order
abbrev pub targets : {X : Type 0} → List (Bor X) → List X
targets found = map (λ r. r.now) found

-- these are added at the end
abbrev pub AddsReferences : {X : Type 0} → List (Bor X) → List X → List (Bor X) → Type 0
AddsReferences old more new = targets new ≡ targets old ++ more
