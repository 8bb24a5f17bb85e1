-- ViewedEntries of a view that are decoded one after another.
use Rattle.std.specs.Prelude.{◌≡◌, List, [], ◌∷◌, Option, Some, None, Result, Ok, Err}

-- a call gave the first of what was left, and left the others; or it gave an error in place of the
-- first, and left the others; or nothing was left
abbrev pub YieldsFirstOrFails : {A E : Type 0} → List A → Option (Result A E) → List A → Type 0
YieldsFirstOrFails before None after = (before ≡ []) × (after ≡ [])
YieldsFirstOrFails before (Some (Ok item)) after = before ≡ item ∷ after
YieldsFirstOrFails {A} before (Some (Err e)) after = (item : A) × (before ≡ item ∷ after)
