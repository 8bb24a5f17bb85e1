-- What an iterator that is handed in gives.
use Rattle.std.specs.Prelude.{List, Option}
use Rattle.std.specs.Iterator.{Drains}

-- The iterator made of `source` gives these items, in order, and then ends. `into` and `next` are
-- the members `into_iter_gives` and `next_gives` of the source's type and of its iterator's.
abbrev pub GivesAll :
    {I S A : Type 0}
    → (I → S → Type 0) → (S → Option A → S → Type 0) → I → List A → Type 0
GivesAll {I} {S} into next source items =
    (iterator : S) × into source iterator × Drains next iterator items
