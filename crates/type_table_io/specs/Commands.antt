-- Commands, and the arguments that name them. A text is the list of its bytes.
use Rattle.std.specs.Prelude.{◌≡◌, ℕ, List, [], ◌∷◌, codes, map}
use Rattle.type_table_io.specs.Ids.{AreIdTexts, id_in}
use Rattle.type_table_io.specs.declared.command.Command.{Command}
use Rattle.type_table_io.specs.declared.command.Command.TheVariants.{Check, Prune, Json}

-- the arguments name the command
abbrev pub Names : List (List ℕ) → Command → Type 0
Names arguments Check = arguments ≡ codes "check" ∷ []
Names arguments (Prune ids) = (arguments ≡ codes "prune" ∷ ids.now) × AreIdTexts ids.now
Names arguments Json = arguments ≡ codes "json" ∷ []

-- what a command holds as ids are ids
abbrev pub HasIdTexts : Command → Type 0
HasIdTexts Check = Unit {0}
HasIdTexts (Prune ids) = AreIdTexts ids.now
HasIdTexts Json = Unit {0}

-- the ids that the command is given; only `prune` is given some
abbrev pub given_ids : Command → List ℕ
given_ids Check = []
given_ids (Prune ids) = map id_in ids.now
given_ids Json = []

-- the arguments name a command, where `Names` says which they name, and the fact holds of it
pub record HasCommandBy {C : Type 0} (Names : List (List ℕ) → C → Type 0)
    (arguments : List (List ℕ)) (P : C → Type 0) : Type 0 where
  pub command : C
  pub names : Names arguments command
  pub holds : P command

-- the arguments name a command, and the fact holds of it
abbrev pub HasCommand : List (List ℕ) → (Command → Type 0) → Type 0
HasCommand arguments P = HasCommandBy Names arguments P

-- the arguments name a command
abbrev pub IsCommand : List (List ℕ) → Type 0
IsCommand arguments = HasCommand arguments (λ command. Unit {0})
