-- What is written to a writer whose bytes are known.
use Rattle.std.specs.Prelude.{ℕ, List, take, IsSome}
use Rattle.std.specs.declared.option.Option.{Option}
use Rattle.std.specs.Io.KnownBytes.{Appends}

-- known bytes grow by a prefix of bs, which may be empty or all of bs
pub record AppendsPrefix (old new : Option (List ℕ)) (bs : List ℕ) : Type 0 where
  pub count : ℕ
  pub appends : Appends old new (take count bs)

-- the writer reports its bytes, and they grew by exactly this line
pub record Reported (old new : Option (List ℕ)) (line : List ℕ) : Type 0 where
  pub is_known : IsSome old
  pub appends : Appends old new line
