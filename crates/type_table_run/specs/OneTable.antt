-- Whether bytes are one table.
use Rattle.std.specs.Prelude.{ℕ, List}
use Rattle.scale_info_bytes.specs.Encodings.{HasNoPrefix}
use Rattle.scale_info_grammar.specs.Ty.{EncodesTypes}
use Rattle.scale_info_table_prune.specs.TableIndexes.{HasTrailing}
use Rattle.scale_info_types.specs.declared.ty.PortableType.{PortableType}
use Rattle.type_table_io.specs.declared.error.RunError.{RunError}
use Rattle.type_table_io.specs.declared.error.RunError.TheVariants.{Malformed, TrailingBytes}
use Rattle.type_table_io.specs.declared.error.RunError.TheVariants.{NoSuchType, Dangling}
use Rattle.type_table_io.specs.declared.error.RunError.TheVariants.{Memory, Input, Output}

-- the input encodes one table, with nothing after it
pub record IsOneTable (input : List ℕ) : Type 0 where
  pub types : List PortableType
  pub encodes : EncodesTypes types input

-- why the input is not found to be one table
abbrev pub IsCheckError : List ℕ → RunError → Type 0
IsCheckError input Malformed = HasNoPrefix EncodesTypes input
IsCheckError input TrailingBytes = HasTrailing input
IsCheckError input (NoSuchType id) = ⊥
IsCheckError input (Dangling id) = ⊥
IsCheckError input Memory = Unit {0}
IsCheckError input Input = ⊥
IsCheckError input Output = ⊥
