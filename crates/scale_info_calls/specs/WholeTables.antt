-- Tables that are a whole input, and what is made of them.
use Rattle.std.specs.Prelude.{◌≡◌, ℕ, List, []}
use Rattle.serde_json.specs.Written.{compact_text}
use Rattle.scale_info_bytes.specs.Encodings.{HasNoPrefix}
use Rattle.scale_info_grammar.specs.Ty.{EncodesTypes}
use Rattle.scale_info_json_trees.specs.EntryTrees.{types_tree}
use Rattle.scale_info_table_prune.specs.Prunes.{HasDangling, HasNoSuchType, IsPrunedEncoding}
use Rattle.scale_info_table_prune.specs.TableIndexes.{HasTrailing}
use Rattle.scale_info_table_prune.specs.declared.prune.PruneError.{PruneError}
use Rattle.scale_info_table_prune.specs.declared.prune.PruneError.TheVariants as prune_errors
use Rattle.scale_info_types.specs.declared.ty.PortableType.{PortableType}
use Rattle.scale_info_calls.specs.declared.error.CallError.{CallError}
use Rattle.scale_info_calls.specs.declared.error.CallError.TheVariants as errors

-- the input encodes one table, with nothing after it
pub record IsOneTable (input : List ℕ) : Type 0 where
  pub types : List PortableType
  pub encodes : EncodesTypes types input

-- why the input is not one table
abbrev pub IsNoTable : List ℕ → CallError → Type 0
IsNoTable input errors.Malformed = HasNoPrefix EncodesTypes input
IsNoTable input errors.TrailingBytes = HasTrailing input
IsNoTable input error = ⊥

-- why nothing is made of the input: it is not one table; or an allocation failed
abbrev pub IsTableRefusal : List ℕ → CallError → Type 0
IsTableRefusal input errors.Memory = Unit {0}
IsTableRefusal input error = IsNoTable input error

-- the input is one table, and the text is the compact text of its JSON tree
pub record IsJsonOf (input text : List ℕ) : Type 0 where
  pub types : List PortableType
  pub encodes : EncodesTypes types input
  pub written : text ≡ compact_text (types_tree types)

-- the input is one table, and the output an encoding of the table of the numbering of it from the
-- given ids in ascending order, each once
pub record IsPruned (input given output : List ℕ) : Type 0 where
  pub order : List ℕ
  pub pruned : IsPrunedEncoding input given order [] output

-- why the input is not pruned to the given ids
abbrev pub IsPruneRefusal : (input given : List ℕ) → CallError → Type 0
IsPruneRefusal input given (errors.NoSuchType id) = HasNoSuchType input given id
IsPruneRefusal input given (errors.Dangling id) = HasDangling input given id
IsPruneRefusal input given error = IsTableRefusal input error

-- the error of a call for one of pruning, or of reading a table
abbrev pub error_of : PruneError → CallError
error_of prune_errors.Malformed = errors.Malformed
error_of prune_errors.Trailing = errors.TrailingBytes
error_of (prune_errors.NoSuchType id) = errors.NoSuchType id
error_of (prune_errors.Dangling id) = errors.Dangling id
error_of prune_errors.Memory = errors.Memory
