-- What is written of a table.
use Rattle.std.specs.Prelude.{◌≡◌, ◌++◌, ℕ, Bool, IfSome, List, [], codes, decimal, map}
use Rattle.std.specs.declared.option.Option.{Option}
use Rattle.std.specs.BTreeMap.{BTreeMap, IsOrdered}
use Rattle.std.specs.Ordering.{nat_cmp}
use Rattle.std.specs.Io.KnownBytes.{Appends}
use Rattle.std.specs.List.{flat_map}
use Rattle.scale_info_table_describe.specs.PathSearches.{AreIdsBy, stands_in}
use Rattle.scale_info_table_docs.specs.WithoutDocs.{entry_without_docs}
use Rattle.scale_info_grammar.specs.Ty.{EncodesTypes}
use Rattle.scale_info_table_dot.specs.GraphTexts.{AppendsGraph}
use Rattle.scale_info_table_prune.specs.Prunes.{HasNewIds, IsPrunedEncoding}
use Rattle.scale_info_table_metadata.specs.TablesFound.{IsTableOf}
use Rattle.scale_info_table_metadata.specs.declared.metadata.Source.{Source}
use Rattle.scale_info_table.specs.declared.portable.PortableRegistry.{PortableRegistry}
use Rattle.scale_info_types.specs.declared.ty.PortableType.{PortableType}
use Rattle.type_reader_io.specs.declared.command.Request.{Request}
use Rattle.type_reader_io.specs.declared.command.Request.TheVariants as requests
use Rattle.type_reader_run.specs.Conversions.{IsConverted}
use Rattle.type_reader_run.specs.Listings.{AreListed, listed_type, title_line}
use Rattle.type_reader_run.specs.Selections.{AreSelected}
use Rattle.type_reader_run.specs.Tables.{input_bytes, is_hexadecimal, source_line}
use Rattle.type_reader_run.specs.declared.output.OutputBytes.{OutputBytes}
use Rattle.type_reader_run.specs.declared.output.OutputBytes.TheVariants as output_bytes
use Rattle.type_table_io.specs.Reports.{AppendsPrefix}

-- the output encodes the table without docs
pub record IsStripped (table output : List ℕ) : Type 0 where
  pub types : List PortableType
  pub encodes : EncodesTypes types table
  pub without_docs : EncodesTypes (map entry_without_docs types) output

-- the output is the text of the types that the texts give, one after another; of all, where there
-- is no text
pub record IsListing (table : List ℕ) (texts : List (List ℕ)) (output : List ℕ) : Type 0 where
  pub registry : PortableRegistry
  pub encodes : EncodesTypes registry.types table
  pub ids : List ℕ
  pub listed : AreListed registry.types texts ids
  pub text : output ≡ flat_map (listed_type registry) ids

-- the output has a line for each type in whose path the segments of the pattern stand in a row
pub record IsFinding (table pattern output : List ℕ) : Type 0 where
  pub registry : PortableRegistry
  pub encodes : EncodesTypes registry.types table
  pub ids : List ℕ
  pub found : AreIdsBy stands_in registry.types pattern ids
  pub text : output ≡ flat_map (title_line registry) ids

-- the line of an old id and its new one
abbrev pub id_line : ℕ × ℕ → List ℕ
id_line ids = decimal ids.0 ++ codes " -> " ++ decimal ids.1 ++ codes "\n"

-- the output encodes the table of what the ids reach, and the notes are the lines of the old ids
-- that are kept, ascending and each once, and their new ones
pub record IsPruned (table ids output notes : List ℕ) : Type 0 where
  pub order : List ℕ
  pub pruned : IsPrunedEncoding table ids order [] output
  pub new_ids : BTreeMap ℕ ℕ
  pub ascending : IsOrdered nat_cmp new_ids
  pub has_new_ids : HasNewIds order new_ids
  pub lines : notes ≡ flat_map id_line new_ids.entries

-- the output and the notes are those of the table of what the types reach that the texts give
pub record IsPruning (table : List ℕ) (texts : List (List ℕ)) (output notes : List ℕ)
    : Type 0 where
  pub types : List PortableType
  pub encodes : EncodesTypes types table
  pub ids : List ℕ
  pub selected : AreSelected types texts ids
  pub pruned : IsPruned table ids output notes

-- the output is the graph of what the types reach that the texts give
pub record IsGraph (table : List ℕ) (texts : List (List ℕ)) (output : List ℕ) : Type 0 where
  pub registry : PortableRegistry
  pub encodes : EncodesTypes registry.types table
  pub ids : List ℕ
  pub selected : AreSelected registry.types texts ids
  pub graph : AppendsGraph registry ids [] output

-- for the table, and the line that says what the input is, the request has this output and these
-- notes
abbrev pub OutputsOf : Request → (source_line table output notes : List ℕ) → Type 0
OutputsOf requests.Table source_line table output notes =
    (output ≡ table) × (notes ≡ source_line)
OutputsOf requests.Strip source_line table output notes =
    IsStripped table output × (notes ≡ source_line)
OutputsOf (requests.List texts) source_line table output notes =
    IsListing table texts.now output × (notes ≡ [])
OutputsOf (requests.Find pattern) source_line table output notes =
    IsFinding table pattern.now output × (notes ≡ [])
OutputsOf (requests.Prune texts) source_line table output notes =
    IsPruning table texts.now output notes
OutputsOf (requests.Graph texts) source_line table output notes =
    IsGraph table texts.now output × (notes ≡ [])
OutputsOf (requests.Convert conversion text value) source_line table output notes =
    IsConverted conversion table text.now value.now output × (notes ≡ [])

-- the bytes have a table, for which the request has this output and these notes
pub record MakesOf (request : Request) (is_hexadecimal : Bool) (bytes output notes : List ℕ)
    : Type 0 where
  pub source : Source
  pub table : List ℕ
  pub found : IsTableOf bytes source table
  pub outputs : OutputsOf request (source_line source is_hexadecimal) table output notes

-- for the whole input the request has this output and these notes
abbrev pub HasOutput : Request → (input output notes : List ℕ) → Type 0
HasOutput request input output notes =
    MakesOf request (is_hexadecimal input) (input_bytes input) output notes

-- known bytes grow by the request's output for the input, which has these notes
pub record Writes (request : Request) (old new : Option (List ℕ)) (notes input : List ℕ)
    : Type 0 where
  pub output : List ℕ
  pub has_output : HasOutput request input output notes
  pub appends : Appends old new output

-- known bytes grow by the request's output for the whole input, which has these notes
pub record WritesWhole (request : Request) (input old new : Option (List ℕ)) (notes : List ℕ)
    : Type 0 where
  pub whole : List ℕ
  pub is_whole : IfSome input (λ bytes. whole ≡ bytes)
  pub writes : Writes request old new notes whole

-- the request has an output for the input, and known bytes grow by a prefix of it
pub record WritesPrefix (request : Request) (old new : Option (List ℕ)) (input : List ℕ)
    : Type 0 where
  pub output : List ℕ
  pub notes : List ℕ
  pub has_output : HasOutput request input output notes
  pub appends : AppendsPrefix old new output

-- the bytes of an output that is borrowed or was made
abbrev pub bytes_of : OutputBytes → List ℕ
bytes_of (output_bytes.Borrowed bytes) = bytes.now
bytes_of (output_bytes.Made bytes) = bytes.items
