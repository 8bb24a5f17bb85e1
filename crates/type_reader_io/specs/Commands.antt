-- Commands, and the arguments that name them. A text is the list of its bytes.
use Rattle.std.specs.Prelude.{◌≡◌, ◌≢◌, ℕ, List, [], ◌∷◌, codes}
use Rattle.type_table_io.specs.Commands.{HasCommandBy}
use Rattle.type_reader_io.specs.declared.command.Command.{Command}
use Rattle.type_reader_io.specs.declared.command.Command.TheVariants as commands
use Rattle.type_reader_io.specs.declared.command.Comparison.{Comparison}
use Rattle.type_reader_io.specs.declared.command.Conversion.{Conversion}
use Rattle.type_reader_io.specs.declared.command.Conversion.TheVariants as conversions
use Rattle.type_reader_io.specs.declared.command.Docs.{Docs}
use Rattle.type_reader_io.specs.declared.command.Docs.TheVariants as docs
use Rattle.type_reader_io.specs.declared.command.Request.{Request}
use Rattle.type_reader_io.specs.declared.command.Request.TheVariants as requests

-- the word of a conversion
abbrev pub conversion_word : Conversion → List ℕ
conversion_word conversions.Decode = codes "value"
conversion_word conversions.Encode = codes "encode"

-- the request has this word, and these arguments after the table: there is one type at least to
-- prune to, or to write as a graph
abbrev pub IsRequest : (word : List ℕ) → List (List ℕ) → Request → Type 0
IsRequest word more requests.Table = (word ≡ codes "table") × (more ≡ [])
IsRequest word more requests.Strip = (word ≡ codes "strip") × (more ≡ [])
IsRequest word more (requests.List texts) = (word ≡ codes "list") × (more ≡ texts.now)
IsRequest word more (requests.Find pattern) = (word ≡ codes "find") × (more ≡ pattern.now ∷ [])
IsRequest word more (requests.Prune texts) =
    (word ≡ codes "prune") × (more ≡ texts.now) × (texts.now ≢ [])
IsRequest word more (requests.Graph texts) =
    (word ≡ codes "graph") × (more ≡ texts.now) × (texts.now ≢ [])
IsRequest word more (requests.Convert conversion ty value) =
    (word ≡ conversion_word conversion) × (more ≡ ty.now ∷ value.now ∷ [])

-- the first argument after `diff`, and those after it: where docs count, `--docs`, and then the
-- tables and the paths; else the tables and the paths
abbrev pub AreOperandsBy : Docs → (old new : List ℕ) → (paths : List (List ℕ)) → (first : List ℕ)
    → (more : List (List ℕ)) → Type 0
AreOperandsBy docs.LeftOut old new paths first more =
    (first ≢ codes "--docs") × (first ≡ old) × (more ≡ new ∷ paths)
AreOperandsBy docs.Compared old new paths first more =
    (first ≡ codes "--docs") × (more ≡ old ∷ new ∷ paths)

-- the same of a comparison
abbrev pub AreOperands : (first : List ℕ) → (more : List (List ℕ)) → Comparison → Type 0
AreOperands first more comparison =
    AreOperandsBy comparison.docs comparison.old.now comparison.new.now comparison.paths.now first
    more

-- the same, where one table at most is read from the standard input
pub record IsComparison (first : List ℕ) (more : List (List ℕ)) (comparison : Comparison)
    : Type 0 where
  pub operands : AreOperands first more comparison
  pub one : comparison.old.now ≡ codes "-" → comparison.new.now ≢ codes "-"

-- the command has this word, this table and these arguments after it; where the standard input is
-- read line by line, the table is not read from it; where tables are compared, what stands in the
-- place of the table may be `--docs`
abbrev pub IsOfWord : (word table : List ℕ) → List (List ℕ) → Command → Type 0
IsOfWord word table more (commands.Once request) = IsRequest word more request
IsOfWord word table more (commands.Lines conversion ty) =
    (word ≡ conversion_word conversion) × (more ≡ ty.now ∷ []) × (table ≢ codes "-")
IsOfWord word table more (commands.Diff comparison) =
    (word ≡ codes "diff") × IsComparison table more comparison

-- the arguments name the command: its word, a table, and the arguments after it
pub record Names (arguments : List (List ℕ)) (command : Command) : Type 0 where
  pub word : List ℕ
  pub table : List ℕ
  pub more : List (List ℕ)
  pub parts : arguments ≡ word ∷ table ∷ more
  pub is_of_word : IsOfWord word table more command

-- the arguments name a command, and the fact holds of it
abbrev pub HasCommand : List (List ℕ) → (Command → Type 0) → Type 0
HasCommand arguments P = HasCommandBy Names arguments P

-- the arguments name a command
abbrev pub IsCommand : List (List ℕ) → Type 0
IsCommand arguments = HasCommand arguments (λ command. Unit {0})
