-- Why a command is refused, and what is reported of it.
use Rattle.std.specs.Prelude.{◌≡◌, ◌≤◌, ◌⊎◌, ℕ, List, [], IfSome, length}
use Rattle.std.specs.declared.option.Option.{Option}
use Rattle.std.specs.Io.KnownBytes.{Keeps}
use Rattle.scale_info_grammar.specs.Ty.{EncodesTypes}
use Rattle.scale_info_numberings.specs.Systems.{IsFirstOutside}
use Rattle.scale_info_table_prune.specs.Prunes.{HasDangling}
use Rattle.scale_info_types.specs.declared.ty.PortableType.{PortableType}
use Rattle.scale_info_walk.specs.TypeSystems.{types_system}
use Rattle.type_reader_io.specs.declared.command.Request.{Request}
use Rattle.type_reader_io.specs.declared.command.Request.TheVariants as requests
use Rattle.type_reader_io.specs.declared.error.ReaderError.{ReaderError}
use Rattle.type_reader_io.specs.declared.error.ReaderError.TheVariants as errors
use Rattle.type_reader_run.specs.Conversions.{IsConversionError}
use Rattle.type_reader_run.specs.Outputs.{WritesPrefix}
use Rattle.type_reader_run.specs.Selections.{AreSelected, IsSelectionError}
use Rattle.type_reader_run.specs.Tables.{HasTable, IsFoundError, input_bytes}

-- the texts give no types of the table, for this error
pub record HasSelectionError (table : List ℕ) (texts : List (List ℕ)) (error : ReaderError)
    : Type 0 where
  pub types : List PortableType
  pub encodes : EncodesTypes types table
  pub cause : IsSelectionError types texts error

-- the texts give types of the table, of which `Outside` says that their ids lead to this id
pub record LeadOutside (Outside : List PortableType → List ℕ → ℕ → Type 0) (table : List ℕ)
    (texts : List (List ℕ)) (id : ℕ) : Type 0 where
  pub types : List PortableType
  pub encodes : EncodesTypes types table
  pub ids : List ℕ
  pub selected : AreSelected types texts ids
  pub outside : Outside types ids id

-- why nothing is made of ids that are all indices of a table: they lead to an id that is none, as
-- `Outside` says; an allocation may fail
abbrev pub IsOutsideError : (Outside : ℕ → Type 0) → ReaderError → Type 0
IsOutsideError Outside (errors.Dangling id) = Outside id
IsOutsideError Outside errors.Memory = Unit {0}
IsOutsideError Outside error = ⊥

-- why nothing is made of the types that the texts give: the texts give none, or their ids lead to
-- an id that is no index, as `Outside` says; an allocation may fail
abbrev pub IsTypesError : (Outside : List PortableType → List ℕ → ℕ → Type 0) → (table : List ℕ)
    → List (List ℕ) → ReaderError → Type 0
IsTypesError Outside table texts (errors.NoSuchType id) =
    HasSelectionError table texts (errors.NoSuchType id)
IsTypesError Outside table texts (errors.NoSuchPath path) =
    HasSelectionError table texts (errors.NoSuchPath path)
IsTypesError Outside table texts (errors.Dangling id) = LeadOutside Outside table texts id
IsTypesError Outside table texts errors.Memory = Unit {0}
IsTypesError Outside table texts error = ⊥

-- why a table is not pruned to the ids, which are all indices of it: an id is reached that is none
abbrev pub IsReachingError : List ℕ → List ℕ → ReaderError → Type 0
IsReachingError table ids error = IsOutsideError (HasDangling table ids) error

-- why a table is not pruned to the types that the texts give
abbrev pub IsPruningError : List ℕ → List (List ℕ) → ReaderError → Type 0
IsPruningError table texts error =
    IsTypesError (λ types ids id. HasDangling table ids id) table texts error

-- this id, which is no index, is the first such that is met from the types with these ids
pub record IsLedTo (types : List PortableType) (ids : List ℕ) (id : ℕ) : Type 0 where
  pub first : IsFirstOutside (types_system types) [] ids id
  pub outside : length types ≤ id

-- why there is no graph of what the types with these ids reach, which are all indices
abbrev pub IsLeadingError : List PortableType → List ℕ → ReaderError → Type 0
IsLeadingError types ids error = IsOutsideError (IsLedTo types ids) error

-- why there is no graph of what the types reach that the texts give
abbrev pub IsGraphingError : List ℕ → List (List ℕ) → ReaderError → Type 0
IsGraphingError table texts error = IsTypesError IsLedTo table texts error

-- why the request has no output for the table; an allocation may fail
abbrev pub IsOutputError : Request → (table : List ℕ) → ReaderError → Type 0
IsOutputError requests.Table table error = error ≡ errors.Memory
IsOutputError requests.Strip table error = error ≡ errors.Memory
IsOutputError (requests.List texts) table error = HasSelectionError table texts.now error
IsOutputError (requests.Find pattern) table error = error ≡ errors.Memory
IsOutputError (requests.Prune texts) table error = IsPruningError table texts.now error
IsOutputError (requests.Graph texts) table error = IsGraphingError table texts.now error
IsOutputError (requests.Convert conversion text value) table error =
    IsConversionError conversion table text.now value.now error

-- the bytes have a table, for which the request has no output, for this error
pub record HasOutputError (request : Request) (bytes : List ℕ) (error : ReaderError)
    : Type 0 where
  pub table : List ℕ
  pub has_table : HasTable bytes table
  pub cause : IsOutputError request table error

-- why the request has no output for the bytes: no table is found in them, or the request has none
-- for their table
abbrev pub IsMakingError : Request → (bytes : List ℕ) → ReaderError → Type 0
IsMakingError request bytes error =
    IsFoundError bytes error ⊎ HasOutputError request bytes error

-- the same of the whole input; an allocation may fail
abbrev pub IsRequestError : Request → (input : List ℕ) → ReaderError → Type 0
IsRequestError request input error =
    (error ≡ errors.Memory) ⊎ IsMakingError request (input_bytes input) error

-- what an error of a request says of the known input, and of the output's known bytes before and
-- after
abbrev pub Explains : Request → (input old new : Option (List ℕ)) → ReaderError → Type 0
Explains request input old new errors.Input = Keeps old new
Explains request input old new errors.Output = IfSome input (WritesPrefix request old new)
Explains request input old new error =
    IfSome input (λ bytes. IsRequestError request bytes error) × Keeps old new
