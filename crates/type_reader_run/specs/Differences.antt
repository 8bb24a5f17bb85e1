-- What changed between the tables of two inputs.
use Rattle.std.specs.Prelude.{◌≡◌, ◌≢◌, ◌++◌, ◌⊎◌, ℕ, List, [], ◌∷◌, All, Bool, true, IfSome, codes}
use Rattle.std.specs.Prelude.{Option, None, Some, filter, map}
use Rattle.std.specs.Io.KnownBytes.{Appends, Keeps}
use Rattle.std.specs.List.{flat_map, list_any}
use Rattle.std.specs.Str.{bytes_eq}
use Rattle.scale_info_table_diff.specs.Declarations.{TellsDeclaredChange}
use Rattle.scale_info_table_diff.specs.TableChanges.{AreChanges, IsDangling}
use Rattle.scale_info_table_diff.specs.TypesByPath.{ids_of}
use Rattle.scale_info_table_diff.specs.declared.change.Change.{Change}
use Rattle.scale_info_table_diff.specs.declared.change.Change.TheVariants.{Removed, Added, Changed}
use Rattle.scale_info_table_docs.specs.WithoutDocs.{entry_without_docs}
use Rattle.scale_info_table_prune.specs.Prunes.{DanglesFrom}
use Rattle.scale_info_types.specs.declared.ty.PortableType.{PortableType}
use Rattle.type_reader_io.specs.declared.command.Comparison.{Comparison}
use Rattle.type_reader_io.specs.declared.command.Docs.{Docs}
use Rattle.type_reader_io.specs.declared.command.Docs.TheVariants as docs
use Rattle.type_reader_io.specs.declared.error.ReaderError.{ReaderError}
use Rattle.type_reader_io.specs.declared.error.ReaderError.TheVariants as errors
use Rattle.type_reader_run.specs.Tables.{HasTable, HasTypes, IsFoundError, input_bytes}
use Rattle.type_table_io.specs.Reports.{AppendsPrefix}

-- the path of a change
abbrev pub path_of : Change → List ℕ
path_of (Removed path) = path
path_of (Added path) = path
path_of (Changed path) = path

-- what follows a path that has changed: a colon, a blank and the reason, if there is one
abbrev pub reason_text : Option (List ℕ) → List ℕ
reason_text None = []
reason_text (Some reason) = codes ": " ++ reason

-- the line of a change: a sign, a blank and its path; and why it has changed
abbrev pub change_line : Change → Option (List ℕ) → List ℕ
change_line (Removed path) reason = codes "- " ++ (path ++ codes "\n")
change_line (Added path) reason = codes "+ " ++ (path ++ codes "\n")
change_line (Changed path) reason = codes "~ " ++ (path ++ (reason_text reason ++ codes "\n"))

-- a change, and the reason that is given of it
abbrev pub ToldChange : Type 0
ToldChange = Change × Option (List ℕ)

-- its line
abbrev pub told_line : ToldChange → List ℕ
told_line told = change_line told.0 told.1

-- whether the change is one of these paths; of any, where there is no path
abbrev pub is_of : List (List ℕ) → Change → Bool
is_of [] change = true
is_of (path ∷ paths) change = list_any (λ p. bytes_eq p (path_of change)) (path ∷ paths)

-- one of the two tables has a type with the path
abbrev pub IsInEither : (types others : List PortableType) → (path : List ℕ) → Type 0
IsInEither types others path = (ids_of path types ≢ []) ⊎ (ids_of path others ≢ [])

-- the types as they are compared, by whether docs count: without docs, or as they are
abbrev pub compared : Docs → List PortableType → List PortableType
compared docs.LeftOut types = map entry_without_docs types
compared docs.Compared types = types

-- one of two tables is not pruned to its ids: an id is reached that is no index
abbrev pub IsNotPruned : (types : List PortableType) → (ids : List ℕ)
    → (others : List PortableType) → (other_ids : List ℕ) → Type 0
IsNotPruned types ids others other_ids =
    (id : ℕ) × (DanglesFrom types ids id ⊎ DanglesFrom others other_ids id)

-- why the path has changed between the two tables: what they declare otherwise first, from the
-- types with the path on; none, where that is nothing, or where one is not pruned to these types
abbrev pub IsReason : (types others : List PortableType) → (path : List ℕ)
    → Option (List ℕ) → Type 0
IsReason types others path reason =
    TellsDeclaredChange types (ids_of path types) others (ids_of path others) reason
    ⊎ (IsNotPruned types (ids_of path types) others (ids_of path others) × (reason ≡ None))

-- why a path has changed; of one that is removed or added there is no reason
abbrev pub HasReason : (types others : List PortableType) → Change → Option (List ℕ) → Type 0
HasReason types others (Removed path) reason = reason ≡ None
HasReason types others (Added path) reason = reason ≡ None
HasReason types others (Changed path) reason = IsReason types others path reason

-- the line of the change, with its reason, was added at the end
abbrev pub AppendsChange : (types others : List PortableType) → Change → (before after : List ℕ)
    → Type 0
AppendsChange types others change before after =
    (reason : Option (List ℕ)) × HasReason types others change reason
    × (after ≡ before ++ change_line change reason)

-- these are the changes, each with its reason
pub record AreReasoned (types others : List PortableType) (changes : List Change)
    (told : List ToldChange) : Type 0 where
  pub of : map (λ one. one.0) told ≡ changes
  pub reasons : All (λ one. HasReason types others one.0 one.1) told

-- these are the changes, each with its reason, and the output is their lines
pub record AreLinesOf (types others : List PortableType) (changes : List Change)
    (output : List ℕ) : Type 0 where
  pub told : List ToldChange
  pub reasoned : AreReasoned types others changes told
  pub lines : output ≡ flat_map told_line told

-- one or the other table has each of the paths, and the output is the lines of the changes of these
-- paths between them, in order, each with its reason
pub record AreLinesBetween (paths : List (List ℕ)) (types others : List PortableType)
    (output : List ℕ) : Type 0 where
  pub known : All (IsInEither types others) paths
  pub changes : List Change
  pub changed : AreChanges types others changes
  pub lines : AreLinesOf types others (filter (is_of paths) changes) output

-- the bytes have tables, of which one or the other has each path of the comparison, and these are
-- the changes of its paths between them, in order, each with its reason
pub record AreTold (comparison : Comparison) (bytes others : List ℕ) (told : List ToldChange)
    : Type 0 where
  pub old : List PortableType
  pub new : List PortableType
  pub has_old : HasTypes bytes old
  pub has_new : HasTypes others new
  pub known : All (IsInEither old new) comparison.paths.now
  pub changes : List Change
  pub changed :
      AreChanges (compared comparison.docs old) (compared comparison.docs new) changes
  pub chosen :
      AreReasoned (compared comparison.docs old) (compared comparison.docs new)
      (filter (is_of comparison.paths.now) changes) told

-- so it is, and the output is the lines of these changes
pub record AreLines (comparison : Comparison) (bytes others output : List ℕ) : Type 0 where
  pub told : List ToldChange
  pub are_told : AreTold comparison bytes others told
  pub lines : output ≡ flat_map told_line told

-- the first path that neither table has is this one
pub record HasUnknownPath (paths : List (List ℕ)) (types others : List PortableType)
    (path : List ℕ) : Type 0 where
  pub before : List (List ℕ)
  pub after : List (List ℕ)
  pub parts : paths ≡ before ++ path ∷ after
  pub known : All (IsInEither types others) before
  pub not_old : ids_of path types ≡ []
  pub not_new : ids_of path others ≡ []

-- why a path is refused; an allocation may fail
abbrev pub IsPathError : (paths : List (List ℕ)) → (types others : List PortableType)
    → ReaderError → Type 0
IsPathError paths types others (errors.NoSuchPath path) = HasUnknownPath paths types others path
IsPathError paths types others errors.Memory = Unit {0}
IsPathError paths types others error = ⊥

-- why two tables are not compared: one refers to an id that is no index; or an allocation failed
abbrev pub IsReferenceError : (types others : List PortableType) → ReaderError → Type 0
IsReferenceError types others (errors.Dangling id) = IsDangling types id ⊎ IsDangling others id
IsReferenceError types others errors.Memory = Unit {0}
IsReferenceError types others error = ⊥

-- why the changes of the paths between two tables are not told: a path or a reference leads
-- nowhere; or an allocation failed
abbrev pub IsTablesError : (paths : List (List ℕ)) → (types others : List PortableType)
    → ReaderError → Type 0
IsTablesError paths types others (errors.NoSuchPath path) =
    HasUnknownPath paths types others path
IsTablesError paths types others (errors.Dangling id) =
    All (IsInEither types others) paths × (IsDangling types id ⊎ IsDangling others id)
IsTablesError paths types others errors.Memory = Unit {0}
IsTablesError paths types others error = ⊥

-- the bytes have tables, of which neither has the path, which is the first such
pub record HavePathError (paths : List (List ℕ)) (bytes others path : List ℕ) : Type 0 where
  pub old : List PortableType
  pub new : List PortableType
  pub has_old : HasTypes bytes old
  pub has_new : HasTypes others new
  pub unknown : HasUnknownPath paths old new path

-- the bytes have tables, of which one or the other has each path, and one of them refers to this
-- id, which is no index of it
pub record HaveDangling (paths : List (List ℕ)) (bytes others : List ℕ) (id : ℕ) : Type 0 where
  pub old : List PortableType
  pub new : List PortableType
  pub has_old : HasTypes bytes old
  pub has_new : HasTypes others new
  pub known : All (IsInEither old new) paths
  pub dangling : IsDangling old id ⊎ IsDangling new id

-- why the changes of the paths between the tables of the bytes are not told: no table is found in
-- the old ones; or one is, and none in the new ones; or a path or a reference leads nowhere; or an
-- allocation failed
abbrev pub IsDiffError : (paths : List (List ℕ)) → (bytes others : List ℕ) → ReaderError → Type 0
IsDiffError paths bytes others (errors.NoSuchPath path) = HavePathError paths bytes others path
IsDiffError paths bytes others (errors.Dangling id) = HaveDangling paths bytes others id
IsDiffError paths bytes others errors.Memory = Unit {0}
IsDiffError paths bytes others error =
    IsFoundError bytes error
    ⊎ ((table : List ℕ) × HasTable bytes table × IsFoundError others error)

-- the fact holds of the two inputs, where both are known
abbrev pub IfBoth : (input second : Option (List ℕ)) → (List ℕ → List ℕ → Type 0) → Type 0
IfBoth input second P = IfSome input (λ bytes. IfSome second (P bytes))

-- these are the changes of the comparison between the two inputs, and known bytes grow by their
-- lines
pub record WritesChanges (comparison : Comparison) (input second old new : Option (List ℕ))
    (told : List ToldChange) : Type 0 where
  pub are_told :
      IfBoth input second (λ bytes others.
      AreTold comparison (input_bytes bytes) (input_bytes others) told)
  pub appends : Appends old new (flat_map told_line told)

-- there are changes, and known bytes grow by their lines
pub record WritesSomeChange (comparison : Comparison) (input second old new : Option (List ℕ))
    : Type 0 where
  pub told : List ToldChange
  pub some : told ≢ []
  pub writes : WritesChanges comparison input second old new told

-- there are changes between the bytes, and known bytes grow by a prefix of their lines
pub record WritesInPart (comparison : Comparison) (old new : Option (List ℕ))
    (bytes others : List ℕ) : Type 0 where
  pub told : List ToldChange
  pub are_told : AreTold comparison bytes others told
  pub appends : AppendsPrefix old new (flat_map told_line told)

-- what an error of a comparison says of the known inputs, and of the output's known bytes before
-- and after
abbrev pub ExplainsDiff : Comparison → (input second old new : Option (List ℕ)) → ReaderError
    → Type 0
ExplainsDiff comparison input second old new errors.Input = Keeps old new
ExplainsDiff comparison input second old new errors.Output =
    IfBoth input second (λ bytes others.
    WritesInPart comparison old new (input_bytes bytes) (input_bytes others))
ExplainsDiff comparison input second old new error =
    IfBoth input second (λ bytes others.
    IsDiffError comparison.paths.now (input_bytes bytes) (input_bytes others) error)
    × Keeps old new
