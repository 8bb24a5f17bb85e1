-- What is said of changes, by what is known of the inputs.
use Rattle.std.proofs.Common.{◌≡◌, ◌≢◌, ◌⊎◌, ◌++◌, ◌∙◌, ◌+◌, ℕ, Bool, List, [], ◌∷◌, Option, None, Some, IfSome}
use Rattle.std.proofs.Common.{All, ap, arith, flat_map, get_or, if◌then◌else◌, inl, inr, length, map, refl, subst, sym}
use Rattle.std.proofs.Math.Logic.{⊎_map}
use Rattle.std.proofs.KnownBytes.{Appends-nil, Keeps-refl}
use Rattle.std.proofs.lemmas.List.Concat.{flat_map-cons}
use Rattle.scale_info_table_describe.specs.PathSearches.{indices_from}
use Rattle.scale_info_table_diff.proofs.Encoded.{one_table}
use Rattle.scale_info_table_diff.proofs.WithoutDocs.{dangling_with_docs}
use Rattle.scale_info_table_diff.specs.TableChanges.{IsDangling}
use Rattle.scale_info_table_diff.specs.TypesByPath.{has_path, ids_of}
use Rattle.scale_info_table_diff.specs.declared.change.Change.TheVariants.{Removed, Added, Changed}
use Rattle.scale_info_table_docs.specs.WithoutDocs.{entry_without_docs}
use Rattle.scale_info_grammar.specs.Ty.{EncodesTypes}
use Rattle.scale_info_types.specs.declared.ty.PortableType.{PortableType}
use Rattle.type_reader_io.specs.declared.command.Docs.{Docs}
use Rattle.type_reader_io.specs.declared.command.Docs.TheVariants as docs
use Rattle.type_reader_io.specs.declared.command.Comparison.{Comparison}
use Rattle.type_reader_io.specs.declared.error.ReaderError.{ReaderError}
use Rattle.type_reader_io.specs.declared.error.ReaderError.TheVariants as errors
use Rattle.type_reader_run.specs.Differences.{AreLines, AreLinesBetween, AreTold, ExplainsDiff}
use Rattle.type_reader_run.specs.Differences.{HasUnknownPath, IfBoth, IsDiffError, IsInEither}
use Rattle.type_reader_run.specs.Differences.{IsPathError, IsReferenceError, IsTablesError}
use Rattle.type_reader_run.specs.Differences.{ToldChange, WritesChanges, compared, told_line}
use Rattle.type_reader_run.specs.Tables.{HasTable, HasTypes, IsFoundError, input_bytes}

no_line : (lines : List ℕ) → length lines ≡ 0 → lines ≡ []
no_line [] none = refl
no_line (byte ∷ lines) none = absurd (omega (arith, none))

-- the line of a change is not empty
some_line : (one : ToldChange) (more : List ℕ) → told_line one ++ more ≢ []
some_line (Removed path, reason) more none = omega (arith, ap (λ l. get_or l 0 0) none)
some_line (Added path, reason) more none = omega (arith, ap (λ l. get_or l 0 0) none)
some_line (Changed path, reason) more none = omega (arith, ap (λ l. get_or l 0 0) none)

-- where there is no line there is no change
no_change : (told : List ToldChange) → flat_map told_line told ≡ [] → told ≡ []
no_change [] none = refl
no_change (one ∷ told) none =
    absurd (some_line one (flat_map told_line told) (sym (flat_map-cons told_line one told) ∙ none))

-- the bytes of an input, where it is known
abbrev pub IsRead : Option (List ℕ) → List ℕ → Type 0
IsRead input bytes = IfSome input (λ b. bytes ≡ input_bytes b)

-- what holds of the bytes holds of the inputs
of_inputs :
    (P : List ℕ → List ℕ → Type 0) (input second : Option (List ℕ)) (bytes others : List ℕ)
    → IsRead input bytes → IsRead second others → P bytes others
    → IfBoth input second (λ a b. P (input_bytes a) (input_bytes b))
of_inputs P None second bytes others is_first is_second holds = tt
of_inputs P (Some a) None bytes others is_first is_second holds = tt
of_inputs P (Some a) (Some b) bytes others is_first is_second holds =
    subst (λ x. P x (input_bytes b)) is_first (subst (P bytes) is_second holds)

-- nothing changed
pub writes_none :
    (comparison : Comparison) (input second output : Option (List ℕ)) (bytes others : List ℕ)
    (lines : List ℕ)
    → IsRead input bytes → IsRead second others
    → AreLines comparison bytes others lines → length lines ≡ 0
    → WritesChanges comparison input second output output []
writes_none comparison input second output bytes others lines is_first is_second are none = record {
  are_told =
      of_inputs (λ x y. AreTold comparison x y []) input second bytes others is_first is_second
      (subst (AreTold comparison bytes others)
      (no_change are.told (sym are.lines ∙ no_line lines none)) are.are_told);
  appends = Appends-nil output;
}

-- why the changes of two inputs are not told
pub explains_diff :
    (comparison : Comparison) (input second output : Option (List ℕ)) (bytes others : List ℕ)
    → IsRead input bytes → IsRead second others → (error : ReaderError)
    → IsDiffError comparison.paths.now bytes others error
    → ExplainsDiff comparison input second output output error
explains_diff comparison input second output bytes others is are errors.Malformed cause = (
  of_inputs (λ x y. IsDiffError comparison.paths.now x y errors.Malformed) input second bytes others is are cause,
  Keeps-refl output,
)
explains_diff comparison input second output bytes others is are errors.TrailingBytes cause = (
  of_inputs (λ x y. IsDiffError comparison.paths.now x y errors.TrailingBytes) input second bytes others is are cause,
  Keeps-refl output,
)
explains_diff comparison input second output bytes others is are (errors.Version version) cause = (
  of_inputs (λ x y. IsDiffError comparison.paths.now x y (errors.Version version)) input second bytes others is are cause,
  Keeps-refl output,
)
explains_diff comparison input second output bytes others is are (errors.NoSuchType id) cause = (
  of_inputs (λ x y. IsDiffError comparison.paths.now x y (errors.NoSuchType id)) input second bytes others is are cause,
  Keeps-refl output,
)
explains_diff comparison input second output bytes others is are (errors.NoSuchPath path) cause = (
  of_inputs (λ x y. IsDiffError comparison.paths.now x y (errors.NoSuchPath path)) input second bytes others is are cause,
  Keeps-refl output,
)
explains_diff comparison input second output bytes others is are (errors.SharedPath path) cause = (
  of_inputs (λ x y. IsDiffError comparison.paths.now x y (errors.SharedPath path)) input second bytes others is are cause,
  Keeps-refl output,
)
explains_diff comparison input second output bytes others is are (errors.NoValue fault) cause = (
  of_inputs (λ x y. IsDiffError comparison.paths.now x y (errors.NoValue fault)) input second bytes others is are cause,
  Keeps-refl output,
)
explains_diff comparison input second output bytes others is are (errors.Dangling id) cause = (
  of_inputs (λ x y. IsDiffError comparison.paths.now x y (errors.Dangling id)) input second bytes others is are cause,
  Keeps-refl output,
)
explains_diff comparison input second output bytes others is are errors.Memory cause = (
  of_inputs (λ x y. IsDiffError comparison.paths.now x y errors.Memory) input second bytes others is are cause,
  Keeps-refl output,
)
explains_diff comparison input second output bytes others is are errors.Input (inl cause) =
    absurd cause
explains_diff comparison input second output bytes others is are errors.Input (inr cause) =
    absurd cause.2
explains_diff comparison input second output bytes others is are errors.Output (inl cause) =
    absurd cause
explains_diff comparison input second output bytes others is are errors.Output (inr cause) =
    absurd cause.2

-- bytes in which no table is found
pub found_error :
    (paths : List (List ℕ)) (bytes others : List ℕ) (error : ReaderError)
    → IsFoundError bytes error
    ⊎ ((table : List ℕ) × HasTable bytes table × IsFoundError others error)
    → IsDiffError paths bytes others error
found_error paths bytes others errors.Malformed cause = cause
found_error paths bytes others errors.TrailingBytes cause = cause
found_error paths bytes others (errors.Version version) cause = cause
found_error paths bytes others (errors.NoSuchType id) cause = cause
found_error paths bytes others (errors.NoSuchPath path) (inl cause) = absurd cause
found_error paths bytes others (errors.NoSuchPath path) (inr cause) = absurd cause.2
found_error paths bytes others (errors.SharedPath path) cause = cause
found_error paths bytes others (errors.NoValue fault) cause = cause
found_error paths bytes others (errors.Dangling id) (inl cause) = absurd cause
found_error paths bytes others (errors.Dangling id) (inr cause) = absurd cause.2
found_error paths bytes others errors.Memory cause = tt
found_error paths bytes others errors.Input cause = cause
found_error paths bytes others errors.Output cause = cause

-- the path of a type is the same without docs
ids_without_docs :
    (n : ℕ) (test : List (List ℕ) → Bool) (types : List PortableType)
    → indices_from n test (map entry_without_docs types) ≡ indices_from n test types
ids_without_docs n test [] = refl
ids_without_docs n test (entry ∷ types) =
    ap (λ ids. if test entry.ty.path.segments then n ∷ ids else ids) (ids_without_docs (n + 1) test types)

-- so are the ids of the types with a path, as they are compared
ids_compared : (docs : Docs) (path : List ℕ) (types : List PortableType) → ids_of path (compared docs types) ≡ ids_of path types
ids_compared docs.LeftOut path types = ids_without_docs 0 (has_path path) types
ids_compared docs.Compared path types = refl

-- an id that dangles in a table as it is compared dangles in it
dangling_compared : (docs : Docs) (types : List PortableType) (id : ℕ) → IsDangling (compared docs types) id → IsDangling types id
dangling_compared docs.LeftOut types id h = dangling_with_docs types id h
dangling_compared docs.Compared types id h = h

module _ (docs : Docs) (old new : List PortableType) where
  dangling_either :
      (id : ℕ) → IsDangling (compared docs old) id ⊎ IsDangling (compared docs new) id
      → IsDangling old id ⊎ IsDangling new id
  dangling_either id h = ⊎_map (dangling_compared docs old id) (dangling_compared docs new id) h

  -- a path that one of the tables as they are compared has
  in_either : (path : List ℕ) → IsInEither (compared docs old) (compared docs new) path → IsInEither old new path
  in_either path h =
      ⊎_map (λ some none. some (ids_compared docs path old ∙ none))
      (λ some none. some (ids_compared docs path new ∙ none)) h

  pub all_in_either :
      (paths : List (List ℕ)) → All (IsInEither (compared docs old) (compared docs new)) paths
      → All (IsInEither old new) paths
  all_in_either paths known k d within = in_either (get_or paths k d) (known k d within)

  -- a path that neither has
  unknown_path :
      (paths : List (List ℕ)) (path : List ℕ)
      → HasUnknownPath paths (compared docs old) (compared docs new) path
      → HasUnknownPath paths old new path
  unknown_path paths path x = record {
    before = x.before;
    after = x.after;
    parts = x.parts;
    known = all_in_either x.before x.known;
    not_old = sym (ids_compared docs path old) ∙ x.not_old;
    not_new = sym (ids_compared docs path new) ∙ x.not_new;
  }

-- why the changes between two tables, as they are compared, are not told
pub tables_error :
    (docs : Docs) (paths : List (List ℕ)) (bytes others : List ℕ) (old new : List PortableType)
    (error : ReaderError) → HasTypes bytes old → HasTypes others new
    → IsTablesError paths (compared docs old) (compared docs new) error
    → IsDiffError paths bytes others error
tables_error docs paths bytes others old new errors.Malformed has_old has_new cause = absurd cause
tables_error docs paths bytes others old new errors.TrailingBytes has_old has_new cause = absurd cause
tables_error docs paths bytes others old new (errors.Version version) has_old has_new cause = absurd cause
tables_error docs paths bytes others old new (errors.NoSuchType id) has_old has_new cause = absurd cause
tables_error docs paths bytes others old new (errors.NoSuchPath path) has_old has_new cause = record {
  old = old;
  new = new;
  has_old = has_old;
  has_new = has_new;
  unknown = unknown_path docs old new paths path cause;
}
tables_error docs paths bytes others old new (errors.SharedPath path) has_old has_new cause = absurd cause
tables_error docs paths bytes others old new (errors.NoValue fault) has_old has_new cause = absurd cause
tables_error docs paths bytes others old new (errors.Dangling id) has_old has_new cause = record {
  old = old;
  new = new;
  has_old = has_old;
  has_new = has_new;
  known = all_in_either docs old new paths cause.0;
  dangling = dangling_either docs old new id cause.1;
}
tables_error docs paths bytes others old new errors.Memory has_old has_new cause = tt
tables_error docs paths bytes others old new errors.Input has_old has_new cause = absurd cause
tables_error docs paths bytes others old new errors.Output has_old has_new cause = absurd cause

-- a path that is refused
pub path_error :
    (paths : List (List ℕ)) (types others : List PortableType) (error : ReaderError)
    → IsPathError paths types others error → IsTablesError paths types others error
path_error paths types others errors.Malformed cause = absurd cause
path_error paths types others errors.TrailingBytes cause = absurd cause
path_error paths types others (errors.Version version) cause = absurd cause
path_error paths types others (errors.NoSuchType id) cause = absurd cause
path_error paths types others (errors.NoSuchPath path) cause = cause
path_error paths types others (errors.SharedPath path) cause = absurd cause
path_error paths types others (errors.NoValue fault) cause = absurd cause
path_error paths types others (errors.Dangling id) cause = absurd cause
path_error paths types others errors.Memory cause = tt
path_error paths types others errors.Input cause = absurd cause
path_error paths types others errors.Output cause = absurd cause

-- one of two tables that refers to an id that is no index
pub changes_error :
    (paths : List (List ℕ)) (types others : List PortableType) (error : ReaderError)
    → All (IsInEither types others) paths → IsReferenceError types others error
    → IsTablesError paths types others error
changes_error paths types others errors.Malformed known cause = absurd cause
changes_error paths types others errors.TrailingBytes known cause = absurd cause
changes_error paths types others (errors.Version version) known cause = absurd cause
changes_error paths types others (errors.NoSuchType id) known cause = absurd cause
changes_error paths types others (errors.NoSuchPath path) known cause = absurd cause
changes_error paths types others (errors.SharedPath path) known cause = absurd cause
changes_error paths types others (errors.NoValue fault) known cause = absurd cause
changes_error paths types others (errors.Dangling id) known cause = (known, cause)
changes_error paths types others errors.Memory known cause = tt
changes_error paths types others errors.Input known cause = absurd cause
changes_error paths types others errors.Output known cause = absurd cause

-- bytes encode one table, as it is compared
pub same_compared :
    (docs : Docs) (types : List PortableType) (bytes : List ℕ) (named : List PortableType)
    → EncodesTypes (compared docs types) bytes → EncodesTypes named bytes → named ≡ compared docs types
same_compared docs types bytes named x y = one_table named (compared docs types) bytes y x

-- the lines of the changes of a comparison
pub are_lines :
    (comparison : Comparison) (bytes others output : List ℕ) (old new : List PortableType)
    → HasTypes bytes old → HasTypes others new
    → AreLinesBetween comparison.paths.now (compared comparison.docs old) (compared comparison.docs new) output
    → AreLines comparison bytes others output
are_lines comparison bytes others output old new has_old has_new x = record {
  told = x.lines.told;
  are_told = record {
    old = old;
    new = new;
    has_old = has_old;
    has_new = has_new;
    known = all_in_either comparison.docs old new comparison.paths.now x.known;
    changes = x.changes;
    changed = x.changed;
    chosen = x.lines.reasoned;
  };
  lines = x.lines.lines;
}
