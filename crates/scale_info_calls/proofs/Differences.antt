-- Why two tables, or one type of each, are not compared.
use Rattle.std.proofs.Common.{◌≡◌, ◌∙◌, ℕ, zero, suc, Bool, false, List, [], ◌∷◌, Contains, ap, arith, inl, inr}
use Rattle.std.proofs.Common.{length, refl, subst, sym, lit<}
use Rattle.std.proofs.lemmas.Bool.{false≢true}
use Rattle.scale_info_calls.specs.Changes.{IsChangesRefusal}
use Rattle.scale_info_calls.specs.SameTypes.{IsPairRefusal, IsSameRefusal, TellsDifferenceOfInputs}
use Rattle.scale_info_calls.specs.SameTypes.{TellsOfInputs, TellsOfTypes, TellsSame}
use Rattle.scale_info_calls.specs.SameTypes.TellsOfTypes.{differ}
use Rattle.scale_info_calls.specs.WholeTables.{error_of}
use Rattle.scale_info_calls.specs.declared.error.CallError.{CallError}
use Rattle.scale_info_calls.specs.declared.error.CallError.TheVariants as errors
use Rattle.scale_info_table_diff.proofs.Encoded.{one_table}
use Rattle.scale_info_table_diff.specs.Declarations.{IsDeclaredChangeError}
use Rattle.scale_info_table_diff.specs.TableChanges.{IsCompareError}
use Rattle.scale_info_grammar.specs.Ty.{EncodesTypes}
use Rattle.scale_info_table_prune.specs.Prunes.{DanglesFrom, LeadsOutside}
use Rattle.scale_info_table_prune.specs.Roots.{AreRoots}
use Rattle.scale_info_table_prune.specs.SameTypes.{HaveMatch, IsMatchError}
use Rattle.scale_info_table_prune.specs.declared.prune.PruneError.{PruneError}
use Rattle.scale_info_table_prune.specs.declared.prune.PruneError.TheVariants as prune_errors
use Rattle.scale_info_types.specs.declared.ty.PortableType.{PortableType}

-- an element of a list of one is the one
only_one : (x y : ℕ) → Contains (y ∷ []) x → x ≡ y
only_one x y (zero, within, is) = sym is
only_one x y (suc k, within, is) = absurd (omega (arith, within))

-- one id in ascending order is it
roots_of_one : (count id : ℕ) (roots : List ℕ) → AreRoots count (id ∷ []) roots → roots ≡ id ∷ []
roots_of_one count id [] are =
    let has : Contains {X = ℕ} [] id = (are.same id).1 (0, lit< tt, refl) in
    absurd (omega (arith, has.1))
roots_of_one count id (x ∷ []) are =
    ap (λ y. y ∷ []) (only_one x id ((are.same x).0 (0, lit< tt, refl)))
roots_of_one count id (x ∷ y ∷ rest) are =
    let first = only_one x id ((are.same x).0 (0, omega arith, refl)) in
    let second = only_one y id ((are.same y).0 (1, omega arith, refl)) in
    let less = are.ascending 0 1 x y (lit< tt) refl refl in
    absurd (omega (arith, first, second, less))

-- what is met first from one id, ascending, is met first from it
leads_outside :
    (types : List PortableType) (id missing : ℕ) → DanglesFrom types (id ∷ []) missing
    → LeadsOutside types (id ∷ []) missing
leads_outside types id missing dangles =
    subst (λ roots. LeadsOutside types roots missing)
    (roots_of_one (length types) id dangles.roots dangles.are_roots)
    dangles.leads

-- why one type of each table is not numbered
pub not_matched :
    (types : List PortableType) (id : ℕ) (others : List PortableType) (other : ℕ)
    (error : PruneError) → IsMatchError types (id ∷ []) others (other ∷ []) error
    → IsPairRefusal types id others other (error_of error)
not_matched types id others other prune_errors.Malformed (inl cause) = absurd cause
not_matched types id others other prune_errors.Malformed (inr cause) = absurd cause.1
not_matched types id others other prune_errors.Trailing (inl cause) = absurd cause
not_matched types id others other prune_errors.Trailing (inr cause) = absurd cause.1
not_matched types id others other (prune_errors.NoSuchType missing) (inl cause) = inl cause
not_matched types id others other (prune_errors.NoSuchType missing) (inr cause) = inr cause.1
not_matched types id others other (prune_errors.Dangling missing) (inl cause) = inl cause
not_matched types id others other (prune_errors.Dangling missing) (inr cause) = inr cause.1
not_matched types id others other prune_errors.Memory cause = tt

-- why one type of each table is not gone over from
pub not_told :
    (types : List PortableType) (id : ℕ) (others : List PortableType) (other : ℕ)
    (error : PruneError) → IsDeclaredChangeError types (id ∷ []) others (other ∷ []) error
    → IsPairRefusal types id others other (error_of error)
not_told types id others other prune_errors.Malformed (inl cause) = absurd cause
not_told types id others other prune_errors.Malformed (inr cause) = absurd cause.1
not_told types id others other prune_errors.Trailing (inl cause) = absurd cause
not_told types id others other prune_errors.Trailing (inr cause) = absurd cause.1
not_told types id others other (prune_errors.NoSuchType missing) (inl cause) = inl cause
not_told types id others other (prune_errors.NoSuchType missing) (inr cause) = inr cause.1
not_told types id others other (prune_errors.Dangling missing) (inl cause) =
    inl (leads_outside types id missing cause)
not_told types id others other (prune_errors.Dangling missing) (inr cause) =
    inr (leads_outside others other missing cause.1)
not_told types id others other prune_errors.Memory cause = tt

-- why nothing is told of types of two inputs, which are tables
pub pair_refused :
    (first second : List ℕ) (id other : ℕ) (types others : List PortableType) (error : CallError)
    → EncodesTypes types first → EncodesTypes others second
    → IsPairRefusal types id others other error → IsSameRefusal first id second other error
pair_refused first second id other types others (errors.NoSuchType missing) e o (inl cause) =
    inl (record { types = types; encodes = e; no_such_type = cause })
pair_refused first second id other types others (errors.NoSuchType missing) e o (inr cause) =
    inr (record { types = others; encodes = o; no_such_type = cause })
pair_refused first second id other types others (errors.Dangling missing) e o (inl cause) =
    inl (record { types = types; encodes = e; leads = cause })
pair_refused first second id other types others (errors.Dangling missing) e o (inr cause) =
    inr (record { types = others; encodes = o; leads = cause })
pair_refused first second id other types others errors.Memory e o cause = tt
pair_refused first second id other types others errors.Malformed e o cause = absurd cause
pair_refused first second id other types others errors.TrailingBytes e o cause = absurd cause
pair_refused first second id other types others (errors.NoRoom wanted) e o cause = absurd cause
pair_refused first second id other types others (errors.Version version) e o cause = absurd cause
pair_refused first second id other types others errors.NoText e o cause = absurd cause
pair_refused first second id other types others errors.NoJson e o cause = absurd cause
pair_refused first second id other types others errors.Unsupported e o cause = absurd cause
pair_refused first second id other types others errors.TooDeep e o cause = absurd cause
pair_refused first second id other types others errors.MalformedValue e o cause = absurd cause
pair_refused first second id other types others errors.TrailingValue e o cause = absurd cause
pair_refused first second id other types others errors.Mismatch e o cause = absurd cause

-- where types of two inputs are not the same, what differs first is what is told of them
pub differs :
    (first second : List ℕ) (id other : ℕ) (text : List ℕ) (same : Bool) → same ≡ false
    → TellsSame first id second other same → TellsDifferenceOfInputs first id second other text
    → TellsOfInputs first id second other text
differs first second id other text same is s d =
    let types = one_table d.types s.types first d.encodes s.encodes in
    let others = one_table d.others s.others second d.other_encodes s.other_encodes in
    record {
      types = d.types;
      others = d.others;
      encodes = d.encodes;
      other_encodes = d.other_encodes;
      tells =
          differ
          (λ have.
          false≢true
          (sym is
          ∙ s.is.1
          (subst (λ ts. HaveMatch s.types (id ∷ []) ts (other ∷ [])) others
          (subst (λ ts. HaveMatch ts (id ∷ []) d.others (other ∷ [])) types have))))
          d.tells;
    }

-- why the types of two inputs, which are tables, are not compared
pub not_compared :
    (old new : List ℕ) (types others : List PortableType) (error : PruneError)
    → EncodesTypes types old → EncodesTypes others new → IsCompareError types others error
    → IsChangesRefusal old new (error_of error)
not_compared old new types others prune_errors.Malformed e o cause = absurd cause
not_compared old new types others prune_errors.Trailing e o cause = absurd cause
not_compared old new types others (prune_errors.NoSuchType id) e o cause = absurd cause
not_compared old new types others (prune_errors.Dangling id) e o (inl cause) =
    inl (record { types = types; encodes = e; dangling = cause })
not_compared old new types others (prune_errors.Dangling id) e o (inr cause) =
    inr (record { types = others; encodes = o; dangling = cause })
not_compared old new types others prune_errors.Memory e o cause = tt
