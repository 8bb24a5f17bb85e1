-- Pruned tables, compared place by place.
use Rattle.std.proofs.Common.{◌≡◌, ◌∙◌, ◌++◌, ℕ, List, [], Option, Some, ap, length, slice_get, subst, sym, refl, arith}
use Rattle.std.specs.Prelude.{MatchOption}
use Rattle.std.proofs.lemmas.List.{length-map}
use Rattle.std.proofs.lemmas.Option.{slice_get_within}
use Rattle.std.specs.BTreeMap.{BTreeMap, get}
use Rattle.std.specs.Ordering.{nat_cmp}
use Rattle.scale_info_grammar.specs.Ty.{EncodesTypes}
use Rattle.scale_info_numberings.proofs.Places.{element_at}
use Rattle.scale_info_table_prune.specs.Prunes.{AppendsPruned, HasNewIds, IsTableError, IsTypesPruneError}
use Rattle.scale_info_table_prune.specs.declared.prune.PruneError.{PruneError}
use Rattle.scale_info_table_prune.specs.declared.prune.PruneError.TheVariants.{Dangling, Malformed}
use Rattle.scale_info_table_prune.specs.declared.prune.PruneError.TheVariants.{Memory, NoSuchType}
use Rattle.scale_info_table_prune.specs.declared.prune.PruneError.TheVariants.{Trailing}
use Rattle.scale_info_types.specs.declared.ty.PortableType.{PortableType}
use Rattle.scale_info_walk.specs.TypeSystems.{entry_of}
use Rattle.scale_info_table_diff.proofs.Encoded.{has_prefix, no_trailing, one_table}
use Rattle.scale_info_table_diff.specs.Differences.{AgreeThroughout, CanBePruned, IsFirstDifference}
use Rattle.scale_info_table_diff.specs.Differences.{IsPrunedTo, TellsDifference}

-- what pruning appends to no bytes encodes the entries that it keeps
pub kept_encoding :
    (types : List PortableType) (given order old new : List ℕ) → old ≡ []
    → (x : AppendsPruned types given order old new) → EncodesTypes x.kept new
kept_encoding types given order old new none x =
    subst (EncodesTypes x.kept)
    (sym (x.appends.parts ∙ ap (λ xs. xs ++ x.appends.encoding) none)) x.appends.encodes

-- what pruning keeps of types, which can be pruned so
pub can_be_pruned :
    {types : List PortableType} {given : List ℕ} (kept : List PortableType)
    → (order : List ℕ) × IsPrunedTo types given order kept → CanBePruned types given
can_be_pruned kept x = record { order = x.0; kept = kept; pruned = x.1 }

-- bytes that encode types are refused for memory alone
pub only_memory :
    (kept : List PortableType) (bytes : List ℕ) (types : List PortableType) (given : List ℕ)
    → EncodesTypes kept bytes → (e : PruneError) → IsTableError bytes e
    → IsTypesPruneError types given e
only_memory kept bytes types given x Malformed h = absurd (has_prefix kept bytes x h)
only_memory kept bytes types given x Trailing h = absurd (no_trailing kept bytes x h)
only_memory kept bytes types given x (NoSuchType id) h = absurd h
only_memory kept bytes types given x (Dangling id) h = absurd h
only_memory kept bytes types given x Memory h = tt

-- so why they are refused is that an allocation failed
pub memory_alone :
    (kept : List PortableType) (bytes : List ℕ) → EncodesTypes kept bytes
    → (e : PruneError) → IsTableError bytes e → e ≡ Memory
memory_alone kept bytes x Malformed h = absurd (has_prefix kept bytes x h)
memory_alone kept bytes x Trailing h = absurd (no_trailing kept bytes x h)
memory_alone kept bytes x (NoSuchType id) h = absurd h
memory_alone kept bytes x (Dangling id) h = absurd h
memory_alone kept bytes x Memory h = refl

-- an entry that is kept has an old id
pub old_id :
    (types : List PortableType) (given order : List ℕ) (kept : List PortableType) (place : ℕ)
    (entry : PortableType)
    → IsPrunedTo types given order kept → slice_get kept place ≡ Some entry
    → (id : ℕ) × (slice_get order place ≡ Some id)
old_id types given order kept place entry x found =
    let same = one_table kept x.pruned.kept x.bytes x.encodes (kept_encoding types given order [] x.bytes refl x.pruned) in
    let within = slice_get_within kept place entry found in
    let long = ap length same in
    let lists = length-map x.pruned.kept entry_of in
    let table = x.pruned.table.long in
    element_at order place (omega arith)

-- the place of an entry that is kept is that of an old id
pub kept_place :
    (types : List PortableType) (given order : List ℕ) (kept entries : List PortableType)
    (places : BTreeMap ℕ ℕ) (place : ℕ) (entry : PortableType)
    → HasNewIds order places → IsPrunedTo types given order kept
    → entries ≡ kept → slice_get entries place ≡ Some entry
    → (id : ℕ) × (get nat_cmp places id ≡ Some place)
kept_place types given order kept entries places place entry new_ids x is found =
    let at = old_id types given order kept place entry x (subst (λ es. slice_get es place ≡ Some entry) is found) in
    (at.0, (new_ids at.0 place).1 at.1)

-- what holds of two lists of entries holds of those that are the same
pub of_same :
    (P : List PortableType → List PortableType → Type 0)
    {entries others read other_read : List PortableType}
    → read ≡ entries → other_read ≡ others → P read other_read → P entries others
of_same P {entries} {others} {read} {other_read} is are x =
    subst (λ es. P es others) is (subst (λ es. P read es) are x)

-- what is told of two tables that are pruned to their ids
pub told :
    {types others kept other_kept : List PortableType} {ids other_ids : List ℕ}
    {found : Option (ℕ × ℕ)}
    (x : (order : List ℕ) × IsPrunedTo types ids order kept)
    (y : (order : List ℕ) × IsPrunedTo others other_ids order other_kept)
    → MatchOption found (AgreeThroughout kept other_kept)
    (λ at. IsFirstDifference x.0 y.0 kept other_kept at.0 at.1)
    → TellsDifference types ids others other_ids found
told {types} {others} {kept} {other_kept} x y tells =
    record {
      order = x.0;
      other_order = y.0;
      kept = kept;
      other_kept = other_kept;
      pruned = x.1;
      other_pruned = y.1;
      tells = tells;
    }
