-- The clauses of the law of the whole.
use Rattle.std.proofs.Common.{◌≡◌, ◌+◌, ◌↔◌, ℕ, zero, suc, List, [], ◌∷◌, map, Some, slice_get, ap}
use Rattle.std.proofs.Common.{sym, ◌∙◌, subst, arith, length}
use Rattle.std.proofs.lemmas.Option.{same_Some}
use Rattle.std.specs.BTreeMap.{get}
use Rattle.std.specs.Ordering.{nat_cmp}
use Rattle.scale_info_identities.specs.TypeIds.{Term}
use Rattle.scale_info_numberings.specs.Matches.{IsMatch}
use Rattle.scale_info_numberings.specs.Numberings.{IsNumbering}
use Rattle.scale_info_numberings.specs.Systems.{Entry, System}
use Rattle.scale_info_numberings.specs.Tables.{ArePlaces, IsTable, table_system}
use Rattle.scale_info_numberings.proofs.Extensions.{one_numbering}
use Rattle.scale_info_numberings.proofs.Matches.{match_exactly}
use Rattle.scale_info_numberings.proofs.Pruned.{pruned_reading, pruned_numbering, pruned_table}
use Rattle.scale_info_numberings.proofs.Tables.{one_table}
use Rattle.scale_info_numberings.proofs.Zip.{zip_weaker}
use Rattle.scale_info_registry.specs.Registrations.{AreSteps, IsRegistration, Registered, Step}
use Rattle.scale_info_catalogue.specs.Discoveries.{nodes_of}
use Rattle.scale_info_registry.specs.Registrations.{
  last_step,
  portable_entry,
  registered,
  step_roots,
}
use Rattle.scale_info_table.specs.BuiltTables.{numbered_from}
use Rattle.scale_info_table.specs.TableEncoding.{EncodesRegistry}
use Rattle.scale_info_table.specs.TableSystems.{system_of}
use Rattle.scale_info_table.specs.declared.portable.PortableRegistry.{PortableRegistry}
use Rattle.scale_info_export.proofs.NumberedEntries.{numbered_entries}
use Rattle.scale_info_types.specs.Portable.{Description}
use Rattle.scale_info_types.specs.Shapes.{Shape}
use Rattle.scale_info_types.specs.declared.ty.PortableType.{PortableType}
use Rattle.scale_info_walk.specs.TypeSystems.{entry_of}
use Rattle.scale_info_export.specs.Headline.{AreAccepted, AreChosenTypes, AreNewIds, History}
use Rattle.scale_info_export.specs.Headline.{IsTableOf}
use Rattle.scale_info_export.specs.Headline.{IsWritten, Pruning, catalogue_of, registry_of}
use Rattle.scale_info_export.proofs.Exported.{one_system}
use Rattle.scale_info_table_prune.proofs.SameTables.{PartsLaw, same_types}

-- numbered entries have their indices as ids
numbered_ids :
    (n : ℕ) (types : List Description) (i : ℕ) (entry : PortableType)
    → slice_get (numbered_from n types) i ≡ Some entry → entry.id ≡ n + i
numbered_ids n [] i entry at = cc
numbered_ids n (ty ∷ types) zero entry at =
    ap (λ (e : PortableType). e.id) (sym (same_Some (record { id = n; ty = ty }) entry at)) ∙ omega arith
numbered_ids n (ty ∷ types) (suc i) entry at =
    let later = numbered_ids (n + 1) types i entry at in omega arith

-- the table of a registry, as a system
table_entries :
    (r : Registered) (table : PortableRegistry) → IsTableOf r table
    → map entry_of table.types ≡ map portable_entry r.types
table_entries r table is = ap (map entry_of) is.0 ∙ numbered_entries 0 r.types

-- what is registered into an empty registry is the numbering from the roots
abbrev pub AfreshLaw : Type 0
AfreshLaw =
    (S : System Shape Term) (roots : List Term) (r : Registered) → IsRegistration S (registered [] []) roots r
    → length r.types ≡ length r.identities
    → IsNumbering S roots (nodes_of r.identities)
    × IsTable S (nodes_of r.identities) (map portable_entry r.types)

-- so are several registrations
abbrev pub HistoryLaw : Type 0
HistoryLaw =
    (first : Step) (later : List Step)
    → IsRegistration first.catalogue (registered [] []) first.roots first.registry → AreSteps first later
    → length (last_step first later).registry.types ≡ length (last_step first later).registry.identities
    → IsNumbering (last_step first later).catalogue (step_roots (first ∷ later))
    (nodes_of (last_step first later).registry.identities)
    × IsTable (last_step first later).catalogue (nodes_of (last_step first later).registry.identities)
    (map portable_entry (last_step first later).registry.types)

module _ (parts_law : PartsLaw) (afresh_law : AfreshLaw) (history_law : HistoryLaw) (h : History) (p : Pruning)
    (accepted : AreAccepted h) (is : IsTableOf (registry_of h) p.whole) (written : IsWritten p) where
  abbrev S : System Shape Term
  S = catalogue_of h

  abbrev L : List Term
  L = nodes_of (registry_of h).identities

  abbrev T : List (Entry Shape ℕ)
  T = map entry_of p.whole.types

  -- the identities are the numbering from all roots, and the whole table is its table
  all : IsNumbering S (step_roots (h.first ∷ h.later)) L × IsTable S L (map portable_entry (registry_of h).types)
  all = history_law h.first h.later accepted.begins accepted.steps is.1

  whole_table : IsTable S L T
  whole_table = subst (λ T. IsTable S L T) (sym (table_entries (registry_of h) p.whole is)) all.1

  numbering : IsNumbering (table_system T) p.chosen written.0.order
  numbering = subst (λ s. IsNumbering s p.chosen written.0.order) (one_system p.whole.types) written.0.numbering

  table : IsTable (table_system T) written.0.order (map entry_of p.kept.types)
  table = subst (λ s. IsTable s written.0.order (map entry_of p.kept.types)) (one_system p.whole.types) written.0.table

  read : (tops M : List Term) × ArePlaces L tops p.chosen × ArePlaces L M written.0.order
  read = pruned_reading S (step_roots (h.first ∷ h.later)) L T p.chosen written.0.order all.0 whole_table numbering

  -- each chosen id is that of a type
  pub chosen_types : (types : List Term) × AreChosenTypes (registry_of h) p types
  chosen_types = (read.0, read.2)

  module _ (types : List Term) (chosen : AreChosenTypes (registry_of h) p types) where
    kept_numbering : IsNumbering S types read.1
    kept_numbering =
        pruned_numbering S (step_roots (h.first ∷ h.later)) L T p.chosen written.0.order all.0 whole_table numbering
        types read.1 chosen read.3

    kept_table : IsTable S read.1 (map entry_of p.kept.types)
    kept_table =
        (pruned_table S (step_roots (h.first ∷ h.later)) L T p.chosen written.0.order all.0 whole_table numbering
        types read.1 chosen read.3 (map entry_of p.kept.types)).0 table

    -- the kept table is that of the one numbering from the chosen types
    pub kept_is_numbered :
        (kept : List Term) × IsNumbering S types kept × IsTable S kept (map entry_of p.kept.types)
        × ((other : List Term) → IsNumbering S types other → other ≡ kept)
    kept_is_numbered = (
      read.1,
      kept_numbering,
      kept_table,
      λ other x. one_numbering S types other read.1 x kept_numbering,
    )

    -- and of the chosen types, registered afresh
    pub kept_is_afresh :
        (afresh : Registered) (again : PortableRegistry) → IsRegistration S (registered [] []) types afresh
        → IsTableOf afresh again → again ≡ p.kept
    kept_is_afresh afresh again x is_again =
        let made = afresh_law S types afresh x is_again.1 in
        let same = one_numbering S types (nodes_of afresh.identities) read.1 made.0 kept_numbering in
        let there : IsTable S read.1 (map entry_of again.types) =
        subst (λ K. IsTable S K (map entry_of again.types)) same
        (subst (λ T. IsTable S (nodes_of afresh.identities) T) (sym (table_entries afresh again is_again)) made.1) in
        let entries = one_table S read.1 kept_numbering.1.order.distinct _ _ there kept_table in
        let types = same_types parts_law again.types p.kept.types
        (λ i entry at.
        let here = numbered_ids 0 afresh.types i entry (subst (λ ts. slice_get ts i ≡ Some entry) is_again.0 at) in
        omega arith)
        written.0.ids entries in
        ap (λ ts. record { types = ts }) types

-- the places of the chosen ids among those that are kept are their new ids
new_places : (p : Pruning) (ids : List ℕ) → (w : IsWritten p) → AreNewIds p ids → ArePlaces w.0.order p.chosen ids
new_places p ids w new =
    zip_weaker (λ old new. get nat_cmp p.new_ids old ≡ Some new) (λ old new. slice_get w.0.order new ≡ Some old)
    p.chosen ids (λ old new _ _ got. (w.0.indices old new).0 got) new

-- bytes and new ids agree exactly where a match exists
pub written_match :
    PartsLaw
    → ((table : PortableRegistry) (b c : List ℕ) → EncodesRegistry table b → EncodesRegistry table c → b ≡ c)
    → ((table other : PortableRegistry) (b : List ℕ) → EncodesRegistry table b → EncodesRegistry other b → table ≡ other)
    → (p q : Pruning) (ids others : List ℕ) → IsWritten p → IsWritten q → AreNewIds p ids → AreNewIds q others
    → ((p.bytes ≡ q.bytes) × (ids ≡ others))
    ↔ ((pairs : List (ℕ × ℕ)) × IsMatch (system_of p.whole) p.chosen (system_of q.whole) q.chosen pairs)
written_match parts_law one unique p q ids others w v new newer =
    let decided =
    match_exactly (system_of p.whole) p.chosen w.0.order (system_of q.whole) q.chosen v.0.order
    (map entry_of p.kept.types) (map entry_of q.kept.types) ids others w.0.numbering v.0.numbering w.0.table v.0.table
    (new_places p ids w new) (new_places q others v newer) in (
      λ same.
          let tables = unique p.kept q.kept p.bytes w.1 (subst (λ b. EncodesRegistry q.kept b) (sym same.0) v.1) in
          decided.0 (ap (λ (t : PortableRegistry). map entry_of t.types) tables, same.1),
      λ found.
          let same = decided.1 found in
          let types = same_types parts_law p.kept.types q.kept.types w.0.ids v.0.ids same.0 in
          let tables : p.kept ≡ q.kept = ap (λ ts. record { types = ts }) types in
          (one q.kept p.bytes q.bytes (subst (λ t. EncodesRegistry t p.bytes) tables w.1) v.1, same.1),
    )
