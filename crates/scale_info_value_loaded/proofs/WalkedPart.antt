-- What a walk from some ids finds, and the entries that are loaded for it, are a part of the table.
use Rattle.std.proofs.Common.{◌≡◌, ℕ, ◌<◌, ◌≤◌, List, Option, Some, None, Contains, inl, inr}
use Rattle.std.proofs.Common.{length, map, option_map, slice_get, refl, ap, sym, ◌∙◌, arith}
use Rattle.std.proofs.lemmas.List.{get_or_past, length-map}
use Rattle.std.proofs.lemmas.Option.{get_or_from_slice_get, slice_get-map}
use Rattle.scale_info_value_loaded.proofs.Parts.{reads_alike}
use Rattle.scale_info_value_loaded.proofs.Shown.{shows_alike}
use Rattle.scale_info_value_loaded.specs.LoadedTables.{IsAlikeAt, IsPartOf, entry_numbered, not_loaded}
use Rattle.scale_info_numberings.proofs.Places.{contains_at, element_at, place_of}
use Rattle.scale_info_numberings.proofs.Reached.{reached_exactly}
use Rattle.scale_info_numberings.specs.Numberings.{IsNumbering}
use Rattle.scale_info_numberings.specs.Systems.{IsReached}
use Rattle.scale_info_table.specs.TableSystems.{system_of}
use Rattle.scale_info_table.specs.declared.portable.PortableRegistry.{PortableRegistry}
use Rattle.scale_info_types.specs.declared.ty.PortableType.{PortableType}
use Rattle.scale_info_walk.proofs.Visiting.{numbers_long, numbers_within, same_or_not}
use Rattle.scale_info_walk.specs.Walks.{AreNumbers}

-- the loaded entry with a number is what was found there
same_loaded :
    (entries : List PortableType) (n : ℕ) (o p : Option PortableType)
    → slice_get entries n ≡ o → option_map Some o ≡ Some p → Some (entry_numbered entries n) ≡ p
same_loaded entries n None p there e = absurd cc
same_loaded entries n (Some entry) p there e =
    let same : Some entry ≡ p = cc in
    ap Some (get_or_from_slice_get entries n entry not_loaded there) ∙ same

-- a part of a table, in which what is reached from these ids is read as in the whole
pub record IsLoadedPart (table : PortableRegistry) (ids : List ℕ)
    (loaded : PortableRegistry) : Type 0 where
  pub part : IsPartOf table ids loaded
  pub alike : (id : ℕ) → IsReached (system_of table) ids id → IsAlikeAt table loaded id
  pub within : (id : ℕ) → IsReached (system_of table) ids id → id < length table.types

module _ (table : PortableRegistry) (ids order numbers : List ℕ) (entries : List PortableType)
    (numbering : IsNumbering (system_of table) ids order) (dense : AreNumbers order numbers)
    (count : length numbers ≡ length table.types) (few : length table.types ≤ 4294967295)
    (found : map Some entries ≡ map (λ index. slice_get table.types index) order) where
  -- the table as it is loaded
  abbrev part : PortableRegistry
  part = record { types = map (entry_numbered entries) numbers }

  -- what is reached is in the order
  in_order : (id : ℕ) → IsReached (system_of table) ids id → Contains order id
  in_order id reached = (reached_exactly (system_of table) ids order numbering id).1 reached

  -- it is an index of the table
  reached_within : (id : ℕ) → IsReached (system_of table) ids id → id < length table.types
  reached_within id reached =
      let inside = numbers_within order numbers dense id (in_order id reached) in omega (arith, count)

  -- there are as many entries as indices in the order
  as_many : length entries ≡ length order
  as_many =
      sym (length-map entries Some) ∙ ap length found ∙ length-map order (λ index. slice_get table.types index)

  -- the entry with a number of the order is the one at its index
  at_number : (n id : ℕ) → slice_get order n ≡ Some id → Some (entry_numbered entries n) ≡ slice_get table.types id
  at_number n id there =
      same_loaded entries n (slice_get entries n) (slice_get table.types id) refl
      (sym (slice_get-map Some entries n)
      ∙ ap (λ l. slice_get l n) found
      ∙ slice_get-map (λ index. slice_get table.types index) order n
      ∙ ap (option_map (λ index. slice_get table.types index)) there)

  -- what has no number has no entry
  past_all : entry_numbered entries 4294967295 ≡ not_loaded
  past_all =
      let long = numbers_long order numbers dense in
      get_or_past entries 4294967295 not_loaded (omega (arith, count, as_many))

  -- the table as it is loaded is the part that is reached
  is_part : IsPartOf table ids part
  is_part = record {
    long = length-map numbers (entry_numbered entries) ∙ count;
    loaded = λ id reached.
        let at = place_of order id (in_order id reached) in
        slice_get-map (entry_numbered entries) numbers id
        ∙ ap (option_map (entry_numbered entries)) (dense.placed at.0 id at.1)
        ∙ at_number at.0 id at.1;
    others = λ id inside unreached.
        let at = element_at numbers id (omega (arith, count)) in
        slice_get-map (entry_numbered entries) numbers id
        ∙ ap (option_map (entry_numbered entries)) at.1
        ∙ ap Some (elim (same_or_not at.0 4294967295) [
          | inl none ↦ ap (entry_numbered entries) none ∙ past_all
          | inr other ↦ absurd (unreached ((reached_exactly (system_of table) ids order numbering id).0
              (contains_at order id at.0 (dense.numbered id at.0 at.1 other))))
        ]);
  }

  -- values are read by it and shown as by the whole
  is_alike : (id : ℕ) → IsReached (system_of table) ids id → IsAlikeAt table part id
  is_alike id reached = record {
    reads = reads_alike table part ids is_part id reached;
    shows = shows_alike table part ids is_part id reached;
  }

  -- what is loaded is that part, in which all that is reached is found and read as in the whole
  pub loads : IsLoadedPart table ids part
  loads = record { part = is_part; alike = is_alike; within = reached_within }
