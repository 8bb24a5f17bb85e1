-- What a numbered index says of its table.
use Rattle.std.proofs.Common.{◌≢◌, ◌↔◌, Some, slice_get, ◌≡◌, ℕ, ◌<◌, ◌≤◌, List, [], ◌∷◌, length}
use Rattle.std.proofs.Common.{refl, ap, sym, ◌∙◌, subst, arith, suc, All, get_or, map, None, ◌-◌}
use Rattle.std.proofs.Common.{drop, take, take_all, length-drop}
use Rattle.std.proofs.Math.Logic.{∥∥₁_elim}
use Rattle.std.proofs.lemmas.List.Elements.{Contains-get_or}
use Rattle.std.proofs.lemmas.Option.{slice_get_past, slice_get_read, slice_get_within}
use Rattle.std.specs.BTreeMap.{BTreeMap, get}
use Rattle.std.specs.Ordering.{nat_cmp}
use Rattle.scale_info_bytes.specs.Encodings.{HasPrefix}
use Rattle.scale_info_bytes.specs.Integers.{EncodesCompact, in_one, in_two, in_four, in_five}
use Rattle.scale_info_grammar.specs.Ty.{EncodesDescription, EncodesTypes}
use Rattle.scale_info_numberings.proofs.Zip.{zip_right, zip_turned}
use Rattle.scale_info_numberings.specs.Numberings.{IsNumbering}
use Rattle.scale_info_numberings.specs.Systems.{IsFirstOutside}
use Rattle.scale_info_numberings.specs.Tables.{IsTable}
use Rattle.scale_info_passes.specs.Entries.{AreAtOffsets, AreKeptEntries, HasEntriesAt, IsAtOffset}
use Rattle.scale_info_passes.specs.Visits.{renumbered}
use Rattle.scale_info_types.specs.declared.ty.PortableType.{PortableType}
use Rattle.scale_info_walk.proofs.KeptEntries.{kept_table, kept_ids}
use Rattle.scale_info_walk.proofs.Visiting.{numbers_long, numbers_within}
use Rattle.scale_info_walk.specs.Kept.{AreKept}
use Rattle.scale_info_walk.specs.TypeSystems.{entry_of, types_system}
use Rattle.scale_info_walk.specs.SystemLaws.{nothing_past}
use Rattle.scale_info_walk.specs.Walks.{AreNumbers, IsRoom, IsWalked}
use Rattle.scale_info_walk.specs.declared.walk.Renumbering.{Renumbering}
use Rattle.scale_info_table_prune.proofs.ByteIndexes.{index_alike, index_long, same_first, same_numbering}
use Rattle.scale_info_table_prune.proofs.TableIndexes.{kept_entries, written_agrees, written_number}
use Rattle.scale_info_table_prune.specs.ByteIndexes.{index_system}
use Rattle.scale_info_table_prune.specs.Prunes.{AppendsPruned, HasNewIds, IsNumbered, IsNumberedFrom}
use Rattle.scale_info_table_prune.specs.Prunes.{IsPruneError, IsRootsNumberingError, IsTableError}
use Rattle.scale_info_table_prune.specs.Prunes.{IsTypesPruneError, LeadsOutside}
use Rattle.scale_info_table_prune.specs.Roots.{AreRoots}
use Rattle.scale_info_table_prune.specs.TableIndexes.{AppendsKeptTable, BeginsWithDescription}
use Rattle.scale_info_table_prune.specs.TableIndexes.{IsEncodedTable, IsTableIndex}
use Rattle.scale_info_table_prune.specs.TableLaws.{table_prop}
use Rattle.scale_info_table_prune.specs.declared.prune.PruneError.{PruneError}
use Rattle.scale_info_table_prune.specs.declared.prune.PruneError.TheVariants.{Malformed, Trailing}
use Rattle.scale_info_table_prune.specs.declared.prune.PruneError.TheVariants.{NoSuchType, Dangling}
use Rattle.scale_info_table_prune.specs.declared.prune.PruneError.TheVariants.{Memory}

-- why the input is not found to be one table is also why it is not pruned
pub table_error : (input given : List ℕ) (e : PruneError) → IsTableError input e → IsPruneError input given e
table_error input given Malformed x = x
table_error input given Trailing x = x
table_error input given (NoSuchType id) x = absurd x
table_error input given (Dangling id) x = absurd x
table_error input given Memory x = x

-- why the table that the input encodes is not pruned is why the input is not
pub types_error :
    (types : List PortableType) (input given : List ℕ) (e : PruneError) → EncodesTypes types input
    → IsTypesPruneError types given e → IsPruneError input given e
types_error types input given Malformed x h = absurd h
types_error types input given Trailing x h = absurd h
types_error types input given (NoSuchType id) x h = record { types = types; encodes = x; no_such_type = h }
types_error types input given (Dangling id) x h = record { types = types; encodes = x; dangles = h }
types_error types input given Memory x h = h

-- bytes encode one table
pub one_table : {bytes : List ℕ} (table other : IsEncodedTable bytes) → table.0 ≡ other.0
one_table {bytes} table other = ap (λ t. t.0) (table_prop bytes table other)

-- so an index of it is an index of the other
pub reindexed :
    {count : ℕ} {bytes body offsets starts references : List ℕ} (table other : IsEncodedTable bytes)
    → IsTableIndex table.0 count bytes body offsets starts references
    → IsTableIndex other.0 count bytes body offsets starts references
reindexed {count} {bytes} {body} {offsets} {starts} {references} table other x =
    subst (λ types. IsTableIndex types count bytes body offsets starts references)
    (one_table table other) x

-- what is counted is no more than 4294967295
compact_fits : (n : ℕ) (b : List ℕ) → EncodesCompact n b → n ≤ 4294967295
compact_fits n b (in_one below is) = omega arith
compact_fits n b (in_two above below is) = omega arith
compact_fits n b (in_four above below is) = omega arith
compact_fits n b (in_five above below is) = omega arith

-- a table that bytes encode has no more than 4294967295 entries
pub types_few : (types : List PortableType) (bytes : List ℕ) → EncodesTypes types bytes → length types ≤ 4294967295
types_few types bytes x = compact_fits (length types) x.first x.encodes_first

-- what is read of a list at an index is its element there
pub found_at :
    (xs ys : List ℕ) (index x : ℕ) → ys ≡ xs → index < length ys → x ≡ get_or ys index x
    → slice_get xs index ≡ Some x
found_at xs ys index x same within is =
    subst (λ list. slice_get list index ≡ Some x) same
    (slice_get_read ys (length ys) index x refl within is)

zip_long :
    (body : List ℕ) (es : List PortableType) (os : List ℕ) → AreAtOffsets body es os
    → length os ≡ length es
zip_long body [] [] a = refl
zip_long body [] (o ∷ os) a = absurd a
zip_long body (e ∷ es) [] a = absurd a
zip_long body (e ∷ es) (o ∷ os) a = ap suc (zip_long body es os a.1)

module _ {types : List PortableType} {count : ℕ} {bytes body offsets starts references : List ℕ}
    (x : IsTableIndex types count bytes body offsets starts references) where
  -- there are as many starts as the count says
  pub starts_count : length starts ≡ count
  starts_count = index_long types starts x.are_starts ∙ x.long

  -- and no more than 4294967295
  pub starts_few : length starts ≤ 4294967295
  starts_few =
      let long = index_long types starts x.are_starts in
      let few = types_few types bytes x.encodes in
      omega arith

  -- the descriptions of the table's entries are at the offsets
  pub has_entries : HasEntriesAt body offsets
  has_entries = record { entries = types; at_offsets = x.at_offsets }

  -- there are as many offsets as entries
  pub offsets_long : length offsets ≡ length types
  offsets_long = zip_long body types offsets x.at_offsets

  -- past the last offset there is no entry
  pub no_entry : (id : ℕ) → length offsets ≤ id → slice_get types id ≡ None
  no_entry id past = let long = offsets_long in slice_get_past types id (omega arith)

  -- where an offset is found, the description of the entry with its index begins there
  pub entry_at :
      (id offset : ℕ) → slice_get offsets id ≡ Some offset
      → (entry : PortableType) × (slice_get types id ≡ Some entry) × IsAtOffset body entry offset
  entry_at id offset found =
      zip_right (λ at entry. IsAtOffset body entry at) offsets types
      (zip_turned (IsAtOffset body) types offsets x.at_offsets) id offset found

  -- so the bytes begin with it there
  pub begins_there :
      (id offset : ℕ) (part : List ℕ) → slice_get offsets id ≡ Some offset
      → part ≡ take (length body - offset) (drop offset body) → BeginsWithDescription types id part
  begins_there id offset part found is =
      let here = entry_at id offset found in
      let whole : take (length body - offset) (drop offset body) ≡ drop offset body =
      take_all (length body - offset) (drop offset body) (omega (arith, length-drop offset body)) in
      record {
        entry = here.0;
        found = here.1;
        rest = here.2.rest;
        prefix =
            subst (λ bytes. HasPrefix (EncodesDescription here.0.ty) bytes here.2.rest)
            (sym (is ∙ whole)) here.2.prefix;
      }

  -- a numbering of the index is one of the table
  pub numbered_from :
      {roots : List ℕ} (found : Renumbering)
      → IsWalked (index_system starts references) (length starts) roots found
      → IsNumberedFrom types roots found.order.items found.numbers.items
  numbered_from {roots} found walked =
      let long = index_long types starts x.are_starts in
      record {
        numbering =
            same_numbering (index_system starts references) (types_system types)
            (index_alike types starts references x.are_starts x.are_references) roots
            found.order.items walked.numbering;
        dense = walked.walk.dense;
        long = walked.walk.long ∙ long;
        few = types_few types bytes x.encodes;
      }

  -- so it is where the index is read through references
  pub numbered_at :
      {roots read_starts read_references : List ℕ} (found : Renumbering) → read_starts ≡ starts
      → read_references ≡ references
      → IsWalked (index_system read_starts read_references) (length read_starts) roots found
      → IsNumberedFrom types roots found.order.items found.numbers.items
  numbered_at {roots} {read_starts} {read_references} found same_starts same_references walked =
      numbered_from found
      (subst (λ (ss : List ℕ). IsWalked (index_system ss references) (length ss) roots found) same_starts
      (subst (λ (rs : List ℕ). IsWalked (index_system read_starts rs) (length read_starts) roots found)
      same_references walked))

  -- an id that leads outside of the index leads outside of the table
  pub leads_outside :
      {roots : List ℕ} {id : ℕ} → IsFirstOutside (index_system starts references) [] roots id
      → length starts ≤ id → LeadsOutside types roots id
  leads_outside {roots} {id} first past =
      let long = index_long types starts x.are_starts in
      record {
        first =
            same_first (index_system starts references) (types_system types)
            (index_alike types starts references x.are_starts x.are_references) [] roots id
            (nothing_past types id (omega arith)) first;
        outside = omega arith;
      }

  -- so it is where the index is read through references
  pub leads_outside_at :
      {roots read_starts read_references : List ℕ} {id : ℕ} → read_starts ≡ starts
      → read_references ≡ references
      → IsFirstOutside (index_system read_starts read_references) [] roots id
      → length read_starts ≤ id → LeadsOutside types roots id
  leads_outside_at {roots} {read_starts} {read_references} {id} same_starts same_references first past =
      leads_outside
      (subst (λ (ss : List ℕ). IsFirstOutside (index_system ss references) [] roots id) same_starts
      (subst (λ (rs : List ℕ). IsFirstOutside (index_system read_starts rs) [] roots id)
      same_references first))
      (subst (λ (ss : List ℕ). length ss ≤ id) same_starts past)

-- a table that was numbered from roots
module _ {types : List PortableType} {roots order numbers : List ℕ}
    (z : IsNumberedFrom types roots order numbers) where
  -- each index in the order is that of an entry
  pub order_within : (offsets : List ℕ) → length offsets ≡ length types → All (λ index. index < length offsets) order
  order_within offsets same k d h =
      let inside = numbers_within order numbers z.dense (get_or order k d) (Contains-get_or order k d h) in
      let a = z.long in
      omega arith

  -- the order has no more than 4294967295 indices
  pub order_few : length order ≤ 4294967295
  order_few =
      let long = numbers_long order numbers z.dense in
      let a = z.long in
      let few = z.few in
      omega arith

  -- nor has the dense list
  pub numbers_few : length numbers ≤ 4294967295
  numbers_few = let a = z.long in let few = z.few in omega arith

  -- another numbering can reuse the buffers of this one
  pub is_room : (count : ℕ) (found : Renumbering) → length types ≡ count → found.order.items ≡ order
      → found.numbers.items ≡ numbers → IsRoom count (Some found)
  is_room count found long same_order same_numbers = (
    subst (λ ns. AreNumbers found.order.items ns) (sym same_numbers)
        (subst (λ os. AreNumbers os numbers) (sym same_order) z.dense),
    ap length same_numbers ∙ (z.long ∙ long),
    subst (λ n. n ≤ 4294967295) long z.few,
  )

  module _ (kept : List PortableType)
      (are_kept : AreKeptEntries types (renumbered numbers) 0 order kept) where
    kept_as_written : AreKept types order (written_number numbers) kept
    kept_as_written = kept_entries types numbers order kept are_kept

    -- what is kept of the order is its table
    pub table_of : IsTable (types_system types) order (map entry_of kept)
    table_of =
        kept_table types roots order numbers (written_number numbers) kept z.numbering z.dense
        (written_agrees numbers) kept_as_written

    -- what is kept has its indices as ids
    pub ids_of_kept : (i : ℕ) (entry : PortableType) → slice_get kept i ≡ Some entry → entry.id ≡ i
    ids_of_kept =
        kept_ids types roots order numbers (written_number numbers) kept z.numbering z.dense
        (written_agrees numbers) kept_as_written

-- a table that was numbered from given ids
module _ {types : List PortableType} {given order numbers : List ℕ}
    (y : IsNumbered types given order numbers) where
  -- a kept table of the order, appended, is the table pruned to the given ids
  pub appends_pruned :
      {old new : List ℕ} → AppendsKeptTable types (renumbered numbers) order old new
      → AppendsPruned types given order old new
  appends_pruned k = record {
    roots = y.roots;
    are_roots = y.are_roots;
    numbering = y.from.numbering;
    kept = k.kept;
    table = table_of y.from k.kept k.are_kept;
    ids = ids_of_kept y.from k.kept k.are_kept;
    appends = k.appends;
  }

  -- a map with the dense list's numbers takes each index of the order to its place, and no other
  pub new_ids_of :
      (new_ids : BTreeMap ℕ ℕ)
      → ((old new : ℕ) → (get nat_cmp new_ids old ≡ Some new)
      ↔ ((slice_get numbers old ≡ Some new) × (new ≢ 4294967295)))
      → HasNewIds order new_ids
  new_ids_of new_ids m old new = (
    (λ e. let h = (m old new).0 e in y.from.dense.numbered old new h.0 h.1),
    (λ e.
        let within = slice_get_within order new old e in
        let few = order_few y.from in
        (m old new).1 (y.from.dense.placed new old e, λ same. omega arith)),
  )

-- why a table is not numbered from the roots of given ids is why it is not pruned to these
pub error_of_roots :
    (types : List PortableType) (given roots : List ℕ) (e : PruneError)
    → AreRoots (length types) given roots → IsRootsNumberingError types roots e
    → IsTypesPruneError types given e
error_of_roots types given roots Malformed a h = absurd h
error_of_roots types given roots Trailing a h = absurd h
error_of_roots types given roots (NoSuchType id) a h = absurd h
error_of_roots types given roots (Dangling id) a h = record { roots = roots; are_roots = a; leads = h }
error_of_roots types given roots Memory a h = h
