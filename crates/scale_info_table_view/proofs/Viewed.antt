-- What is known of the table of a view.
use Rattle.std.proofs.Common.{◌≡◌, ◌<◌, ◌≤◌, ◌==◌, ◌↔◌, ◌-◌, ℕ, zero, suc, List, [], ◌∷◌, ◌++◌, length, drop}
use Rattle.std.proofs.Common.{length-append, length-drop}
use Rattle.std.proofs.Common.{take, get_or, Some, None, Bool, IsTrue, All, refl, sym, ap, subst, ◌∙◌, arith}
use Rattle.std.proofs.Math.Logic.{∥∥₁_elim, ∥∥₁_map}
use Rattle.std.proofs.Math.Seq.{take-append_seam}
use Rattle.std.proofs.lemmas.Slice.Zip.{AllZip-long}
use Rattle.std.proofs.lemmas.Bool.{eqb-true}
use Rattle.std.proofs.lemmas.List.{append-nil, nil_from_length, take_all}
use Rattle.std.proofs.lemmas.Option.{same_Some, slice_get_past, slice_get_read, slice_get-get_or}
use Rattle.std.proofs.lemmas.Option.{none-some, slice_get_within}
use Rattle.std.specs.Coded.{Coded-set, coded_bool, coded_ℕ, coded_option}
use Rattle.std.specs.Coded.{le_prop, ×_prop, Π_prop, →_prop}
use Rattle.std.specs.List.{AllZip, enumerate_from, slice_get}
use Rattle.scale_info_bytes.proofs.Steps.{same_prefix}
use Rattle.scale_info_bytes.specs.Encodings.{HasNoPrefix, HasPrefix}
use Rattle.scale_info_bytes.specs.Integers.{EncodesCompact, in_one, in_two, in_four, in_five}
use Rattle.scale_info_grammar.specs.Ty.{EncodesPortableType}
use Rattle.scale_info_grammar.specs.TyLaws.{portable_type_law}
use Rattle.scale_info_table.specs.ClosedTables.{AreBelow, HasIndicesAsIds, HasReferencesBelow}
use Rattle.scale_info_table.specs.ClosedTables.{IsClosed}
use Rattle.scale_info_table.specs.TableEncoding.{EncodesRegistry}
use Rattle.scale_info_table.specs.TableEncodingLaws.{registry_law}
use Rattle.scale_info_table.specs.contracts.portable.PortableRegistry as tables
use Rattle.scale_info_table.specs.declared.portable.PortableRegistry.{PortableRegistry}
use Rattle.scale_info_types.specs.References.{references}
use Rattle.scale_info_types.specs.contracts.ty.PortableType as entries
use Rattle.scale_info_types.specs.declared.ty.PortableType.{PortableType}
use Rattle.scale_info_table_view.specs.ViewLaws.{view_prop}
use Rattle.scale_info_table_view.specs.Views.{BeginsWithEntry, BeginsWithTable, HasEntriesAt, IsEntryAt, IsTableView}

-- the part of the bytes from an offset on is what is left without the bytes before it
pub part_from :
    (bytes : List ℕ) (offset : ℕ)
    → take (length bytes - offset) (drop offset bytes) ≡ drop offset bytes
part_from bytes offset =
    take_all (length bytes - offset) (drop offset bytes) (omega (arith, length-drop offset bytes))

-- what is read of a list at an index is its element there
pub found_at :
    (xs ys : List ℕ) (index x : ℕ) → ys ≡ xs → index < length ys → x ≡ get_or ys index x
    → slice_get xs index ≡ Some x
found_at xs ys index x same within is =
    subst (λ list. slice_get list index ≡ Some x) same
    (slice_get_read ys (length ys) index x refl within is)

-- where an offset is found, the entry with its index begins there
pub entry_at :
    (bytes : List ℕ) (types : List PortableType) (offsets : List ℕ) (index offset : ℕ)
    → AllZip (IsEntryAt bytes) types offsets → slice_get offsets index ≡ Some offset
    → (entry : PortableType) × (slice_get types index ≡ Some entry) × IsEntryAt bytes entry offset
entry_at bytes [] [] index offset at found = absurd cc
entry_at bytes [] (o ∷ offsets) index offset at found = absurd at
entry_at bytes (e ∷ types) [] index offset at found = absurd at
entry_at bytes (e ∷ types) (o ∷ offsets) zero offset at found =
    let same : o ≡ offset = cc in (e, refl, subst (IsEntryAt bytes e) same at.0)
entry_at bytes (e ∷ types) (o ∷ offsets) (suc index) offset at found =
    entry_at bytes types offsets index offset at.1 found

-- each element has P in one way at most
all_prop :
    {X : Type 0} (P : X → Type 0) → ((x : X) → IsProp (P x)) → (xs : List X) → IsProp (All P xs)
all_prop P unique xs = Π_prop (λ k. Π_prop (λ d. →_prop (unique (get_or xs k d))))

-- a table is closed in one way at most
closed_prop : (table : PortableRegistry) → IsProp (IsClosed table)
closed_prop table =
    ×_prop
    (all_prop (λ indexed. indexed.1.id ≡ indexed.0) (λ indexed. Coded-set coded_ℕ _ _)
    (enumerate_from 0 table.types))
    (all_prop (λ entry. AreBelow (length table.types) (references entry.ty))
    (λ entry. all_prop (λ symbol. symbol.id < length table.types) (λ symbol. le_prop) (references entry.ty))
    table.types)

-- at an index that a list has it has an element
element_at :
    {X : Type 0} (xs : List X) (index : ℕ) → index < length xs
    → (x : X) × (slice_get xs index ≡ Some x)
element_at [] index inside = absurd (omega arith)
element_at (x ∷ xs) zero inside = (x, refl)
element_at (x ∷ xs) (suc index) inside = element_at xs index (omega arith)

-- what is counted is below 2 ^ 32
compact_fits : (n : ℕ) (b : List ℕ) → EncodesCompact n b → n < 4294967296
compact_fits n b (in_one below is) = omega arith
compact_fits n b (in_two above below is) = omega arith
compact_fits n b (in_four above below is) = omega arith
compact_fits n b (in_five above below is) = below

-- the table of a view
module _ (bytes offsets : List ℕ) (view : IsTableView bytes offsets) (table : PortableRegistry)
    (is : view.0 ≡ table) where
  -- its entries begin at the offsets
  pub entries_there : ∥ HasEntriesAt bytes offsets table ∥₁
  entries_there = subst (λ t. ∥ HasEntriesAt bytes offsets t ∥₁) is view.1

  -- it has as many entries as there are offsets
  pub view_long : length offsets ≡ length table.types
  view_long =
      ∥∥₁_elim entries_there (Coded-set coded_ℕ _ _)
      (λ there. AllZip-long (IsEntryAt bytes) table.types offsets there.at_offsets)

  -- indices are numbers of 32 bits
  pub view_few : length offsets < 4294967296
  view_few =
      ∥∥₁_elim entries_there le_prop (λ there.
      let fits =
      compact_fits (length table.types) there.encodes.first there.encodes.encodes_first in
      omega (arith, fits, view_long))

  -- past the last offset there is no entry
  pub no_entry : (index : ℕ) → length offsets ≤ index → slice_get table.types index ≡ None
  no_entry index past = slice_get_past table.types index (omega (arith, view_long))

  -- an offset that is found is within the bytes
  pub offset_within :
      (index offset : ℕ) → slice_get offsets index ≡ Some offset → offset ≤ length bytes
  offset_within index offset found =
      ∥∥₁_elim entries_there le_prop
      (λ there. (entry_at bytes table.types offsets index offset there.at_offsets found).2.within)

  -- from an offset on, the bytes begin with the entry with its index
  pub begins_there :
      (index offset : ℕ) (part : List ℕ) → slice_get offsets index ≡ Some offset
      → part ≡ take (length bytes - offset) (drop offset bytes)
      → BeginsWithEntry table.types index part
  begins_there index offset part found is =
      let inside = slice_get_within offsets index offset found in
      let here = element_at table.types index (omega (arith, view_long)) in
      record {
        entry = here.0;
        found = here.1;
        begins = ∥∥₁_map entries_there (λ there.
            let at = entry_at bytes table.types offsets index offset there.at_offsets found in
            let same : at.0 ≡ here.0 = same_Some at.0 here.0 (sym at.1 ∙ here.1) in (
              at.2.rest,
              subst (λ e. HasPrefix (EncodesPortableType e) part at.2.rest) same
                  (subst (λ t. HasPrefix (EncodesPortableType at.0) t at.2.rest)
                  (sym (is ∙ part_from bytes offset)) at.2.prefix),
            ));
      }

  -- the bytes begin with the table
  pub table_begins : HasNoPrefix EncodesRegistry bytes → ⊥
  table_begins none =
      ∥∥₁_elim entries_there (λ x y. absurd x) (λ there.
      none.none table [] (record { encoding = bytes; encodes = there.encodes; parts = sym (append-nil bytes) }))

  -- what is decoded from the bytes is the table
  pub table_found :
      (other : PortableRegistry) (rest : List ℕ) → HasPrefix (EncodesRegistry other) bytes rest
      → other ≡ table
  table_found other rest prefix =
      ∥∥₁_elim entries_there (Coded-set tables.the_row.coded _ _) (λ there.
      (registry_law.prefix_free other table prefix.encoding bytes rest [] prefix.encodes there.encodes
      (sym prefix.parts ∙ sym (append-nil bytes))).1)

  -- it has no entry exactly where there is no offset
  pub view_empty :
      (answer : Bool) → answer ≡ (length offsets == 0) → IsTrue answer ↔ (table.types ≡ [])
  view_empty answer says = (
    λ yes. nil_from_length table.types (sym view_long ∙ eqb-true (length offsets) 0 (sym says ∙ yes)),
    λ none. says ∙ ap (λ n. n == 0) (view_long ∙ ap length none),
  )

  -- each offset is within the bytes
  pub offsets_within : All (λ offset. offset ≤ length bytes) offsets
  offsets_within k d within =
      offset_within k (get_or offsets k d) (slice_get-get_or offsets k d within)

  -- an answer that holds of whatever entries begin at the offsets holds of the table
  pub closed_by_entries :
      (answer : Bool)
      → ((types : List PortableType) → AllZip (IsEntryAt bytes) types offsets
      → (IsTrue answer ↔ (HasIndicesAsIds types × HasReferencesBelow (length types) types)))
      → (IsTrue answer ↔ IsClosed table)
  closed_by_entries answer says =
      ∥∥₁_elim entries_there
      (×_prop (→_prop (closed_prop table)) (→_prop (Coded-set coded_bool _ _)))
      (λ there. says table.types there.at_offsets)

-- the bytes before the rest are those of the table with which the input begins
pub bytes_before :
    (input rest bytes before : List ℕ)
    → input ≡ before ++ rest → bytes ≡ take (length input - length rest) input → bytes ≡ before
bytes_before input rest bytes before parts is =
    let long : length input - length rest ≡ length before =
    omega (arith, ap length parts, length-append before rest) in
    is
    ∙ ap (λ n. take n input) long
    ∙ ap (take (length before)) parts
    ∙ take-append_seam before rest

-- the bytes before the rest, with the offsets, are a view
abbrev pub viewed :
    (input rest bytes offsets : List ℕ) → BeginsWithTable input rest offsets
    → bytes ≡ take (length input - length rest) input → IsTableView bytes offsets
viewed input rest bytes offsets begins is = (
  begins.table,
  ∣ subst (λ b. HasEntriesAt b offsets begins.table)
      (sym (bytes_before input rest bytes begins.bytes begins.parts is)) begins.entries ∣₁,
)

-- the table of a view of the bytes before the rest is the one with which the input begins
pub decoded :
    (input rest bytes offsets : List ℕ) (view : IsTableView bytes offsets)
    → BeginsWithTable input rest offsets → bytes ≡ take (length input - length rest) input
    → HasPrefix (EncodesRegistry view.0) input rest
decoded input rest bytes offsets view begins is =
    let same : begins.table ≡ view.0 =
    ap (λ v. v.0) (view_prop bytes offsets (viewed input rest bytes offsets begins is) view) in
    subst (λ t. HasPrefix (EncodesRegistry t) input rest) same
    (record { encoding = begins.bytes; encodes = begins.entries.encodes; parts = begins.parts })

-- bytes that begin with an entry are not without one
pub some_entry :
    (types : List PortableType) (index : ℕ) (bytes : List ℕ)
    → BeginsWithEntry types index bytes → HasNoPrefix EncodesPortableType bytes → ⊥
some_entry types index bytes there none =
    ∥∥₁_elim there.begins (λ x y. absurd x) (λ begins. none.none there.entry begins.0 begins.1)

-- what is read of bytes that begin with the entry at an index is that entry
pub same_entry :
    (types : List PortableType) (index : ℕ) (bytes rest : List ℕ) (entry : PortableType)
    → BeginsWithEntry types index bytes → HasPrefix (EncodesPortableType entry) bytes rest
    → Some entry ≡ slice_get types index
same_entry types index bytes rest entry there prefix =
    ∥∥₁_elim there.begins (Coded-set (coded_option entries.the_row.coded) _ _) (λ begins.
    let same =
    (same_prefix portable_type_law entry there.entry bytes rest begins.0 prefix begins.1).0 in
    ap Some same ∙ sym there.found)

-- at an index that a list has it is not without an element
pub not_past :
    {X : Type 0} (xs : List X) (index : ℕ) → index < length xs → slice_get xs index ≡ None → ⊥
not_past xs index inside none =
    let there = element_at xs index inside in none-some there.0 (sym none ∙ there.1)
