-- Indexes of whole tables, and the writing of what is kept.
use Rattle.std.proofs.Common.{◌≡◌, ◌≢◌, ◌==◌, ℕ, zero, suc, ◌+◌, List, [], ◌∷◌, ◌++◌, length, Some}
use Rattle.std.proofs.Common.{true, false}
use Rattle.std.proofs.Common.{slice_get, get_or, ap, sym, ◌∙◌, subst, arith, append-nil}
use Rattle.std.proofs.lemmas.Bool.{eqb-true}
use Rattle.std.proofs.lemmas.List.{nil_from_length}
use Rattle.std.proofs.lemmas.Option.{none-some, same_Some, get_or_from_slice_get}
use Rattle.scale_info_bytes.proofs.Lists.{prefix_list}
use Rattle.scale_info_bytes.proofs.Steps.{appends_both}
use Rattle.scale_info_bytes.specs.Encodings.{AppendsEncoding, HasPrefix}
use Rattle.scale_info_bytes.specs.Integers.{EncodesCompact}
use Rattle.scale_info_grammar.specs.Ty.{EncodesPortableType}
use Rattle.scale_info_passes.specs.Entries.{AreKeptEntries, AppendsKeptEntries, IsEntryIndex}
use Rattle.scale_info_passes.specs.Visits.{renumbered}
use Rattle.scale_info_types.specs.KeptEntries.{kept_entry}
use Rattle.scale_info_types.specs.Portable.{Id}
use Rattle.scale_info_types.specs.declared.ty.PortableType.{PortableType}
use Rattle.scale_info_walk.proofs.KeptEntries.{Agrees}
use Rattle.scale_info_walk.specs.Kept.{AreKept}
use Rattle.scale_info_grammar.specs.Ty.{EncodesTypes}
use Rattle.scale_info_table_prune.specs.TableIndexes.{AppendsKeptTable, HasTrailing, IsTableIndex}

-- the count and the entries are a table
table_prefix :
    (n : ℕ) (a b r p s rs : List ℕ) → HasPrefix (EncodesCompact n) a b
    → (x : IsEntryIndex n b r p s rs) → HasPrefix (EncodesTypes x.at.entries) a r
table_prefix n a b r p s rs f x = prefix_list EncodesPortableType x.at.entries n a b r x.at.count f x.at.prefix

-- a count, and an index of so many entries with nothing after them, are an index of a table
pub is_index :
    (n : ℕ) (a b r p s rs : List ℕ) → r ≡ [] → HasPrefix (EncodesCompact n) a b
    → IsEntryIndex n b r p s rs → (types : List PortableType) × IsTableIndex types n a b p s rs
is_index n a b r p s rs e f x =
    let t = table_prefix n a b r p s rs f x in (
      x.at.entries,
      record {
        long = x.at.count;
        encodes =
            subst (λ bytes. EncodesTypes x.at.entries bytes)
            (sym (t.parts ∙ ap (λ z. t.encoding ++ z) e ∙ append-nil t.encoding)) t.encodes;
        at_offsets = x.at.at_offsets;
        are_starts = x.are_starts;
        are_references = x.references;
      },
    )

-- a count and so many entries, with a rest that is not empty, are a table and trailing bytes
pub has_trailing :
    (n : ℕ) (a b r p s rs : List ℕ) → r ≢ [] → HasPrefix (EncodesCompact n) a b
    → IsEntryIndex n b r p s rs → HasTrailing a
has_trailing n a b r p s rs more f x =
    record { types = x.at.entries; rest = r; prefix = table_prefix n a b r p s rs f x; more = more }

-- a list whose length is found to be 0 is empty
pub is_empty : (r : List ℕ) → true ≡ (length r == 0) → r ≡ []
is_empty r e = nil_from_length r (eqb-true (length r) 0 (sym e))

-- a list whose length is found not to be 0 is not empty
pub is_not_empty : (r : List ℕ) → false ≡ (length r == 0) → r ≢ []
is_not_empty r e h =
    let bad : false ≡ (length {A = ℕ} [] == 0) = subst (λ t. false ≡ (length t == 0)) h e in cc

-- as many entries are kept as there are indices
kept_long :
    (entries : List PortableType) (f : Id → Id) (k : ℕ) (is : List ℕ) (kept : List PortableType)
    → AreKeptEntries entries f k is kept → length kept ≡ length is
kept_long entries f k [] kept a = ap length a
kept_long entries f k (i ∷ is) [] a = absurd a
kept_long entries f k (i ∷ is) (e ∷ es) a = ap suc (kept_long entries f (k + 1) is es a.1)

-- the count appended, and then the kept entries, are the kept table appended
pub appends_table :
    (entries : List PortableType) (f : Id → Id) (indices : List ℕ) (n : ℕ) (old mid new : List ℕ)
    → n ≡ length indices → AppendsEncoding (EncodesCompact n) old mid
    → AppendsKeptEntries entries f indices mid new → AppendsKeptTable entries f indices old new
appends_table entries f indices n old mid new e p x =
    let long = kept_long entries f 0 indices x.kept x.are_kept in
    record {
      kept = x.kept;
      are_kept = x.are_kept;
      appends =
          appends_both (subst (λ k. AppendsEncoding (EncodesCompact k) old mid) (e ∙ sym long) p) x.appends;
    }

-- the number of a reference as a pass writes it
abbrev pub written_number : List ℕ → Id → ℕ
written_number numbers symbol = get_or numbers symbol.id symbol.id

-- a pass writes the numbers that a dense list has
pub written_agrees : (numbers : List ℕ) → Agrees numbers (written_number numbers)
written_agrees numbers r p e = get_or_from_slice_get numbers r.id p r.id e

kept_at :
    (entries : List PortableType) (numbers : List ℕ) (k : ℕ) (is : List ℕ) (kept : List PortableType)
    → AreKeptEntries entries (renumbered numbers) k is kept
    → (i n : ℕ) → slice_get is i ≡ Some n
    → (old : PortableType) × (slice_get entries n ≡ Some old)
    × (slice_get kept i ≡ Some (kept_entry (renumbered numbers) (k + i) old))
kept_at entries numbers k [] kept a i n e = absurd (none-some n e)
kept_at entries numbers k (x ∷ is) [] a i n e = absurd a
kept_at entries numbers k (x ∷ is) (y ∷ ys) a zero n e =
    let same : x ≡ n = same_Some x n e in
    let first : k ≡ k + zero = omega arith in (
      a.0.entry,
      ap (λ j. slice_get entries j) (sym same) ∙ a.0.found,
      ap Some (a.0.is ∙ ap (λ j. kept_entry (renumbered numbers) j a.0.entry) first),
    )
kept_at entries numbers k (x ∷ is) (y ∷ ys) a (suc i) n e =
    let r = kept_at entries numbers (k + 1) is ys a.1 i n e in
    let later : k + 1 + i ≡ k + suc i = omega arith in
    (r.0, r.1, r.2 ∙ ap (λ j. Some (kept_entry (renumbered numbers) j r.0)) later)

-- entries that a pass keeps, with ids from 0 on, are kept with the numbers that it writes
pub kept_entries :
    (entries : List PortableType) (numbers indices : List ℕ) (kept : List PortableType)
    → AreKeptEntries entries (renumbered numbers) 0 indices kept
    → AreKept entries indices (written_number numbers) kept
kept_entries entries numbers indices kept a = (
  kept_long entries (renumbered numbers) 0 indices kept a,
  λ i n e.
      let r = kept_at entries numbers 0 indices kept a i n e in
      let first : 0 + i ≡ i = omega arith in
      (r.0, r.1, r.2 ∙ ap (λ j. Some (kept_entry (renumbered numbers) j r.0)) first),
)
