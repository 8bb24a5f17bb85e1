-- The index of a table's bytes has the references of the table.
use Rattle.std.proofs.Common.{◌≡◌, ℕ, zero, suc, ◌+◌, ◌-◌, List, [], ◌∷◌, ◌++◌, length, min, drop}
use Rattle.std.proofs.Common.{take, Some}
use Rattle.std.proofs.Common.{option_map, slice_get, slice_index_or, refl, ap, sym, ◌∙◌, subst}
use Rattle.std.proofs.Common.{arith, append_assoc}
use Rattle.std.proofs.Common.{length-append, append-nil, flat_map, inl, inr, None, Option, take_all}
use Rattle.std.proofs.Common.{Result, Ok, Err, OnOk}
use Rattle.std.proofs.Math.ListN.{drop_of_length-le}
use Rattle.std.proofs.lemmas.Bool.{cases_lt}
use Rattle.std.proofs.Math.Seq.{drop-append_seam, take-append_seam}
use Rattle.std.proofs.lemmas.List.{length-drop}
use Rattle.std.proofs.lemmas.Option.{same_Some, none-some, slice_get_within}
use Rattle.scale_info_numberings.proofs.Places.{element_at}
use Rattle.scale_info_numberings.specs.Numberings.{IsNumbering, Walks}
use Rattle.scale_info_numberings.specs.Systems.{Entry, System, IsFirstOutside, here}
use Rattle.scale_info_numberings.specs.Systems.{after_known, after_node}
use Rattle.scale_info_passes.specs.Entries.{AreStarts, reference_ids}
use Rattle.scale_info_types.specs.Shapes.{Shape}
use Rattle.scale_info_types.specs.declared.ty.PortableType.{PortableType}
use Rattle.scale_info_walk.specs.TypeSystems.{entry_of, types_system}
use Rattle.scale_info_table_prune.specs.ByteIndexes.{index_system, references_from}

-- what stands past the end of a list is nothing, and a part is no longer than the whole
pub drop_min : {A : Type 0} (n : ℕ) (xs : List A) → drop (min n (length xs)) xs ≡ drop n xs
drop_min n xs =
    elim (cases_lt n (length xs)) [
      | inl h ↦ ap (λ k. drop k xs) (omega arith)
      | inr h ↦ drop_of_length-le xs (omega arith) ∙ sym (drop_of_length-le xs h)
    ]

-- cutting the number of elements to take to the length changes nothing
pub take_min : {A : Type 0} (n : ℕ) (xs : List A) → take (min n (length xs)) xs ≡ take n xs
take_min n xs =
    elim (cases_lt n (length xs)) [
      | inl h ↦ ap (λ k. take k xs) (omega arith)
      | inr h ↦ take_all (min n (length xs)) xs (omega arith) ∙ sym (take_all n xs h)
    ]

-- a part whose start and length are cut to what there is, is the part from start to stop
pub part_is :
    {A : Type 0} (refs : List A) (start stop first count : ℕ) → first ≡ min start (length refs)
    → count ≡ min (stop - start) (length (take (length refs - first) (drop first refs)))
    → take count (take (length refs - first) (drop first refs)) ≡ take (stop - start) (drop start refs)
part_is refs start stop first count p q =
    let long = length-drop first refs in
    let whole : take (length refs - first) (drop first refs) ≡ drop first refs =
    take_all (length refs - first) (drop first refs) (omega arith) in
    ap (λ k. take k (take (length refs - first) (drop first refs))) q
    ∙ (take_min (stop - start) (take (length refs - first) (drop first refs))
    ∙ ap (take (stop - start)) (whole ∙ (ap (λ k. drop k refs) p ∙ drop_min start refs)))

abbrev index_entry : List ℕ → List ℕ → ℕ → ℕ → Entry (Unit {0}) ℕ
index_entry starts references i start = record { shape = tt; refs = references_from starts references i start }

-- on success, the references of the id's entry in the index now precede the old list
pub prepended :
    {A E : Type 0} (starts references : List ℕ) (id start stop first count : ℕ) (old new : List ℕ)
    (r : Result A E)
    → slice_get starts id ≡ Some start → stop ≡ slice_index_or starts (id + 1) (length references)
    → first ≡ min start (length references)
    → count ≡ min (stop - start) (length (take (length references - first) (drop first references)))
    → OnOk r (new ≡ take count (take (length references - first) (drop first references)) ++ old)
    → OnOk r ((x : Entry (Unit {0}) ℕ) × (index_system starts references id ≡ Some x) × (new ≡ x.refs ++ old))
prepended starts references id start stop first count old new (Ok x) e z p q h = (
  index_entry starts references id start,
  ap (option_map (index_entry starts references id)) e,
  h ∙ ap (λ (rs : List ℕ). rs ++ old) (part_is references start stop first count p q
      ∙ ap (λ k. take (k - start) (drop start references)) z),
)
prepended starts references id start stop first count old new (Err x) e z p q h = tt

-- systems with the same references, where the first has an entry
abbrev pub HasReferencesOf : {Sh Sh' : Type 0} → System Sh ℕ → System Sh' ℕ → Type 0
HasReferencesOf {Sh} {Sh'} S T =
    (i : ℕ) (d : Entry Sh ℕ) → S i ≡ Some d → (e : Entry Sh' ℕ) × (T i ≡ Some e) × (d.refs ≡ e.refs)

module _ {Sh Sh' : Type 0} (S : System Sh ℕ) (T : System Sh' ℕ) (alike : HasReferencesOf S T) where
  -- a numbering of the first system is one of the second
  pub same_numbering : (R L : List ℕ) → IsNumbering S R L → IsNumbering T R L
  same_numbering R L x = (
    x.0,
    record {
      order = x.1.order;
      from_roots = x.1.from_roots;
      nodes = λ i n h.
          let d = x.1.nodes i n h in
          let e = alike n d.0 d.1 in
          (e.0, e.1, subst (λ (rs : List ℕ). Walks L (λ k. slice_index_or x.0 k 0) rs (i + 1) (slice_index_or x.0 i 0)) e.2 d.2);
    },
  )

  -- the first name outside the first system is that outside the second, if it lies outside it
  pub same_first :
      (known roots : List ℕ) (n : ℕ) → T n ≡ None → IsFirstOutside S known roots n
      → IsFirstOutside T known roots n
  same_first known roots n none (here k rs m fresh out) = here k rs m fresh none
  same_first known roots n none (after_known k rs m o c x) =
      after_known k rs m o c (same_first k rs o none x)
  same_first known roots n none (after_node k rs m o d fresh s x) =
      let e = alike m d s in
      after_node k rs m o e.0 fresh e.1
      (subst (λ (refs : List ℕ). IsFirstOutside T (k ++ m ∷ []) (refs ++ rs) o) e.2
      (same_first (k ++ m ∷ []) (d.refs ++ rs) o none x))

-- the references of the entry at index i, after those of what comes before
cut :
    (pre own more all : List ℕ) (start stop : ℕ)
    → all ≡ pre ++ (own ++ more) → start ≡ length pre → stop ≡ length pre + length own
    → take (stop - start) (drop start all) ≡ own
cut pre own more all start stop e s t =
    let n : stop - start ≡ length own = omega arith in
    rw (n, s, e) (ap (take (length own)) (drop-append_seam pre (own ++ more)) ∙ take-append_seam own more)

find :
    (pre : List ℕ) (es : List PortableType) (starts all : List ℕ) → AreStarts (length pre) es starts
    → all ≡ pre ++ flat_map reference_ids es
    → (i : ℕ) (e : PortableType) → slice_get es i ≡ Some e
    → (s : ℕ) × (slice_get starts i ≡ Some s)
    × (take (slice_index_or starts (i + 1) (length all) - s) (drop s all) ≡ reference_ids e)
find pre [] starts all a h i e g = absurd (none-some e g)
find pre (x ∷ es) [] all a h i e g = absurd a
find pre (x ∷ []) (s ∷ ss) all a h zero e g =
    let long : length all ≡ length pre + length (reference_ids x) =
    ap length h ∙ length-append pre (reference_ids x ++ [])
    ∙ ap (λ n. length pre + n) (ap length (append-nil (reference_ids x))) in
    let none : slice_index_or ss 0 (length all) ≡ length all = ap (λ (ts : List ℕ). slice_index_or ts 0 (length all)) a.1 in (
      s,
      refl,
      cut pre (reference_ids x) [] all s (slice_index_or ss 0 (length all)) h a.0 (none ∙ long)
          ∙ ap reference_ids (same_Some x e g),
    )
find pre (x ∷ y ∷ es) (s ∷ []) all a h zero e g = absurd a.1
find pre (x ∷ y ∷ es) (s ∷ t ∷ ss) all a h zero e g = (
  s,
  refl,
  cut pre (reference_ids x) (flat_map reference_ids (y ∷ es)) all s t h a.0 a.1.0
      ∙ ap reference_ids (same_Some x e g),
)
find pre (x ∷ es) (s ∷ ss) all a h (suc i) e g =
    let r = find (pre ++ reference_ids x) es ss all
    (subst (λ k. AreStarts k es ss) (sym (length-append pre (reference_ids x))) a.1)
    (h ∙ sym (append_assoc pre (reference_ids x) (flat_map reference_ids es))) i e g in
    let later : suc i + 1 ≡ suc (i + 1) = omega arith in
    (r.0, r.1, ap (λ k. take (slice_index_or (s ∷ ss) k (length all) - r.0) (drop r.0 all)) later ∙ r.2)

starts_long :
    (k : ℕ) (es : List PortableType) (starts : List ℕ) → AreStarts k es starts
    → length starts ≡ length es
starts_long k [] starts a = ap length a
starts_long k (x ∷ es) [] a = absurd a
starts_long k (x ∷ es) (s ∷ ss) a = ap suc (starts_long (k + length (reference_ids x)) es ss a.1)

-- there are as many starts as entries
pub index_long :
    (types : List PortableType) (starts : List ℕ) → AreStarts 0 types starts
    → length starts ≡ length types
index_long types starts a = starts_long 0 types starts a

-- the index has the references of the table
pub index_alike :
    (types : List PortableType) (starts references : List ℕ) → AreStarts 0 types starts
    → references ≡ flat_map reference_ids types
    → HasReferencesOf (index_system starts references) (types_system types)
index_alike types starts references a h i d s = by (slice_get starts i) refl
  where
    by : (o : Option ℕ) → slice_get starts i ≡ o → (e : Entry Shape ℕ) × (types_system types i ≡ Some e) × (d.refs ≡ e.refs)
    by None at = absurd (none-some d (sym (ap (option_map (index_entry starts references i)) at) ∙ s))
    by (Some t) at =
        let within = slice_get_within starts i t at in
        let long = index_long types starts a in
        let e = element_at types i (omega arith) in
        let r = find [] types starts references a h i e.0 e.1 in
        let same : r.0 ≡ t = same_Some r.0 t (sym r.1 ∙ at) in
        let is : d ≡ index_entry starts references i t = same_Some d (index_entry starts references i t) (sym s ∙ ap (option_map (index_entry starts references i)) at) in (
          entry_of e.0,
          ap (option_map entry_of) e.1,
          ap (λ (x : Entry (Unit {0}) ℕ). x.refs) is
              ∙ ap (λ k. references_from starts references i k) (sym same) ∙ r.2,
        )
