-- Entries by the offsets of their descriptions.
use Rattle.std.proofs.Common.{◌≡◌, ℕ, ◌+◌, ◌-◌, ◌<◌, ◌≤◌, List, [], ◌∷◌, ◌++◌, length, drop, take}
use Rattle.std.proofs.Common.{get_or, zero, suc, Some, refl, sym, ap, subst, ◌∙◌, arith}
use Rattle.std.proofs.Common.{append_assoc, length-append, length-take, length-drop}
use Rattle.std.specs.List.{AllZip, slice_get, flat_map}
use Rattle.std.proofs.lemmas.Grind.{flat_map-append}
use Rattle.std.proofs.lemmas.List.{take_more, take_at, append-nil}
use Rattle.scale_info_types.specs.KeptEntries.{kept_entry}
use Rattle.scale_info_types.specs.Portable.{Id}
use Rattle.scale_info_types.specs.References.{references}
use Rattle.scale_info_types.specs.Shapes.{map_description}
use Rattle.scale_info_passes.specs.Visits.{AppendsRenumbered, AppendsReferences}
use Rattle.std.proofs.Math.Seq.{drop-append_seam}
use Rattle.scale_info_types.specs.declared.ty.PortableType.{PortableType}
use Rattle.scale_info_type_ids.specs.declared.impls.Compact.{Compact}
use Rattle.scale_info_bytes.specs.Encodings.{HasPrefix, HasNoPrefix, IsEncoding, AppendsEncoding}
use Rattle.scale_info_bytes.specs.Integers.{EncodesCompact}
use Rattle.scale_info_bytes.specs.Parts.{EncodesItems}
use Rattle.scale_info_grammar.specs.Ty.{EncodesDescription, EncodesPortableType}
use Rattle.scale_info_grammar.specs.Ty.{portable_type_parts}
use Rattle.scale_info_grammar.specs.TyLaws.{portable_type_law, description_law}
use Rattle.scale_info_bytes.specs.CompactLaws.{compact_law}
use Rattle.scale_info_bytes.specs.PartLaws.{through_law}
use Rattle.scale_info_passes.specs.Pieces.{HasSomePrefix}
use Rattle.scale_info_bytes.specs.Parts.{HasNoItems}
use Rattle.scale_info_passes.specs.Entries.{IsAtOffset, HasEntries, IsKeptEntry}
use Rattle.scale_info_passes.specs.Entries.{AreKeptEntries, AppendsKeptEntry, AppendsKeptEntries}
use Rattle.scale_info_passes.specs.Entries.{reference_ids, AreStarts, IsEntryIndex}
use Rattle.scale_info_bytes.proofs.Steps.{prefix_item, prefix_pair, same_prefix, appends_pair}
use Rattle.scale_info_bytes.proofs.Steps.{appends_item, no_prefix_first, no_prefix_second}
use Rattle.scale_info_bytes.proofs.Steps.{no_prefix_through, no_next}

-- a compact integer by its encoding
abbrev pub EncodesInteger : Compact ℕ → List ℕ → Type 0
EncodesInteger n b = EncodesCompact n.0 b

integer_law : IsEncoding EncodesInteger
integer_law = through_law (λ v. v.0) (λ v w e i. record { 0 = e i }) compact_law

-- one more element on both sides
pub zip_on :
    {A B : Type 0} (R : A → B → Type 0) (xs : List A) (ys : List B) (x : A) (y : B)
    → AllZip R xs ys → R x y → AllZip R (xs ++ x ∷ []) (ys ++ y ∷ [])
zip_on R [] [] x y p r = (r, tt)
zip_on R [] (b ∷ ys) x y p r = absurd p
zip_on R (a ∷ xs) [] x y p r = absurd p
zip_on R (a ∷ xs) (b ∷ ys) x y p r = (p.0, zip_on R xs ys x y p.1 r)

-- from the offset that the lengths give on, the list is its rest
pub drop_to_rest : (a x b : List ℕ) → a ≡ x ++ b → drop (length a - length b) a ≡ b
drop_to_rest a x b e =
    let n : length a - length b ≡ length x = omega (arith, ap length e, length-append x b) in
    ap (λ m. drop m a) n ∙ ap (drop (length x)) e ∙ drop-append_seam x b

-- one more entry
abbrev pub one_entry :
    {n : ℕ} {a b d c offsets offsets' : List ℕ}
    → HasEntries n a b offsets → HasSomePrefix EncodesInteger b d
    → HasSomePrefix EncodesDescription d c → offsets' ≡ offsets ++ (length a - length d) ∷ []
    → HasEntries (n + 1) a c offsets'
one_entry {n} {a} {b} {d} {c} {offsets} p i v e =
    let entry : PortableType = record { id = i.value.0; ty = v.value } in
    let number : HasPrefix (EncodesItems EncodesPortableType p.entries) a b = p.prefix in
    let parts : a ≡ (p.prefix.encoding ++ i.prefix.encoding) ++ d =
    p.prefix.parts
    ∙ ap (λ t. p.prefix.encoding ++ t) i.prefix.parts
    ∙ sym (append_assoc p.prefix.encoding i.prefix.encoding d) in
    let at_offset : IsAtOffset a entry (length a - length d) =
    record {
      within = omega arith;
      rest = c;
      prefix =
          subst (λ t. HasPrefix (EncodesDescription v.value) t c)
          (sym (drop_to_rest a (p.prefix.encoding ++ i.prefix.encoding) d parts)) v.prefix;
    } in
    record {
      entries = p.entries ++ entry ∷ [];
      count = omega (arith, p.count, length-append p.entries (entry ∷ []));
      prefix =
          prefix_item EncodesPortableType _ _ _ _ _ _ refl p.prefix
          (prefix_pair {S = EncodesInteger} {R = EncodesDescription} {v = portable_type_parts entry} i.prefix v.prefix);
      at_offsets =
          subst (AllZip (IsAtOffset a) (p.entries ++ entry ∷ [])) (sym e)
          (zip_on (IsAtOffset a) p.entries offsets entry (length a - length d) p.at_offsets at_offset);
    }

-- no next entry: so many entries are not there
pub no_entry :
    (n m : ℕ) (a b offsets : List ℕ)
    → m < n → HasEntries m a b offsets → HasNoPrefix EncodesPortableType b
    → HasNoItems EncodesPortableType n a
no_entry n m a b offsets l p none = record { none = no_next EncodesPortableType portable_type_law p.entries a b n (omega (arith, p.count)) p.prefix none }

-- no number: no entry
pub no_number : {b : List ℕ} → HasNoPrefix EncodesInteger b → HasNoPrefix EncodesPortableType b
no_number n = no_prefix_through portable_type_parts (no_prefix_first {R = EncodesDescription} n)

-- a number and no description: no entry
pub no_description :
    {b d : List ℕ}
    → HasSomePrefix EncodesInteger b d → HasNoPrefix EncodesDescription d
    → HasNoPrefix EncodesPortableType b
no_description i n = no_prefix_through portable_type_parts (no_prefix_second integer_law i.prefix n)

-- ---- entries that are kept

-- the element of the first list at an index of the second
zip_at :
    {A : Type 0} (R : A → ℕ → Type 0) (xs : List A) (ys : List ℕ) (i : ℕ)
    → AllZip R xs ys → i < length ys → (x : A) × (slice_get xs i ≡ Some x) × R x (get_or ys i 0)
zip_at R [] [] i p l = absurd (omega arith)
zip_at R [] (y ∷ ys) i p l = absurd p
zip_at R (x ∷ xs) [] i p l = absurd p
zip_at R (x ∷ xs) (y ∷ ys) zero p l = (x, refl, p.0)
zip_at R (x ∷ xs) (y ∷ ys) (suc i) p l = zip_at R xs ys i p.1 (omega arith)

-- an entry was appended by its id and its description
pub appends_entry :
    (entries : List PortableType) (f : Id → Id) (k i : ℕ) (input offsets d rest a b c : List ℕ)
    → AllZip (IsAtOffset input) entries offsets → i < length offsets
    → d ≡ drop (get_or offsets i 0) input → AppendsEncoding (EncodesCompact k) a b
    → AppendsRenumbered EncodesDescription (λ g v. map_description g (λ s. s) v) f d rest b c
    → AppendsKeptEntry entries f k i a c
appends_entry entries f k i input offsets d rest a b c z l e p q =
    let at = zip_at (IsAtOffset input) entries offsets i z l in
    let there : HasPrefix (EncodesDescription at.0.ty) d at.2.rest =
    subst (λ t. HasPrefix (EncodesDescription at.0.ty) t at.2.rest) (sym e) at.2.prefix in
    let same : q.value ≡ at.0.ty =
    (same_prefix description_law q.value at.0.ty d rest at.2.rest q.prefix there).0 in
    let wrote : AppendsEncoding (EncodesDescription (map_description f (λ s. s) at.0.ty)) b c =
    subst
    (λ v. AppendsEncoding (EncodesDescription (map_description f (λ s. s) v)) b c) same q.appends in
    record {
      kept = kept_entry f k at.0;
      is_kept = record { entry = at.0; found = at.1; is = refl };
      appends =
          appends_pair {S = EncodesInteger} {R = EncodesDescription}
          {v = portable_type_parts (kept_entry f k at.0)} p wrote;
    }

-- one more entry is kept
kept_on :
    (entries : List PortableType) (f : Id → Id) (k n : ℕ) (is : List ℕ) (es : List PortableType)
    (i : ℕ) (e : PortableType)
    → AreKeptEntries entries f k is es → n ≡ k + length is → IsKeptEntry entries f n i e
    → AreKeptEntries entries f k (is ++ i ∷ []) (es ++ e ∷ [])
kept_on entries f k n [] [] i e p h q =
    (subst (λ m. IsKeptEntry entries f m i e) (omega (arith, h)) q, refl)
kept_on entries f k n [] (x ∷ es) i e p h q = absurd cc
kept_on entries f k n (j ∷ is) [] i e p h q = absurd p
kept_on entries f k n (j ∷ is) (x ∷ es) i e p h q =
    (p.0, kept_on entries f (k + 1) n is es i e p.1 (omega (arith, h)) q)

-- one more entry was appended
pub appends_one_more :
    (entries : List PortableType) (f : Id → Id) (ids : List ℕ) (j : ℕ) (a b c : List ℕ)
    → j < length ids → AppendsKeptEntries entries f (take j ids) a b
    → AppendsKeptEntry entries f j (get_or ids j 0) b c
    → AppendsKeptEntries entries f (take (j + 1) ids) a c
appends_one_more entries f ids j a b c l p q =
    let more : take (j + 1) ids ≡ take j ids ++ get_or ids j 0 ∷ [] = take_more ids j 0 l in
    record {
      kept = p.kept ++ q.kept ∷ [];
      are_kept =
          subst (λ t. AreKeptEntries entries f 0 t (p.kept ++ q.kept ∷ [])) (sym more)
          (kept_on entries f 0 j (take j ids) p.kept (get_or ids j 0) q.kept p.are_kept (omega (arith, length-take j ids)) q.is_kept);
      appends =
          appends_item EncodesPortableType p.kept
          (p.kept ++ q.kept ∷ []) q.kept a b c refl p.appends q.appends;
    }

-- a slice from an offset to the end is the list without what is before the offset
pub rest_at :
    (input d : List ℕ) (offset : ℕ)
    → d ≡ take (length input - offset) (drop offset input) → d ≡ drop offset input
rest_at input d offset e =
    e
    ∙ ap (take (length input - offset)) (sym (append-nil (drop offset input)))
    ∙ take_at (drop offset input) [] (length input - offset) (length-drop offset input)

-- the offset of an entry lies within the input
pub offset_within :
    (entries : List PortableType) (i : ℕ) (input offsets : List ℕ)
    → AllZip (IsAtOffset input) entries offsets → i < length offsets
    → get_or offsets i 0 ≤ length input
offset_within entries i input offsets z l =
    (zip_at (IsAtOffset input) entries offsets i z l).2.within

-- from its offset the input begins with the entry's description
pub description_at_offset :
    (entries : List PortableType) (i : ℕ) (input offsets d : List ℕ)
    → AllZip (IsAtOffset input) entries offsets → i < length offsets
    → d ≡ drop (get_or offsets i 0) input
    → (rest : List ℕ) × HasSomePrefix EncodesDescription d rest
description_at_offset entries i input offsets d z l e =
    let at = zip_at (IsAtOffset input) entries offsets i z l in
    (at.2.rest, record { value = at.0.ty; prefix = subst (λ t. HasPrefix (EncodesDescription at.0.ty) t at.2.rest) (sym e) at.2.prefix })

-- ---- the references of all entries

-- one more start
starts_on :
    (k n : ℕ) (es : List PortableType) (ss : List ℕ) (e : PortableType)
    → AreStarts k es ss → n ≡ k + length (flat_map reference_ids es)
    → AreStarts k (es ++ e ∷ []) (ss ++ n ∷ [])
starts_on k n [] [] e p h = (omega (arith, h), refl)
starts_on k n [] (s ∷ ss) e p h = absurd cc
starts_on k n (x ∷ es) [] e p h = absurd p
starts_on k n (x ∷ es) (s ∷ ss) e p h =
    (p.0, starts_on (k + length (reference_ids x)) n es ss e p.1 (omega (arith, h, length-append (reference_ids x) (flat_map reference_ids es))))

-- one more entry was indexed
pub one_indexed :
    {n : ℕ} {a b d c offsets offsets' starts starts' ids ids' : List ℕ}
    → IsEntryIndex n a b offsets starts ids → HasSomePrefix EncodesInteger b d
    → AppendsReferences EncodesDescription references d c ids ids'
    → offsets' ≡ offsets ++ (length a - length d) ∷ [] → starts' ≡ starts ++ length ids ∷ []
    → IsEntryIndex (n + 1) a c offsets' starts' ids'
one_indexed {starts = starts} {ids = ids} p i q e h =
    let entry : PortableType = record { id = i.value.0; ty = q.value } in
    record {
      at = one_entry p.at i (record { value = q.value; prefix = q.prefix }) e;
      are_starts =
          subst (AreStarts 0 (p.at.entries ++ entry ∷ [])) (sym h)
          (starts_on 0 (length ids) p.at.entries starts entry p.are_starts (omega (arith, ap length p.references)));
      references =
          q.appends
          ∙ ap (λ t. t ++ reference_ids entry) p.references
          ∙ ap (λ t. flat_map reference_ids p.at.entries ++ t) (sym (append-nil (reference_ids entry)))
          ∙ sym (flat_map-append reference_ids p.at.entries (entry ∷ []));
    }

-- the index of no entries
pub no_index : (a p s r : List ℕ) → p ≡ [] → s ≡ [] → r ≡ [] → IsEntryIndex 0 a a p s r
no_index a p s r e f h = record {
  at = record { entries = []; count = refl; prefix = record { encoding = []; encodes = refl; parts = refl }; at_offsets = subst (AllZip (IsAtOffset a) []) (sym e) tt };
  are_starts = f;
  references = h;
}
