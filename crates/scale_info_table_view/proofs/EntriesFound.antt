-- ViewedEntries whose offsets are found one after another.
use Rattle.std.proofs.Common.{◌≡◌, ◌<◌, ℕ, ◌+◌, ◌-◌, List, [], ◌∷◌, ◌++◌, length}
use Rattle.std.proofs.Common.{refl, sym, ap, subst, ◌∙◌, arith, append_assoc, length-append}
use Rattle.std.proofs.Math.Seq.{drop-append_seam}
use Rattle.std.proofs.lemmas.List.{append-nil, drop-append-le}
use Rattle.std.specs.List.{AllZip}
use Rattle.scale_info_bytes.proofs.Lists.{no_items_after}
use Rattle.scale_info_bytes.proofs.Steps.{items_on, no_next, no_prefix_through}
use Rattle.scale_info_bytes.specs.Encodings.{HasNoPrefix, HasPrefix}
use Rattle.scale_info_bytes.specs.Integers.{EncodesCompact}
use Rattle.scale_info_bytes.specs.Parts.{EncodesItems}
use Rattle.scale_info_grammar.specs.Ty.{EncodesPortableType}
use Rattle.scale_info_grammar.specs.TyLaws.{portable_type_law}
use Rattle.scale_info_passes.specs.Pieces.{HasSomePrefix}
use Rattle.scale_info_table.specs.TableEncoding.{EncodesRegistry}
use Rattle.scale_info_types.specs.declared.ty.PortableType.{PortableType}
use Rattle.scale_info_table_view.specs.Views.{BeginsWithTable, IsEntryAt}

-- the input begins with a count and n entries, which begin at these offsets
pub record HasPassed (count n : ℕ) (input rest offsets : List ℕ) : Type 0 where
  pub entries : List PortableType
  pub long : length entries ≡ n
  pub first : List ℕ
  pub items : List ℕ
  pub encodes_first : EncodesCompact count first
  pub encodes_items : EncodesItems EncodesPortableType entries items
  pub at_offsets : AllZip (IsEntryAt (first ++ items)) entries offsets
  pub parts : input ≡ (first ++ items) ++ rest

-- after the count, no entry is passed
pub none_passed :
    (count : ℕ) (input rest offsets : List ℕ) → offsets ≡ []
    → HasPrefix (EncodesCompact count) input rest → HasPassed count 0 input rest offsets
none_passed count input rest offsets none p = record {
  entries = [];
  long = refl;
  first = p.encoding;
  items = [];
  encodes_first = p.encodes;
  encodes_items = refl;
  at_offsets = subst (AllZip (IsEntryAt (p.encoding ++ [])) []) (sym none) tt;
  parts = p.parts ∙ ap (λ t. t ++ rest) (sym (append-nil p.encoding));
}

-- an entry begins where it began when more bytes follow
entry_stays :
    (bytes more : List ℕ) (entry : PortableType) (offset : ℕ) → IsEntryAt bytes entry offset
    → IsEntryAt (bytes ++ more) entry offset
entry_stays bytes more entry offset at = record {
  within = omega (arith, at.within, length-append bytes more);
  rest = at.rest ++ more;
  prefix = record {
    encoding = at.prefix.encoding;
    encodes = at.prefix.encodes;
    parts =
        drop-append-le offset bytes more at.within
        ∙ ap (λ t. t ++ more) at.prefix.parts
        ∙ append_assoc at.prefix.encoding at.rest more;
  };
}

-- entries begin where they began when more bytes follow, and one more begins at its offset
entries_on :
    (bytes more : List ℕ) (entries : List PortableType) (offsets : List ℕ) (entry : PortableType)
    (offset : ℕ)
    → AllZip (IsEntryAt bytes) entries offsets → IsEntryAt (bytes ++ more) entry offset
    → AllZip (IsEntryAt (bytes ++ more)) (entries ++ entry ∷ []) (offsets ++ offset ∷ [])
entries_on bytes more [] [] entry offset at last = (last, tt)
entries_on bytes more [] (o ∷ offsets) entry offset at last = absurd at
entries_on bytes more (e ∷ entries) [] entry offset at last = absurd at
entries_on bytes more (e ∷ entries) (o ∷ offsets) entry offset at last =
    (entry_stays bytes more e o at.0, entries_on bytes more entries offsets entry offset at.1 last)

-- an entry that follows the bytes begins where they end
entry_after :
    (bytes more : List ℕ) (entry : PortableType) → EncodesPortableType entry more
    → IsEntryAt (bytes ++ more) entry (length bytes)
entry_after bytes more entry encodes = record {
  within = omega (arith, length-append bytes more);
  rest = [];
  prefix = record {
    encoding = more;
    encodes = encodes;
    parts = drop-append_seam bytes more ∙ sym (append-nil more);
  };
}

-- one more entry is passed
pub one_passed :
    (count n : ℕ) (input rest after offsets offsets' : List ℕ)
    → HasPassed count n input rest offsets → HasSomePrefix EncodesPortableType rest after
    → offsets' ≡ offsets ++ (length input - length rest) ∷ []
    → HasPassed count (n + 1) input after offsets'
one_passed count n input rest after offsets offsets' p next is =
    let bytes = p.first ++ p.items in
    let more = next.prefix.encoding in
    let place : length input - length rest ≡ length bytes =
    omega (arith, ap length p.parts, length-append bytes rest) in
    let both =
    entries_on bytes more p.entries offsets next.value (length bytes) p.at_offsets
    (entry_after bytes more next.value next.prefix.encodes) in
    record {
      entries = p.entries ++ next.value ∷ [];
      long = omega (arith, p.long, length-append p.entries (next.value ∷ []));
      first = p.first;
      items = p.items ++ more;
      encodes_first = p.encodes_first;
      encodes_items =
          items_on EncodesPortableType p.entries next.value p.items more p.encodes_items next.prefix.encodes;
      at_offsets =
          subst (λ t. AllZip (IsEntryAt t) (p.entries ++ next.value ∷ []) offsets')
          (append_assoc p.first p.items more)
          (subst (AllZip (IsEntryAt (bytes ++ more)) (p.entries ++ next.value ∷ []))
          (ap (λ o. offsets ++ o ∷ []) (sym place) ∙ sym is) both);
      parts =
          p.parts
          ∙ ap (λ t. bytes ++ t) next.prefix.parts
          ∙ sym (append_assoc bytes more after)
          ∙ ap (λ t. t ++ after) (append_assoc p.first p.items more);
    }

-- where fewer entries are passed than the count says, and no entry is next, no table begins the
-- input
pub no_table :
    (count n : ℕ) (input rest offsets : List ℕ) → n < count
    → HasPassed count n input rest offsets → HasNoPrefix EncodesPortableType rest
    → HasNoPrefix EncodesRegistry input
no_table count n input rest offsets more p none =
    let counted : HasPrefix (EncodesCompact count) input (p.items ++ rest) =
    record {
      encoding = p.first;
      encodes = p.encodes_first;
      parts = p.parts ∙ append_assoc p.first p.items rest;
    } in
    let passed : HasPrefix (EncodesItems EncodesPortableType p.entries) (p.items ++ rest) rest =
    record { encoding = p.items; encodes = p.encodes_items; parts = refl } in
    no_prefix_through (λ v. v.types)
    (no_items_after EncodesPortableType count input (p.items ++ rest) counted
    (no_next EncodesPortableType portable_type_law p.entries (p.items ++ rest) rest count
    (omega (arith, p.long)) passed none))

-- where as many entries are passed as the count says, the input begins with a table
pub all_passed :
    (count n : ℕ) (input rest offsets : List ℕ) → n ≡ count
    → HasPassed count n input rest offsets → BeginsWithTable input rest offsets
all_passed count n input rest offsets same p = record {
  table = record { types = p.entries };
  bytes = p.first ++ p.items;
  entries = record {
    encodes = record {
      first = p.first;
      second = p.items;
      encodes_first =
          subst (λ k. EncodesCompact k p.first) (sym (p.long ∙ same)) p.encodes_first;
      encodes_second = p.encodes_items;
      parts = refl;
    };
    at_offsets = p.at_offsets;
  };
  parts = p.parts;
}
