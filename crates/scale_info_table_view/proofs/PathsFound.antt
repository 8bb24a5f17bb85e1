-- Strings that are read one after another and compared, and paths that are found by them.
use Rattle.std.proofs.Common.{◌≡◌, ◌≢◌, ◌↔◌, ◌<◌, ◌≤◌, ◌+◌, ℕ, List, [], ◌∷◌, ◌++◌, Some, take}
use Rattle.std.proofs.Common.{drop, drop-cons, get_or, length, refl, sym, ap, subst, ◌∙◌, add-one, arith}
use Rattle.std.proofs.Common.{Bool, IsTrue, true, false, not, eqb, below_more}
use Rattle.std.proofs.Math.Logic.{∥∥₁_elim}
use Rattle.std.proofs.lemmas.Bool.{false≢true}
use Rattle.std.proofs.lemmas.List.{get_or-map, length-map, take_all, take_more}
use Rattle.std.proofs.lemmas.Option.{same_Some}
use Rattle.std.specs.Borrow.{Bor}
use Rattle.std.specs.Coded.{Coded-set, coded_bool, coded_list, coded_ℕ, ×_prop, →_prop}
use Rattle.std.specs.Cmp.Lexicographic.{bytes_decides, pointwise}
use Rattle.std.specs.List.{slice_get}
use Rattle.scale_info_bytes.proofs.Steps.{prefix_map, same_prefix, split_prefix}
use Rattle.scale_info_bytes.specs.CompactLaws.{compact_law}
use Rattle.scale_info_bytes.specs.Encodings.{HasNoPrefix, HasPrefix}
use Rattle.scale_info_bytes.specs.Integers.{EncodesCompact}
use Rattle.scale_info_bytes.specs.Parts.{EncodesItems}
use Rattle.scale_info_bytes.specs.StringLaws.{text_law}
use Rattle.scale_info_bytes.specs.Strings.{EncodesText}
use Rattle.scale_info_grammar.specs.Ty.{EncodesDescription, EncodesPortableType}
use Rattle.scale_info_segments.specs.TypePaths.{texts}
use Rattle.scale_info_types.specs.Portable.{Description, Text}
use Rattle.scale_info_types.specs.declared.ty.PortableType.{PortableType}
use Rattle.scale_info_table_view.specs.Views.{BeginsWithEntry, HasPathAtNone, IsFirstWithPath}

-- what is not false is true
from_not : (b : Bool) → not b ≡ false → b ≡ true
from_not true is = refl
from_not false is = absurd (false≢true (sym is))

-- the first n texts are those of the path, and the bytes begin with the others
pub record AreReadSoFar (texts path : List Text) (n : ℕ) (bytes end : List ℕ) : Type 0 where
  pub same : take n texts ≡ take n path
  pub others : HasPrefix (EncodesItems EncodesText (drop n texts)) bytes end

-- the next of the other texts, and then those after it
next_text :
    (texts : List Text) (n : ℕ) (bytes end : List ℕ)
    → n < length texts → HasPrefix (EncodesItems EncodesText (drop n texts)) bytes end
    → (after : List ℕ) × HasPrefix (EncodesText (get_or texts n [])) bytes after
    × HasPrefix (EncodesItems EncodesText (drop (n + 1) texts)) after end
next_text texts n bytes end inside others =
    let parts =
    split_prefix (subst (λ t. HasPrefix (EncodesItems EncodesText t) bytes end) (drop-cons texts n [] inside) others) in (
      parts.0,
      parts.1,
      subst (λ k. HasPrefix (EncodesItems EncodesText (drop k texts)) parts.0 end) (sym (add-one n)) parts.2,
    )

-- where a text is next, the bytes begin with one
pub no_text :
    (texts path : List Text) (n : ℕ) (bytes end : List ℕ)
    → length texts ≡ length path → n < length path → AreReadSoFar texts path n bytes end
    → HasNoPrefix EncodesText bytes → ⊥
no_text texts path n bytes end long inside read none =
    let next = next_text texts n bytes end (omega (arith, long)) read.others in
    none.none (get_or texts n []) next.0 next.1

-- one more text is that of the path
pub one_read :
    (texts path : List Text) (n : ℕ) (bytes after end : List ℕ) (text : Text)
    → length texts ≡ length path → n < length path → AreReadSoFar texts path n bytes end
    → HasPrefix (EncodesText text) bytes after → text ≡ get_or path n []
    → AreReadSoFar texts path (n + 1) after end
one_read texts path n bytes after end text long inside read begins is =
    let within : n < length texts = omega (arith, long) in
    let next = next_text texts n bytes end within read.others in
    let same =
    same_prefix text_law (get_or texts n []) text bytes next.0 after next.1 begins in
    record {
      same =
          take_more texts n [] within
          ∙ ap (λ first. first ++ get_or texts n [] ∷ []) read.same
          ∙ ap (λ t. take n path ++ t ∷ []) (same.0 ∙ is)
          ∙ sym (take_more path n [] inside);
      others =
          subst (λ b. HasPrefix (EncodesItems EncodesText (drop (n + 1) texts)) b end) same.1 next.2;
    }

-- where one text is not that of the path, the texts are not the path
pub other_text :
    (texts path : List Text) (n : ℕ) (bytes after end : List ℕ) (text : Text)
    → length texts ≡ length path → n < length path → AreReadSoFar texts path n bytes end
    → HasPrefix (EncodesText text) bytes after → text ≢ get_or path n [] → texts ≢ path
other_text texts path n bytes after end text long inside read begins differs same =
    let next = next_text texts n bytes end (omega (arith, long)) read.others in
    let is =
    same_prefix text_law (get_or texts n []) text bytes next.0 after next.1 begins in
    differs (sym is.0 ∙ ap (λ t. get_or t n []) same)

-- where all are read, the texts are the path
pub all_read :
    (texts path : List Text) (n : ℕ) (bytes end : List ℕ)
    → length texts ≡ length path → length path ≤ n → AreReadSoFar texts path n bytes end
    → texts ≡ path
all_read texts path n bytes end long past read =
    sym (take_all n texts (omega (arith, long))) ∙ read.same ∙ take_all n path past

-- a description after the count of its path's segments begins with them
pub path_parts :
    (count : ℕ) (description segments rest : List ℕ) (ty : Description)
    → HasPrefix (EncodesCompact count) description segments
    → HasPrefix (EncodesDescription ty) description rest
    → (length ty.path.segments ≡ count)
    × ((end : List ℕ) × HasPrefix (EncodesItems EncodesText ty.path.segments) segments end)
path_parts count description segments rest ty counted whole =
    let path = split_prefix (prefix_map (λ b e. e.both) whole) in
    let parts = split_prefix path.1 in
    let same =
    same_prefix compact_law (length ty.path.segments) count description parts.0 segments parts.1 counted in (
      same.0,
      (path.0, subst (λ b. HasPrefix (EncodesItems EncodesText ty.path.segments) b path.0) same.1 parts.2),
    )

-- a description begins with the count of its path's segments
pub no_segments :
    (description rest : List ℕ) (ty : Description)
    → HasNoPrefix EncodesCompact description → HasPrefix (EncodesDescription ty) description rest → ⊥
no_segments description rest ty none whole =
    let path = split_prefix (prefix_map (λ b e. e.both) whole) in
    let parts = split_prefix path.1 in
    none.none (length ty.path.segments) parts.0 parts.1

-- as many strings are read as are borrowed
pub as_long : (strings : List (Bor (List ℕ))) → length (texts strings) ≡ length strings
as_long strings = length-map strings (λ (text : Bor (List ℕ)). text.now)

-- the string that is borrowed at an index
pub borrowed_at :
    (strings : List (Bor (List ℕ))) (n : ℕ) (other : Bor (List ℕ)) → n < length strings
    → get_or (texts strings) n [] ≡ (get_or strings n other).now
borrowed_at strings n other inside =
    get_or-map (λ (text : Bor (List ℕ)). text.now) strings n other [] inside

-- a test that two strings differ, where it says no
pub found_same :
    (a b : List ℕ) (answer : Bool) → answer ≡ not (pointwise eqb a b) → answer ≡ false → a ≡ b
found_same a b answer says is =
    (bytes_decides a b).0 (from_not (pointwise eqb a b) (sym says ∙ is))

-- a test that two strings differ, where it says yes
pub found_other :
    (a b : List ℕ) (answer : Bool) → answer ≡ not (pointwise eqb a b) → answer ≡ true → a ≢ b
found_other a b answer says is same =
    absurd (false≢true (sym (ap not ((bytes_decides a b).1 same)) ∙ sym says ∙ is))

-- where an answer says whether what the bytes begin with has a path, it says so of the entry there
pub answer_of :
    (types : List PortableType) (index : ℕ) (bytes : List ℕ) (path : List Text) (answer : Bool)
    (there : BeginsWithEntry types index bytes)
    → ((entry : PortableType) (rest : List ℕ) → HasPrefix (EncodesPortableType entry) bytes rest
    → (IsTrue answer ↔ (entry.ty.path.segments ≡ path)))
    → (IsTrue answer ↔ (there.entry.ty.path.segments ≡ path))
answer_of types index bytes path answer there says =
    ∥∥₁_elim there.begins
    (×_prop (→_prop (Coded-set (coded_list (coded_list coded_ℕ)) _ _)) (→_prop (Coded-set coded_bool _ _)))
    (λ begins. says there.entry begins.0 begins.1)

-- where an entry has the path, and none before it, it is the first
pub first_found :
    (types : List PortableType) (index : ℕ) (bytes : List ℕ) (path : List Text) (answer : Bool)
    → BeginsWithEntry types index bytes
    → ((entry : PortableType) (rest : List ℕ) → HasPrefix (EncodesPortableType entry) bytes rest
    → (IsTrue answer ↔ (entry.ty.path.segments ≡ path)))
    → answer ≡ true → HasPathAtNone index types path → IsFirstWithPath types path index
first_found types index bytes path answer there says is before = record {
  entry = there.entry;
  found = there.found;
  has = (answer_of types index bytes path answer there says).0 is;
  before = before;
}

-- where an entry has not the path, and none before it, none up to it has
pub none_yet :
    (types : List PortableType) (index : ℕ) (bytes : List ℕ) (path : List Text) (answer : Bool)
    → BeginsWithEntry types index bytes
    → ((entry : PortableType) (rest : List ℕ) → HasPrefix (EncodesPortableType entry) bytes rest
    → (IsTrue answer ↔ (entry.ty.path.segments ≡ path)))
    → answer ≡ false → HasPathAtNone index types path → HasPathAtNone (index + 1) types path
none_yet types index bytes path answer there says is before k entry below at =
    below_more
    (λ j. (e : PortableType) → slice_get types j ≡ Some e → e.ty.path.segments ≢ path)
    index (λ j less e found. before j e less found)
    (λ e found has.
    let same = same_Some there.entry e (sym there.found ∙ found) in
    let yes = (answer_of types index bytes path answer there says).1 (subst (λ x. x.ty.path.segments ≡ path) (sym same) has) in
    absurd (false≢true (sym is ∙ yes)))
    k below entry at
