-- The first value of the tokens.
use Rattle.std.proofs.Common.{◌≡◌, ℕ, zero, suc, ◌<◌, ◌≤◌, ◌-◌, List, [], ◌∷◌, ◌++◌, length, Option, Some, None}
use Rattle.std.proofs.Common.{refl, sym, ap, ◌∙◌, subst, arith, option_map}
use Rattle.json.specs.Token.{Token}
use Rattle.json.specs.Json as json
use Rattle.json.specs.Json.{parse_map, after_end_array, read_key, items, members, value}
use Rattle.json.proofs.Grammar.{left, value_is, value-begin_array, value-begin_object}
use Rattle.json.proofs.Grammar.{skip_value-shorter, read_key-shorter}
use Rattle.serde_json.specs.Data.{Data, Num, null, boolean, number, string, array, object}
use Rattle.serde_json.specs.Data.{Items, no_items, item, Members, no_members, put}
use Rattle.serde_json.specs.Read.{of_json, of_items, of_members, converted, number_of}
use Rattle.serde_json.specs.View.{items_of}
use Rattle.scale_info_json_text.proofs.Converted.{held, converted_some, converted-array, converted-object}
use Rattle.scale_info_json_text.proofs.Converted.{item_read, item_refused, items_over}
use Rattle.scale_info_json_text.proofs.Converted.{member_read, member_refused, key_refused, members_over}
use Rattle.scale_info_json_text.specs.Readings.{Reads, HasNoTree, ReadsItems, HasNoItems}
use Rattle.scale_info_json_text.specs.Readings.{members_put, ReadsMembers, HasNoMembers}

-- ---- one value

-- what is said of a value that is read may be weakened
pub reads_weaker :
    {P Q : Data → Type 0} {depth : ℕ} {ts r : List Token} → ((tree : Data) → P tree → Q tree)
    → Reads P depth ts r → Reads Q depth ts r
reads_weaker f h = record { tree = h.tree; begins = h.begins; is = f h.tree h.is }

-- what is said of a value that is read from equal tokens may be weakened
pub reads_from :
    {P Q : Data → Type 0} {depth : ℕ} {ts us r : List Token} → ts ≡ us
    → ((tree : Data) → P tree → Q tree) → Reads P depth ts r → Reads Q depth us r
reads_from {P = P} {depth = depth} {r = r} e f h =
    reads_weaker f (subst (λ x. Reads P depth x r) e h)

-- a value takes at least one token
pub reads_shorter :
    {P : Data → Type 0} (depth : ℕ) (ts r : List Token) → Reads P depth ts r → length r < length ts
reads_shorter depth ts r h =
    let j = converted_some of_json (value depth ts) h.tree r h.begins in
    skip_value-shorter depth ts r (ap left j.1)

-- a number that is looked at is a number
pub some_number :
    {A : Type 0} (f : Num → A) (o : Option Num) (a : A) → option_map f o ≡ Some a
    → (n : Num) × (o ≡ Some n)
some_number f None a e = absurd cc
some_number f (Some n) a e = (n, refl)

-- what a token that is a value by itself gives
abbrev pub alone : Token → Option Data
alone Token.begin_object = None
alone Token.end_object = None
alone Token.begin_array = None
alone Token.end_array = None
alone (Token.key s) = None
alone (Token.string s) = Some (string s)
alone (Token.number s) = option_map number (number_of s)
alone (Token.boolean b) = Some (boolean b)
alone Token.null = Some null
alone Token.bad = None

-- the token is a value by itself
pub alone_reads :
    (P : Data → Type 0) (depth : ℕ) (t : Token) (tree : Data) (ts : List Token)
    → alone t ≡ Some tree → P tree → Reads P depth (t ∷ ts) ts
alone_reads P depth Token.begin_object tree ts e p = absurd cc
alone_reads P depth Token.end_object tree ts e p = absurd cc
alone_reads P depth Token.begin_array tree ts e p = absurd cc
alone_reads P depth Token.end_array tree ts e p = absurd cc
alone_reads P depth (Token.key s) tree ts e p = absurd cc
alone_reads P depth (Token.string s) tree ts e p = record {
  tree = tree;
  begins = ap (converted of_json) (value_is depth (Token.string s ∷ ts)) ∙ ap (option_map (λ d. (d, ts))) e;
  is = p;
}
alone_reads P depth (Token.number s) tree ts e p = record {
  tree = tree;
  begins = ap (converted of_json) (value_is depth (Token.number s ∷ ts)) ∙ ap (option_map (λ d. (d, ts))) e;
  is = p;
}
alone_reads P depth (Token.boolean b) tree ts e p = record {
  tree = tree;
  begins = ap (converted of_json) (value_is depth (Token.boolean b ∷ ts)) ∙ ap (option_map (λ d. (d, ts))) e;
  is = p;
}
alone_reads P depth Token.null tree ts e p = record {
  tree = tree;
  begins = ap (converted of_json) (value_is depth (Token.null ∷ ts)) ∙ ap (option_map (λ d. (d, ts))) e;
  is = p;
}
alone_reads P depth Token.bad tree ts e p = absurd cc

-- no value begins with the token
abbrev pub begins_none : Token → Type 0
begins_none Token.begin_object = ⊥
begins_none Token.end_object = Unit {0}
begins_none Token.begin_array = ⊥
begins_none Token.end_array = Unit {0}
begins_none (Token.key s) = Unit {0}
begins_none (Token.string s) = ⊥
begins_none (Token.number s) = number_of s ≡ None
begins_none (Token.boolean b) = ⊥
begins_none Token.null = ⊥
begins_none Token.bad = Unit {0}

-- an array or an object begins with the token
abbrev pub Opens : Token → Type 0
Opens Token.begin_object = Unit {0}
Opens Token.end_object = ⊥
Opens Token.begin_array = Unit {0}
Opens Token.end_array = ⊥
Opens (Token.key s) = ⊥
Opens (Token.string s) = ⊥
Opens (Token.number s) = ⊥
Opens (Token.boolean b) = ⊥
Opens Token.null = ⊥
Opens Token.bad = ⊥

-- where no value begins with the first token, there is no tree
pub none_begins : (depth : ℕ) (t : Token) (ts : List Token) → begins_none t → HasNoTree depth (t ∷ ts)
none_begins depth Token.begin_object ts h = absurd h
none_begins depth Token.end_object ts h = ap (converted of_json) (value_is depth (Token.end_object ∷ ts))
none_begins depth Token.begin_array ts h = absurd h
none_begins depth Token.end_array ts h = ap (converted of_json) (value_is depth (Token.end_array ∷ ts))
none_begins depth (Token.key s) ts h = ap (converted of_json) (value_is depth (Token.key s ∷ ts))
none_begins depth (Token.string s) ts h = absurd h
none_begins depth (Token.number s) ts h =
    ap (converted of_json) (value_is depth (Token.number s ∷ ts)) ∙ rw h
none_begins depth (Token.boolean b) ts h = absurd h
none_begins depth Token.null ts h = absurd h
none_begins depth Token.bad ts h = ap (converted of_json) (value_is depth (Token.bad ∷ ts))

-- where there are no tokens, there is no tree
pub none_in_nothing : (depth : ℕ) → HasNoTree depth []
none_in_nothing depth = ap (converted of_json) (value_is depth [])

-- the token may begin the tree
abbrev pub Fits : Token → Data → Type 0
Fits Token.begin_object d = (ms : Members) × (d ≡ object ms)
Fits Token.end_object d = ⊥
Fits Token.begin_array d = (ds : Items) × (d ≡ array ds)
Fits Token.end_array d = ⊥
Fits (Token.key s) d = ⊥
Fits (Token.string s) d = d ≡ string s
Fits (Token.number s) d = option_map number (number_of s) ≡ Some d
Fits (Token.boolean b) d = d ≡ boolean b
Fits Token.null d = d ≡ null
Fits Token.bad d = ⊥

-- two options of a pair that are equal have equal first parts
pub same_first :
    {A : Type 0} (x y : A) (s r : List Token)
    → ◌≡◌ {A = Option (A × List Token)} (Some (x, s)) (Some (y, r)) → y ≡ x
same_first x y s r e = sym (ap (λ p. p.0) (ap (held (x, s)) e))

-- what was wrapped is a wrapped value
mapped :
    {A : Type 0} (f : A → Data) (o : Option (A × List Token)) (d : Data) (r : List Token)
    → parse_map f o ≡ Some (d, r) → (x : A) × (d ≡ f x)
mapped f None d r e = absurd cc
mapped f (Some p) d r e = (p.0, same_first (f p.0) d p.1 r e)

-- the text of a number gives the number
number_first :
    (s : List ℕ) (ts r : List Token) (d : Data)
    → converted of_json (Some (json.number s, ts)) ≡ Some (d, r)
    → option_map number (number_of s) ≡ Some d
number_first s ts r d h =
    let j = converted_some of_json (Some (json.number s, ts)) d r h in
    let same : j.0 ≡ json.number s = same_first (json.number s) j.0 ts r j.1 in
    subst (λ a. of_json a ≡ Some d) same j.2

-- nothing nests at depth 0
pub no_depth : (depth : ℕ) (t : Token) (ts : List Token) → depth ≡ 0 → Opens t → HasNoTree depth (t ∷ ts)
unfolding value
no_depth depth Token.begin_object ts e h = ap (λ n. converted of_json (value n (Token.begin_object ∷ ts))) e
no_depth depth Token.end_object ts e h = absurd h
no_depth depth Token.begin_array ts e h = ap (λ n. converted of_json (value n (Token.begin_array ∷ ts))) e
no_depth depth Token.end_array ts e h = absurd h
no_depth depth (Token.key s) ts e h = absurd h
no_depth depth (Token.string s) ts e h = absurd h
no_depth depth (Token.number s) ts e h = absurd h
no_depth depth (Token.boolean b) ts e h = absurd h
no_depth depth Token.null ts e h = absurd h
no_depth depth Token.bad ts e h = absurd h

-- an array is read as its items are
array_is :
    (depth : ℕ) (ts : List Token) → 0 < depth
    → converted of_json (value depth (Token.begin_array ∷ ts))
    ≡ parse_map array (converted of_items (items (value (depth - 1)) (length ts) ts))
array_is depth ts some =
    ap (converted of_json) (value-begin_array depth ts some) ∙ converted-array (items (value (depth - 1)) (length ts) ts)

-- an object is read as its members are
object_is :
    (depth : ℕ) (ts : List Token) → 0 < depth
    → converted of_json (value depth (Token.begin_object ∷ ts)) ≡ parse_map object (members_put (depth - 1) ts)
object_is depth ts some =
    ap (converted of_json) (value-begin_object depth ts some) ∙ converted-object (members (value (depth - 1)) (length ts) ts)

-- a tree that begins with a bracket or a brace is made of what comes after
made_first :
    {A : Type 0} (make : A → Data) (o : Option (A × List Token)) (depth : ℕ) (t : Token) (ts r : List Token)
    (d : Data) → Opens t → (0 < depth → converted of_json (value depth (t ∷ ts)) ≡ parse_map make o)
    → converted of_json (value depth (t ∷ ts)) ≡ Some (d, r) → (a : A) × (d ≡ make a)
made_first make o zero t ts r d opens is h = let e = sym (no_depth zero t ts refl opens) ∙ h in absurd cc
made_first make o (suc n) t ts r d opens is h = mapped make o d r (sym (is (omega arith)) ∙ h)

-- the first token fits the tree
pub first_fits :
    (depth : ℕ) (t : Token) (ts r : List Token) (d : Data)
    → converted of_json (value depth (t ∷ ts)) ≡ Some (d, r) → Fits t d
first_fits depth Token.begin_object ts r d h =
    made_first object (members_put (depth - 1) ts) depth Token.begin_object ts r d tt (object_is depth ts) h
first_fits depth Token.end_object ts r d h =
    let e = sym (ap (converted of_json) (value_is depth (Token.end_object ∷ ts))) ∙ h in cc
first_fits depth Token.begin_array ts r d h =
    made_first array (converted of_items (items (value (depth - 1)) (length ts) ts)) depth Token.begin_array ts r d tt (array_is depth ts) h
first_fits depth Token.end_array ts r d h =
    let e = sym (ap (converted of_json) (value_is depth (Token.end_array ∷ ts))) ∙ h in cc
first_fits depth (Token.key s) ts r d h =
    let e = sym (ap (converted of_json) (value_is depth (Token.key s ∷ ts))) ∙ h in cc
first_fits depth (Token.string s) ts r d h =
    same_first (string s) d ts r (sym (ap (converted of_json) (value_is depth (Token.string s ∷ ts))) ∙ h)
first_fits depth (Token.number s) ts r d h =
    number_first s ts r d (sym (ap (converted of_json) (value_is depth (Token.number s ∷ ts))) ∙ h)
first_fits depth (Token.boolean b) ts r d h =
    same_first (boolean b) d ts r (sym (ap (converted of_json) (value_is depth (Token.boolean b ∷ ts))) ∙ h)
first_fits depth Token.null ts r d h =
    same_first null d ts r (sym (ap (converted of_json) (value_is depth (Token.null ∷ ts))) ∙ h)
first_fits depth Token.bad ts r d h =
    let e = sym (ap (converted of_json) (value_is depth (Token.bad ∷ ts))) ∙ h in cc

-- ---- arrays

-- an array of trees that is read is a value
pub array_reads :
    {P : List Data → Type 0} {Q : Data → Type 0} (depth : ℕ) (ts r : List Token) → 0 < depth
    → ((ds : List Data) → P ds → Q (array (items_of ds))) → ReadsItems P (depth - 1) ts r
    → Reads Q depth (Token.begin_array ∷ ts) r
array_reads depth ts r some f h =
    let begins = array_is depth ts some ∙ ap (parse_map array) h.begins in
    record { tree = array (items_of h.trees); begins = begins; is = f h.trees h.is }

-- where the items of an array are none, it is no value
pub no_array : (depth : ℕ) (ts : List Token) → 0 < depth → HasNoItems (depth - 1) ts → HasNoTree depth (Token.begin_array ∷ ts)
no_array depth ts some h = array_is depth ts some ∙ ap (parse_map array) h

-- the trees before others
abbrev pub before : List Data → Items → Items
before [] rest = rest
before (d ∷ ds) rest = item d (before ds rest)

-- one more tree after the trees before
before_last :
    (ds : List Data) (d : Data) (rest : Items) → before ds (item d rest) ≡ before (ds ++ d ∷ []) rest
before_last [] d rest = refl
before_last (e ∷ ds) d rest = ap (item e) (before_last ds d rest)

-- trees before none are the list
before_nothing : (ds : List Data) → before ds no_items ≡ items_of ds
before_nothing [] = refl
before_nothing (d ∷ ds) = ap (item d) (before_nothing ds)

-- one more tree after the trees before, where the rest is read
one_more :
    (ds : List Data) (d : Data) (o : Option (Items × List Token))
    → parse_map (before ds) (parse_map (item d) o) ≡ parse_map (before (ds ++ d ∷ [])) o
one_more ds d None = refl
one_more ds d (Some p) = ap (λ x. Some (x, p.1)) (before_last ds d p.0)

-- no trees before change nothing
none_before : (o : Option (Items × List Token)) → o ≡ parse_map (before []) o
none_before None = refl
none_before (Some p) = refl

-- the trees that were read, of which P is so, and those that the tokens now have are those of all
pub record ItemsTurn (P : List Data → Type 0) (depth : ℕ) (all now : List Token) : Type 0 where
  pub trees : List Data
  pub turns : ℕ
  pub enough : length now ≤ turns
  pub same :
      converted of_items (items (value depth) (length all) all)
      ≡ parse_map (before trees) (converted of_items (items (value depth) turns now))
  pub shorter : length now ≤ length all
  pub is : P trees

-- before the first turn no tree was read
pub items_start : (P : List Data → Type 0) (depth : ℕ) (ts : List Token) → P [] → ItemsTurn P depth ts ts
items_start P depth ts p = record {
  trees = [];
  turns = length ts;
  enough = omega arith;
  same = none_before _;
  shorter = omega arith;
  is = p;
}

-- a turn reads one tree
pub items_next :
    {P Q : List Data → Type 0} {R : Data → Type 0} (depth : ℕ) (all now r : List Token)
    → ItemsTurn P depth all now → after_end_array now ≡ None → Reads R depth now r
    → ((ds : List Data) (d : Data) → P ds → R d → Q (ds ++ d ∷ [])) → ItemsTurn Q depth all r
items_next depth all now r l going h f =
    let less = reads_shorter depth now r h in
    record {
      trees = l.trees ++ h.tree ∷ [];
      turns = l.turns - 1;
      enough = omega (arith, l.enough, less);
      same =
          l.same ∙ ap (parse_map (before l.trees)) (item_read (value depth) l.turns now r h.tree (omega (arith, l.enough, less)) going h.begins)
          ∙ one_more l.trees h.tree _;
      shorter = omega (arith, l.shorter, less);
      is = f l.trees h.tree l.is h.is;
    }

-- where a turn finds no tree, the items are none
pub items_stop :
    {P : List Data → Type 0} (depth : ℕ) (all now : List Token)
    → ItemsTurn P depth all now → after_end_array now ≡ None → HasNoTree depth now → HasNoItems depth all
items_stop depth all now l going h =
    l.same ∙ ap (parse_map (before l.trees)) (item_refused (value depth) l.turns now going h)

-- at the bracket all trees were read
pub items_done :
    {P : List Data → Type 0} (depth : ℕ) (all now r : List Token)
    → ItemsTurn P depth all now → after_end_array now ≡ Some r → ReadsItems P depth all r
items_done depth all now r l over = record {
  trees = l.trees;
  begins =
      l.same ∙ ap (parse_map (before l.trees)) (items_over (value depth) l.turns now r l.enough over)
      ∙ ap (λ x. Some (x, r)) (before_nothing l.trees);
  is = l.is;
}

-- ---- objects

-- an object whose members are read is a value
pub object_reads :
    {P : Members → Type 0} {Q : Data → Type 0} (depth : ℕ) (ts r : List Token) → 0 < depth
    → ((ms : Members) → P ms → Q (object ms)) → ReadsMembers P (depth - 1) ts r
    → Reads Q depth (Token.begin_object ∷ ts) r
object_reads depth ts r some f h =
    let begins = object_is depth ts some ∙ ap (parse_map object) h.begins in
    record { tree = object h.found; begins = begins; is = f h.found h.is }

-- where the members of an object are none, it is no value
pub no_object : (depth : ℕ) (ts : List Token) → 0 < depth → HasNoMembers (depth - 1) ts → HasNoTree depth (Token.begin_object ∷ ts)
no_object depth ts some h = object_is depth ts some ∙ ap (parse_map object) h

-- the map so far, of which P is so, with the members that the tokens now have put in is that of all
pub record MembersTurn (P : Members → Type 0) (depth : ℕ) (all now : List Token) : Type 0 where
  pub found : Members
  pub turns : ℕ
  pub enough : length now ≤ turns
  pub same :
      members_put depth all
      ≡ converted (λ ms. of_members ms found) (members (value depth) turns now)
  pub shorter : length now ≤ length all
  pub is : P found

-- before the first turn the map is empty
pub members_start :
    (P : Members → Type 0) (depth : ℕ) (ts : List Token) → P no_members → MembersTurn P depth ts ts
members_start P depth ts p = record {
  found = no_members;
  turns = length ts;
  enough = omega arith;
  same = refl;
  shorter = omega arith;
  is = p;
}

-- a turn reads one member
pub members_next :
    {P Q : Members → Type 0} {R : Data → Type 0} (depth : ℕ) (all now s r : List Token) (k : List ℕ)
    → MembersTurn P depth all now → read_key now ≡ Some (Some k, s) → Reads R depth s r
    → ((ms : Members) (d : Data) → P ms → R d → Q (put k d ms)) → MembersTurn Q depth all r
members_next depth all now s r k l key h f =
    let less = reads_shorter depth s r h in
    let lesser = read_key-shorter now (Some k) s key in
    record {
      found = put k h.tree l.found;
      turns = l.turns - 1;
      enough = omega (arith, l.enough, less, lesser);
      same =
          l.same ∙ member_read (value depth) l.found l.turns k now s r h.tree (omega (arith, l.enough, less, lesser)) key h.begins;
      shorter = omega (arith, l.shorter, less, lesser);
      is = f l.found h.tree l.is h.is;
    }

-- where a turn finds no key, the members are none
pub members_no_key :
    {P : Members → Type 0} (depth : ℕ) (all now : List Token)
    → MembersTurn P depth all now → read_key now ≡ None → HasNoMembers depth all
members_no_key depth all now l none = l.same ∙ key_refused (value depth) l.found l.turns now none

-- where a turn finds no tree, the members are none
pub members_stop :
    {P : Members → Type 0} (depth : ℕ) (all now s : List Token) (k : List ℕ)
    → MembersTurn P depth all now → read_key now ≡ Some (Some k, s) → HasNoTree depth s
    → HasNoMembers depth all
members_stop depth all now s k l key h =
    l.same ∙ member_refused (value depth) l.found l.turns k now s key h

-- at the brace the map has all members
pub members_done :
    {P : Members → Type 0} (depth : ℕ) (all now r : List Token)
    → MembersTurn P depth all now → read_key now ≡ Some (None, r) → ReadsMembers P depth all r
members_done depth all now r l over = record {
  found = l.found;
  begins = l.same ∙ members_over (value depth) l.found l.turns now r l.enough over;
  is = l.is;
}
