-- Tokens of JSON that reads as trees from which values are taken.
use Rattle.std.proofs.Common.{◌≡◌, ℕ, suc, ◌+◌, Bool, true, false, ◌||◌, List, [], ◌∷◌, ◌++◌, length, map, Option, Some, None, option_map}
use Rattle.std.proofs.Common.{Ordering, Less, Equal, Greater, refl, ap, sym, ◌∙◌, append_assoc, arith}
use Rattle.std.proofs.lemmas.Slice.Eq.{bytes_eq-Decides}
use Rattle.std.specs.Ordering.{nat_cmp, match_ordering}
use Rattle.std.specs.Cmp.Lexicographic.{slice_cmp}
use Rattle.std.specs.Prelude.{option_and_then}
use Rattle.std.specs.Str.{bytes_eq}
use Rattle.json.specs.Token.{Token, begin_array, end_array, begin_object, end_object, key}
use Rattle.json.specs.Json as json
use Rattle.json.specs.Json.{Json}
use Rattle.json.specs.Tree.{json_tokens, items_tokens, members_tokens, HasNumbers, ItemsHaveNumbers, MembersHaveNumbers}
use Rattle.serde_json.specs.Data.{Data, array, object, Items, no_items, item, Members, no_members, member, put}
use Rattle.serde_json.specs.Events.{members_len}
use Rattle.serde_json.specs.Find.{get_member}
use Rattle.serde_json.specs.Read.{of_json, of_items, of_members}
use Rattle.serde_json.proofs.Views.{get_member-put, get_member-put_other}
use Rattle.scale_info_value_json.specs.Takers.{Taken, Taker, taken, taken_map, if_found, all_taken}
use Rattle.scale_info_value_json.specs.TreeParts.{listed, has_name, member_in}
use Rattle.scale_info_value_json.proofs.SoFar.{then_more}

-- the tokens are those of JSON that reads as a tree, from which the value is taken
pub record IsShown {A : Type 0} (ts : List Token) (take : Taker A) (value : A) : Type 0 where
  pub json : Json
  pub tree : Data
  pub prints : ts ≡ json_tokens json
  pub numbers : HasNumbers json
  pub reads : of_json json ≡ Some tree
  pub is : take tree ≡ taken value

-- the tokens of this JSON, which reads as this tree
pub shown_as :
    {A : Type 0} (ts : List Token) (take : Taker A) (value : A) (j : Json) (d : Data)
    → ts ≡ json_tokens j → HasNumbers j → of_json j ≡ Some d → take d ≡ taken value → IsShown ts take value
shown_as ts take value j d prints numbers reads is =
    record { json = j; tree = d; prints = prints; numbers = numbers; reads = reads; is = is }

-- the tokens of what is taken alike
pub shown_alike :
    {A : Type 0} (ts us : List Token) (take other : Taker A) (value : A) → us ≡ ts → ((tree : Data) → other tree ≡ take tree)
    → IsShown ts take value → IsShown us other value
shown_alike ts us take other value e same s =
    shown_as us other value s.json s.tree (e ∙ s.prints) s.numbers s.reads (same s.tree ∙ s.is)

-- the tokens are those of the items of an array, from which the values are taken
pub record AreShown {A : Type 0} (ts : List Token) (take : List Data → Taken (List A)) (values : List A) : Type 0 where
  pub items : json.Items
  pub trees : Items
  pub prints : ts ++ end_array ∷ [] ≡ items_tokens items
  pub numbers : ItemsHaveNumbers items
  pub reads : of_items items ≡ Some trees
  pub is : take (listed trees) ≡ taken values
  pub count : length (listed trees) ≡ length values

-- no items
pub none_shown : {A : Type 0} (take : List Data → Taken (List A)) → take [] ≡ taken [] → AreShown [] take []
none_shown take e =
    record { items = json.no_items; trees = no_items; prints = refl; numbers = tt; reads = refl; is = e; count = refl }

-- one item more
pub one_shown :
    {A : Type 0} (ts us : List Token) (first : Taker A) (more take : List Data → Taken (List A)) (value : A) (values : List A)
    → ((tree : Data) (trees : List Data) → take (tree ∷ trees) ≡ then_more (first tree) (more trees))
    → IsShown ts first value → AreShown us more values → AreShown (ts ++ us) take (value ∷ values)
one_shown ts us first more take value values next s rest =
    record {
      items = json.item s.json rest.items;
      trees = item s.tree rest.trees;
      prints = append_assoc ts us (end_array ∷ []) ∙ (λ i. s.prints i ++ rest.prints i);
      numbers = (s.numbers, rest.numbers);
      reads =
          ap (option_and_then (λ d. option_map (item d) (of_items rest.items))) s.reads
          ∙ ap (option_map (item s.tree)) rest.reads;
      is =
          next s.tree (listed rest.trees)
          ∙ ap (λ o. then_more o (more (listed rest.trees))) s.is
          ∙ ap (taken_map (λ vs. value ∷ vs)) rest.is;
      count = ap suc rest.count;
    }

-- an array of items
pub array_shown :
    {A B : Type 0} (ts : List Token) (take : List Data → Taken (List A)) (values : List A) (whole : Taker B) (value : B)
    → ((trees : Items) → take (listed trees) ≡ taken values → length (listed trees) ≡ length values
    → whole (array trees) ≡ taken value)
    → AreShown ts take values → IsShown (begin_array ∷ (ts ++ end_array ∷ [])) whole value
array_shown ts take values whole value by s =
    shown_as _ whole value (json.array s.items) (array s.trees) (ap (λ us. begin_array ∷ us) s.prints) s.numbers
    (ap (option_map array) s.reads) (by s.trees s.is s.count)

-- ---- members

-- the values of members under names
abbrev pub named_all : {A : Type 0} → Data → List (Option (List ℕ) × Taker A) → Taken (List A)
named_all tree fields = all_taken (map (λ f. if_found (member_in f.0 tree) f.1) fields)

-- the names of fields
abbrev pub names_of : {A : Type 0} → List (Option (List ℕ) × Taker A) → List (Option (List ℕ))
names_of fields = map (λ f. f.0) fields

-- the tokens are those of members, put to others that were found before, from which the values are
-- taken
pub record AreMembersShown {A : Type 0} (ts : List Token) (found : Members) (fields : List (Option (List ℕ) × Taker A))
    (values : List A) : Type 0 where
  pub members : json.Members
  pub all : Members
  pub prints : ts ++ end_object ∷ [] ≡ members_tokens members
  pub numbers : MembersHaveNumbers members
  pub reads : of_members members found ≡ Some all
  pub is : named_all (object all) fields ≡ taken values
  pub others : (q : List ℕ) → has_name (Some q) (names_of fields) ≡ false → get_member q all ≡ get_member q found
  pub count :
      ((q : List ℕ) → has_name (Some q) (names_of fields) ≡ true → get_member q found ≡ None)
      → members_len all ≡ members_len found + length fields

-- no members
pub no_members_shown : {A : Type 0} (found : Members) → AreMembersShown {A = A} [] found [] []
no_members_shown found =
    record {
      members = json.no_members;
      all = found;
      prints = refl;
      numbers = tt;
      reads = refl;
      is = refl;
      others = λ q e. refl;
      count = λ new. omega arith;
    }

-- a member that is new makes one more
put_len : (k : List ℕ) (d : Data) (ms : Members) → get_member k ms ≡ None → members_len (put k d ms) ≡ suc (members_len ms)
put_len k d no_members e = refl
put_len k d (member l c ms) e = by_order (slice_cmp nat_cmp k l) refl (put_len k d ms) e
  where
    by_order :
        (o : Ordering) → slice_cmp nat_cmp k l ≡ o
        → (get_member k ms ≡ None → members_len (put k d ms) ≡ suc (members_len ms))
        → match_ordering o (get_member k ms) (Some c) (get_member k ms) ≡ None
        → members_len (match_ordering o (member k d (member l c ms)) (member l d ms) (member l c (put k d ms)))
        ≡ suc (suc (members_len ms))
    by_order Less f later e = refl
    by_order Equal f later e = cc
    by_order Greater f later e = ap suc (later e)

-- the parts of a test that fails
or_fails : (a b : Bool) → (a || b) ≡ false → (a ≡ false) × (b ≡ false)
or_fails true b e = cc
or_fails false b e = (refl, e)

-- the second part of a test passes
or_second : (a b : Bool) → b ≡ true → (a || b) ≡ true
or_second true b e = refl
or_second false b e = e

-- the first part passes
or_first : (a b : Bool) → a ≡ true → (a || b) ≡ true
or_first true b e = refl
or_first false b e = cc

-- texts that test as different are so
differ : (a b : List ℕ) → bytes_eq a b ≡ false → b ≡ a → ⊥
differ a b e same = let h : bytes_eq a b ≡ true = (bytes_eq-Decides a b).1 (sym same) in cc

-- one member more
pub one_member_shown :
    {A : Type 0} (name : List ℕ) (ts us : List Token) (take : Taker A) (fields : List (Option (List ℕ) × Taker A))
    (found : Members) (value : A) (values : List A)
    → has_name (Some name) (names_of fields) ≡ false → (s : IsShown ts take value)
    → AreMembersShown us (put name s.tree found) fields values
    → AreMembersShown (key name ∷ (ts ++ us)) found ((Some name, take) ∷ fields) (value ∷ values)
one_member_shown name ts us take fields found value values alone s rest =
    record {
      members = json.member name s.json rest.members;
      all = rest.all;
      prints = ap (λ vs. key name ∷ vs) (append_assoc ts us (end_object ∷ []) ∙ (λ i. s.prints i ++ rest.prints i));
      numbers = (s.numbers, rest.numbers);
      reads = ap (option_and_then (λ d. of_members rest.members (put name d found))) s.reads ∙ rest.reads;
      is =
          ap (λ o. then_more (if_found o take) (named_all (object rest.all) fields))
          (rest.others name alone ∙ get_member-put name s.tree found)
          ∙ ap (λ o. then_more o (named_all (object rest.all) fields)) s.is
          ∙ ap (taken_map (λ vs. value ∷ vs)) rest.is;
      others = λ q e.
          let p = or_fails (bytes_eq name q) (has_name (Some q) (names_of fields)) e in
          rest.others q p.1 ∙ get_member-put_other q name s.tree found (differ name q p.0);
      count = λ new.
          let first : get_member name found ≡ None = new name (or_first _ _ ((bytes_eq-Decides name name).1 refl)) in
          let fresh = λ (q : List ℕ) (h : has_name (Some q) (names_of fields) ≡ true).
          get_member-put_other q name s.tree found (λ e. other_than q h e) ∙ new q (or_second _ _ h) in
          rest.count fresh ∙ ap (λ n. n + length fields) (put_len name s.tree found first) ∙ (omega arith);
    }
  where
    other_than : (q : List ℕ) → has_name (Some q) (names_of fields) ≡ true → q ≡ name → ⊥
    other_than q h e =
        let k : has_name (Some name) (names_of fields) ≡ true = ap (λ n. has_name (Some n) (names_of fields)) (sym e) ∙ h in cc

-- an object of members
pub object_shown :
    {A B : Type 0} (ts : List Token) (fields : List (Option (List ℕ) × Taker A)) (values : List A) (whole : Taker B) (value : B)
    → ((all : Members) → named_all (object all) fields ≡ taken values → members_len all ≡ length fields
    → whole (object all) ≡ taken value)
    → AreMembersShown ts no_members fields values → IsShown (begin_object ∷ (ts ++ end_object ∷ [])) whole value
object_shown ts fields values whole value by s =
    shown_as _ whole value (json.object s.members) (object s.all) (ap (λ us. begin_object ∷ us) s.prints) s.numbers
    (ap (option_map object) s.reads) (by s.all s.is (s.count (λ q h. refl) ∙ omega arith))
