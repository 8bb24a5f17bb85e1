-- Tokens of JSON that reads as a tree.
use Rattle.std.proofs.Common.{◌≡◌, ℕ, ◌<◌, List, [], ◌∷◌, ◌++◌, Some, option_map, refl, ap, ◌∙◌, arith, decimal}
use Rattle.std.specs.Prelude.{option_and_then}
use Rattle.json.specs.Token as token
use Rattle.json.specs.Token.{Token}
use Rattle.json.specs.Json as json
use Rattle.json.specs.Json.{Json}
use Rattle.json.specs.Tree.{json_tokens, HasNumbers}
use Rattle.json.proofs.Printed.Decimals.{IsNumber-decimal}
use Rattle.serde_json.specs.Data.{Data, number, unsigned, string, array, object, no_items, item, no_members, member, put}
use Rattle.serde_json.specs.Read.{of_json, of_items, of_members}
use Rattle.serde_json.proofs.Numbers.{number_of-decimal}
use Rattle.scale_info_value_json.specs.Takers.{Taker, taken}
use Rattle.scale_info_value_json.proofs.Shown.{IsShown}

-- the tokens are those of JSON that reads as the tree
pub record ReadsAs (ts : List Token) (tree : Data) : Type 0 where
  pub json : Json
  pub prints : ts ≡ json_tokens json
  pub numbers : HasNumbers json
  pub reads : of_json json ≡ Some tree

-- tokens from which a value is taken
pub reads_as : {A : Type 0} (ts : List Token) (take : Taker A) (value : A) → (s : IsShown ts take value) → ReadsAs ts s.tree
reads_as ts take value s = record { json = s.json; prints = s.prints; numbers = s.numbers; reads = s.reads }

-- a value is taken from what tokens read as
pub shown_as : {A : Type 0} (ts : List Token) (tree : Data) (take : Taker A) (value : A) → take tree ≡ taken value → ReadsAs ts tree → IsShown ts take value
shown_as ts tree take value e r =
    record { json = r.json; tree = tree; prints = r.prints; numbers = r.numbers; reads = r.reads; is = e }

-- a string
pub string_reads : (s : List ℕ) → ReadsAs (token.string s ∷ []) (string s)
string_reads s = record { json = json.string s; prints = refl; numbers = tt; reads = refl }

-- a small number
pub number_reads : (n : ℕ) → n < 256 → ReadsAs (token.number (decimal n) ∷ []) (number (unsigned n))
number_reads n h =
    record {
      json = json.number (decimal n);
      prints = refl;
      numbers = IsNumber-decimal n (omega arith);
      reads = ap (option_map number) (number_of-decimal n (omega arith));
    }

-- an object of one member
pub single_reads :
    (name : List ℕ) (ts : List Token) (tree : Data) → ReadsAs ts tree
    → ReadsAs (token.begin_object ∷ token.key name ∷ (ts ++ token.end_object ∷ [])) (object (member name tree no_members))
single_reads name ts tree r =
    record {
      json = json.object (json.member name r.json json.no_members);
      prints = ap (λ us. token.begin_object ∷ token.key name ∷ (us ++ token.end_object ∷ [])) r.prints;
      numbers = (r.numbers, tt);
      reads = ap (λ o. option_map object (option_and_then (λ d. of_members json.no_members (put name d no_members)) o)) r.reads;
    }

-- an array of one item
pub one_reads :
    (ts : List Token) (tree : Data) → ReadsAs ts tree
    → ReadsAs (token.begin_array ∷ (ts ++ token.end_array ∷ [])) (array (item tree no_items))
one_reads ts tree r =
    record {
      json = json.array (json.item r.json json.no_items);
      prints = ap (λ us. token.begin_array ∷ (us ++ token.end_array ∷ [])) r.prints;
      numbers = (r.numbers, tt);
      reads = ap (λ o. option_map array (option_and_then (λ d. option_map (item d) (of_items json.no_items)) o)) r.reads;
    }

-- an array of two items
pub two_read :
    (ts us : List Token) (tree other : Data) → ReadsAs ts tree → ReadsAs us other
    → ReadsAs (token.begin_array ∷ (ts ++ (us ++ token.end_array ∷ []))) (array (item tree (item other no_items)))
two_read ts us tree other r s =
    record {
      json = json.array (json.item r.json (json.item s.json json.no_items));
      prints = λ i. token.begin_array ∷ (r.prints i ++ (s.prints i ++ token.end_array ∷ []));
      numbers = (r.numbers, (s.numbers, tt));
      reads =
          ap (λ o. option_map array (option_and_then (λ d. option_map (item d) (of_items (json.item s.json json.no_items))) o)) r.reads
          ∙ ap (λ o. option_map array (option_map (item tree) (option_and_then (λ d. option_map (item d) (of_items json.no_items)) o)))
          s.reads;
    }
