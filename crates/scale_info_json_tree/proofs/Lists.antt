-- Lists, value by value.
use Rattle.std.proofs.Common.{◌≡◌, ℕ, zero, suc, ◌<◌, ◌≤◌, ◌+◌, List, [], ◌∷◌, ◌++◌, length, get_or}
use Rattle.std.proofs.Common.{take, drop, map, Some, sym, ◌∙◌, ap, subst, refl, arith, append_assoc}
use Rattle.std.proofs.lemmas.List.{take_more, drop_more, map-append, take_all, length-map}
use Rattle.json.specs.Token.{Token}
use Rattle.json.specs.Tree.{items_tokens}
use Rattle.serde_json.specs.Data.{Data, null, boolean, number, string, array, object, Items}
use Rattle.serde_json.specs.Find.{as_array}
use Rattle.serde_json.specs.View.{items_of, items_view, view}
use Rattle.serde_json.specs.Written.{items_outline}
use Rattle.serde_json.specs.declared.value.Value.{Value}
use Rattle.scale_info_json_trees.specs.Meaning.{MeansEach, MeansList, IsMeaningless}
use Rattle.scale_info_json_trees.specs.Steps.{tokens_of}
use Rattle.scale_info_json_tree.specs.Laws.{same_array}

-- ---- one more value

-- the images of one more item
pub one_more :
    {A B : Type 0} (f : A → B) (xs : List A) (i : ℕ) (x : A) → i < length xs → x ≡ get_or xs i x
    → map f (take (i + 1) xs) ≡ map f (take i xs) ++ f x ∷ []
one_more f xs i x h e =
    ap (map f) (take_more xs i x h ∙ ap (λ t. take i xs ++ t ∷ []) (sym e))
    ∙ map-append f (take i xs) (x ∷ [])

-- the items up to one more
pub next_taken :
    {A : Type 0} (xs : List A) (i : ℕ) (x : A) → i < length xs → x ≡ get_or xs i x
    → take (i + 1) xs ≡ take i xs ++ x ∷ []
next_taken xs i x h e = take_more xs i x h ∙ ap (λ t. take i xs ++ t ∷ []) (sym e)

get_or-map :
    {A B : Type 0} (f : A → B) (xs : List A) (i : ℕ) (x : A)
    → get_or (map f xs) i (f x) ≡ f (get_or xs i x)
get_or-map f [] zero x = refl
get_or-map f [] (suc i) x = refl
get_or-map f (y ∷ xs) zero x = refl
get_or-map f (y ∷ xs) (suc i) x = get_or-map f xs i x

module _ {A : Type 0} (M : Data → A → Type 0) where
  pub each_more :
      (ds : List Data) (vs : List A) (d : Data) (v : A) → MeansEach M ds vs → M d v
      → MeansEach M (ds ++ d ∷ []) (vs ++ v ∷ [])
  each_more [] [] d v p q = (q, tt)
  each_more [] (w ∷ vs) d v p q = absurd p
  each_more (c ∷ ds) [] d v p q = absurd p
  each_more (c ∷ ds) (w ∷ vs) d v p q = (p.0, each_more ds vs d v p.1 q)

  pub each_next :
      (W : A → Data) (xs : List A) (i : ℕ) (x : A) → i < length xs → x ≡ get_or xs i x
      → MeansEach M (map W (take i xs)) (take i xs) → M (W x) x
      → MeansEach M (map W (take (i + 1) xs)) (take (i + 1) xs)
  each_next W xs i x h e p q = rw (one_more W xs i x h e, next_taken xs i x h e) (each_more (map W (take i xs)) (take i xs) (W x) x p q)

  pub read_more :
      (xs : List Value) (i : ℕ) (x : Value) (vs now : List A) (v : A) → i < length xs
      → x ≡ get_or xs i x → MeansEach M (map view (take i xs)) vs → M (view x) v
      → now ≡ vs ++ v ∷ []
      → MeansEach M (map view (take (i + 1) xs)) now
  read_more xs i x vs now v h e p q is = rw (one_more view xs i x h e, is) (each_more (map view (take i xs)) vs (view x) v p q)

  each_at :
      (ds : List Data) (vs : List A) (i : ℕ) (d : Data) → i < length ds → MeansEach M ds vs
      → (v : A) × M (get_or ds i d) v
  each_at [] vs i d h p = absurd (omega arith)
  each_at (c ∷ ds) [] i d h p = absurd p
  each_at (c ∷ ds) (w ∷ vs) zero d h p = (w, p.0)
  each_at (c ∷ ds) (w ∷ vs) (suc i) d h p = each_at ds vs i d (omega arith) p.1

  pub no_list :
      (t : Data) (all xs : List Value) (i : ℕ) (x : Value) → t ≡ array (items_view all) → xs ≡ all
      → i < length xs → x ≡ get_or xs i x → IsMeaningless (M (view x))
      → IsMeaningless (MeansList M t)
  no_list t all xs i x is same h e n = record {
    none = λ vs p.
        let trees : p.trees ≡ map view xs = same_array p.trees (map view all) p.is is ∙ ap (map view) (sym same) in
        let each = subst (λ ds. MeansEach M ds vs) trees p.means in
        let h' : i < length (map view xs) = rw length-map h in
        let at = each_at (map view xs) vs i (view x) h' each in
        let here : get_or (map view xs) i (view x) ≡ view x = get_or-map view xs i x ∙ ap view (sym e) in
        n.none at.0 (subst (λ d. M d at.0) here at.1);
  }

-- ---- texts

-- what is left of the items' tokens, one value on
pub next_tokens :
    {A : Type 0} (W : A → Data) (xs : List A) (i : ℕ) (x : A) (old new whole : List Token)
    → i < length xs → x ≡ get_or xs i x
    → old ++ items_tokens (items_outline (items_of (map W (drop i xs)))) ≡ whole → new ≡ old ++ tokens_of (W x)
    → new ++ items_tokens (items_outline (items_of (map W (drop (i + 1) xs)))) ≡ whole
next_tokens W xs i x old new whole h e before is =
    let rest = items_tokens (items_outline (items_of (map W (drop (i + 1) xs)))) in
    let here : drop i xs ≡ x ∷ drop (i + 1) xs = drop_more xs i x h ∙ ap (λ t. t ∷ drop (i + 1) xs) (sym e) in
    ap (λ s. s ++ rest) is ∙ append_assoc old (tokens_of (W x)) rest ∙ ap (λ l. old ++ items_tokens (items_outline (items_of (map W l)))) (sym here) ∙ before

-- ---- trees

-- a tree that is read as an array is the array
pub array_of : (d : Data) (ds : Items) → Some ds ≡ as_array d → d ≡ array ds
array_of null ds e = absurd cc
array_of (boolean b) ds e = absurd cc
array_of (number n) ds e = absurd cc
array_of (string s) ds e = absurd cc
array_of (array es) ds e = let same : ds ≡ es = cc in ap array (sym same)
array_of (object ms) ds e = absurd cc

-- what was built is the list of all trees
pub all_taken :
    {A : Type 0} (W : A → Data) (xs : List A) (i : ℕ) (ds : List Data) → length xs ≤ i → ds ≡ map W (take i xs)
    → ds ≡ map W xs
all_taken W xs i ds h e = e ∙ ap (map W) (take_all i xs h)

-- a tree more in the list that is built
pub pushed :
    {A : Type 0} (W : A → Data) (xs : List A) (i : ℕ) (x : A) (built now : List Value)
    → i < length xs → x ≡ get_or xs i x
    → map view built ≡ map W (take i xs) → map view now ≡ map view built ++ W x ∷ []
    → map view now ≡ map W (take (i + 1) xs)
pushed W xs i x built now h e before is =
    is ∙ ap (λ l. l ++ W x ∷ []) before ∙ sym (one_more W xs i x h e)
