-- A tree means at most one value.
use Rattle.std.specs.Prelude.{◌≡◌, ℕ, List, [], ◌∷◌, refl}
use Rattle.std.proofs.Common.{sym, ◌∙◌, ap, ap₂, subst, Option, Some, None}
use Rattle.serde_json.specs.Data.{Data, null, number, unsigned, string, array}
use Rattle.serde_json.specs.Find.{get}
use Rattle.serde_json.specs.View.{items_of}
use Rattle.scale_info_json_trees.specs.Meaning.{IsMeaning, MeansNumber, MeansText, MeansEach}
use Rattle.scale_info_json_trees.specs.Meaning.{MeansList}
use Rattle.scale_info_json_trees.specs.Meaning.{IsObject, MeansRequired, HasValue, MeansOrEmpty}
use Rattle.scale_info_json_trees.specs.Meaning.{MeansOrNull, MeansOrNone, HasList, HasOption}

-- a tree means at most one number
pub number_law : (limit : ℕ) → IsMeaning (MeansNumber limit)
number_law limit = record {
  unique = λ d v w p q. let e : number (unsigned v) ≡ number (unsigned w) = sym p.is ∙ q.is in cc;
  not_null = λ v p. let e = p.is in cc;
}

-- a tree means at most one text
pub text_law : IsMeaning MeansText
text_law = record {
  unique = λ d v w p q. let e : string v ≡ string w = sym p.is ∙ q.is in cc;
  not_null = λ v p. let e = p.is in cc;
}

-- lists of trees with equal items are equal
pub same_items : (ds es : List Data) → items_of ds ≡ items_of es → ds ≡ es
same_items [] [] e = refl
same_items [] (d ∷ es) e = absurd cc
same_items (d ∷ ds) [] e = absurd cc
same_items (d ∷ ds) (c ∷ es) e =
    let rest : items_of ds ≡ items_of es = cc in
    let first : d ≡ c = cc in
    ap₂ ◌∷◌ first (same_items ds es rest)

-- an array has one list of trees
pub same_array :
    {t : Data} (ds es : List Data) → t ≡ array (items_of ds) → t ≡ array (items_of es) → ds ≡ es
same_array ds es p q =
    let e : array (items_of ds) ≡ array (items_of es) = sym p ∙ q in
    let same : items_of ds ≡ items_of es = cc in
    same_items ds es same

module _ {A : Type 0} {M : Data → A → Type 0} (law : IsMeaning M) where
  each_unique : (ds : List Data) (vs ws : List A) → MeansEach M ds vs → MeansEach M ds ws → vs ≡ ws
  each_unique [] [] [] p q = refl
  each_unique [] [] (w ∷ ws) p q = absurd q
  each_unique [] (v ∷ vs) ws p q = absurd p
  each_unique (d ∷ ds) [] ws p q = absurd p
  each_unique (d ∷ ds) (v ∷ vs) [] p q = absurd q
  each_unique (d ∷ ds) (v ∷ vs) (w ∷ ws) p q =
      ap₂ ◌∷◌ (law.unique d v w p.0 q.0) (each_unique ds vs ws p.1 q.1)

  pub list_law : IsMeaning (MeansList M)
  list_law = record {
    unique =
        λ d v w p q. each_unique q.trees v w
        (subst (λ ds. MeansEach M ds v) (same_array p.trees q.trees p.is q.is) p.means) q.means;
    not_null = λ v p. let e = p.is in cc;
  }

-- ---- under a key

required_unique :
    {A : Type 0} (M : Data → A → Type 0) → IsMeaning M → (o : Option Data) (v w : A)
    → MeansRequired M o v → MeansRequired M o w → v ≡ w
required_unique M law None v w p q = absurd p
required_unique M law (Some d) v w p q = law.unique d v w p q

-- what a required key has is one value
pub value_unique :
    {A : Type 0} (M : Data → A → Type 0) → IsMeaning M → (k : List ℕ) (d : Data) (v w : A)
    → HasValue k M d v → HasValue k M d w → v ≡ w
value_unique M law k d v w p q = required_unique M law (get k d) v w p q

or_empty_unique :
    {A : Type 0} (M : Data → A → Type 0) → IsMeaning M → (o : Option Data) (v w : List A)
    → MeansOrEmpty M o v → MeansOrEmpty M o w → v ≡ w
or_empty_unique M law None v w p q = p ∙ sym q
or_empty_unique M law (Some d) v w p q = (list_law law).unique d v w p q

-- what the key of a list has is one list
pub list_at_unique :
    {A : Type 0} (M : Data → A → Type 0) → IsMeaning M → (k : List ℕ) (d : Data) (v w : List A)
    → HasList k M d v → HasList k M d w → v ≡ w
list_at_unique M law k d v w p q = or_empty_unique M law (get k d) v w p q

or_null_unique :
    {A : Type 0} (M : Data → A → Type 0) → IsMeaning M → (d : Data) (v w : Option A)
    → MeansOrNull M d v → MeansOrNull M d w → v ≡ w
or_null_unique M law d None None p q = refl
or_null_unique M law d None (Some w) p q = absurd (law.not_null w (subst (λ t. M t w) p q))
or_null_unique M law d (Some v) None p q = absurd (law.not_null v (subst (λ t. M t v) q p))
or_null_unique M law d (Some v) (Some w) p q = ap Some (law.unique d v w p q)

or_none_unique :
    {A : Type 0} (M : Data → A → Type 0) → IsMeaning M → (o : Option Data) (v w : Option A)
    → MeansOrNone M o v → MeansOrNone M o w → v ≡ w
or_none_unique M law None v w p q = p ∙ sym q
or_none_unique M law (Some d) v w p q = or_null_unique M law d v w p q

-- what the key of an optional value has is one option
pub option_unique :
    {A : Type 0} (M : Data → A → Type 0) → IsMeaning M → (k : List ℕ) (d : Data) (v w : Option A)
    → HasOption k M d v → HasOption k M d w → v ≡ w
option_unique M law k d v w p q = or_none_unique M law (get k d) v w p q

-- null is no object
pub no_object : IsObject null → ⊥
no_object o = let e = o.is in cc

-- a value that is given by another
pub through_law :
    {A B : Type 0} {M : Data → B → Type 0} (part : A → B) → ((v w : A) → part v ≡ part w → v ≡ w)
    → IsMeaning M → IsMeaning (λ d v. M d (part v))
through_law part same law = record {
  unique = λ d v w p q. same v w (law.unique d (part v) (part w) p q);
  not_null = λ v p. law.not_null (part v) p;
}
