-- Lists whose items are read one by one.
use Rattle.std.proofs.Common.{◌≡◌, ℕ, ◌<◌, List, [], ◌∷◌, ◌++◌, Option, Some, None, refl, sym, subst}
use Rattle.std.proofs.Common.{◌-◌}
use Rattle.json.specs.Token as spec
use Rattle.json.specs.Reads.{token_of}
use Rattle.json.specs.declared.token.Token.{Token}
use Rattle.json.specs.declared.token.Token.TheVariants as token
use Rattle.serde_json.specs.Data.{Data, array}
use Rattle.serde_json.specs.View.{items_of}
use Rattle.scale_info_json_trees.specs.Meaning.{MeansEach, MeansList}
use Rattle.scale_info_json_tree.specs.Laws.{same_items}
use Rattle.scale_info_json_text.specs.Readings.{IsMeant, Reads, ReadsItems, with_last}
use Rattle.scale_info_json_text.proofs.Trees.{array_reads}

module _ {A : Type 0} (M : Data → A → Type 0) where
  -- no trees mean the empty list
  pub no_trees : (vs : List A) → vs ≡ [] → IsMeant (MeansEach M []) (Some vs)
  no_trees vs e = subst (λ x. MeansEach M [] x) (sym e) tt

  -- one more tree that means one more value
  each_last :
      (ds : List Data) (d : Data) (vs : List A) (v : A) → MeansEach M ds vs → M d v
      → MeansEach M (ds ++ d ∷ []) (vs ++ v ∷ [])
  each_last [] d [] v p q = (q, tt)
  each_last [] d (w ∷ vs) v p q = absurd p
  each_last (e ∷ ds) d [] v p q = absurd p
  each_last (e ∷ ds) d (w ∷ vs) v p q = (p.0, each_last ds d vs v p.1 q)

  -- without the last tree the others mean the values before
  each_front :
      (ds : List Data) (d : Data) (vs : List A) → MeansEach M (ds ++ d ∷ []) vs
      → (ws : List A) × (w : A) × MeansEach M ds ws × M d w
  each_front [] d [] p = absurd p
  each_front [] d (v ∷ vs) p = ([], v, tt, p.0)
  each_front (e ∷ ds) d [] p = absurd p
  each_front (e ∷ ds) d (v ∷ vs) p =
      let r = each_front ds d vs p.1 in (v ∷ r.0, r.1, (p.0, r.2), r.3)

  -- one more tree means one more value, if both mean one
  with_last_meant :
      (ds : List Data) (d : Data) (values : Option (List A)) (found : Option A)
      → IsMeant (MeansEach M ds) values → IsMeant (M d) found
      → IsMeant (MeansEach M (ds ++ d ∷ [])) (with_last values found)
  with_last_meant ds d None found p q = record { none = λ vs m. p.none _ (each_front ds d vs m).2 }
  with_last_meant ds d (Some vs) None p q = record { none = λ ws m. q.none _ (each_front ds d ws m).3 }
  with_last_meant ds d (Some vs) (Some v) p q = each_last ds d vs v p q

  -- one more tree means one more value
  pub one_more_meant :
      (ds : List Data) (d : Data) (values : Option (List A)) (found : Option A) (new : Option (List A))
      → IsMeant (MeansEach M ds) values → IsMeant (M d) found → new ≡ with_last values found
      → IsMeant (MeansEach M (ds ++ d ∷ [])) new
  one_more_meant ds d values found new p q e =
      subst (λ x. IsMeant (MeansEach M (ds ++ d ∷ [])) x) (sym e) (with_last_meant ds d values found p q)

  -- an array means the values of its trees
  list_meant : (ds : List Data) (found : Option (List A)) → IsMeant (MeansEach M ds) found → IsMeant (MeansList M (array (items_of ds))) found
  list_meant ds None p = record {
    none = λ vs m.
        let is : array (items_of ds) ≡ array (items_of m.trees) = m.is in
        let same : items_of ds ≡ items_of m.trees = cc in
        p.none vs (subst (λ es. MeansEach M es vs) (sym (same_items ds m.trees same)) m.means);
  }
  list_meant ds (Some vs) p = record { trees = ds; is = refl; means = p }

  -- an array whose items are read is a list
  pub list_read :
      (depth : ℕ) (k : Token) (ts r : List spec.Token) (found : Option (List A)) → k ≡ token.BeginArray → 0 < depth
      → ReadsItems (λ trees. IsMeant (MeansEach M trees) found) (depth - 1) ts r
      → Reads (λ tree. IsMeant (MeansList M tree) found) depth (token_of k ∷ ts) r
  list_read depth k ts r found is some h =
      subst (λ t. Reads (λ tree. IsMeant (MeansList M tree) found) depth (token_of t ∷ ts) r) (sym is)
      (array_reads depth ts r some (λ ds p. list_meant ds found p) h)
