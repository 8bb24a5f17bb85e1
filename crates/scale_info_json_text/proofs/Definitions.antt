-- What is read of definitions.
use Rattle.std.proofs.Common.{◌≡◌, ℕ, List, Option, Some, None, Ordering, Less, Equal, Greater, ◌⊎◌, inl, inr}
use Rattle.std.proofs.Common.{refl, sym, ap, ◌∙◌, subst}
use Rattle.std.proofs.lemmas.Cmp.{nat_list_cmp_total, tied_itself}
use Rattle.std.proofs.lemmas.Map.Text.{is_eq-slice_cmp}
use Rattle.std.proofs.lemmas.Slice.Eq.{bytes_eq-Decides}
use Rattle.std.specs.Cmp.Lexicographic.{slice_cmp}
use Rattle.std.specs.Ordering.{nat_cmp, match_ordering, is_eq}
use Rattle.json.specs.Token.{Token}
use Rattle.serde_json.specs.Data.{Data, Members, no_members, member, put, object}
use Rattle.scale_info_types.specs.Portable as portable
use Rattle.scale_info_json_trees.specs.Meaning.{IsMeaningless}
use Rattle.scale_info_json_trees.specs.DefinitionTrees.{MeansTypeDef, MeansUnder}
use Rattle.scale_info_json_text.specs.declared.definition.FoundDefinition.{FoundDefinition}
use Rattle.scale_info_json_text.specs.declared.definition.FoundDefinition.TheVariants as found
use Rattle.scale_info_json_text.specs.Definitions.{IsUnknown, IsOne, AreRefused, HoldsDefinition, MeansFrom}
use Rattle.scale_info_json_text.specs.Readings.{IsMeant, Reads}
use Rattle.scale_info_json_text.proofs.Trees.{reads_weaker}

-- keys that compare as equal are equal
equal_keys : (k l : List ℕ) → slice_cmp nat_cmp k l ≡ Equal → k ≡ l
equal_keys k l e = (bytes_eq-Decides k l).0 (sym (is_eq-slice_cmp k l) ∙ ap is_eq e)

-- a map with one more member is not empty, by how the keys compare
some_at :
    (o : Ordering) (k l : List ℕ) (d e : Data) (rest : Members)
    → match_ordering o (member k d (member l e rest)) (member l d rest) (member l e (put k d rest)) ≡ no_members → ⊥
some_at Less k l d e rest h = absurd cc
some_at Equal k l d e rest h = absurd cc
some_at Greater k l d e rest h = absurd cc

-- a map with one more member is not empty
put_some : (k : List ℕ) (d : Data) (ms : Members) → put k d ms ≡ no_members → ⊥
put_some k d no_members h = absurd cc
put_some k d (member l e rest) h = some_at (slice_cmp nat_cmp k l) k l d e rest h

-- a map with one more member is refused, by how the keys compare
refused_at :
    (o : Ordering) (k l : List ℕ) (d e : Data) (rest : Members) → slice_cmp nat_cmp k l ≡ o
    → (rest ≡ no_members → k ≡ l → IsUnknown l)
    → AreRefused (match_ordering o (member k d (member l e rest)) (member l d rest) (member l e (put k d rest)))
refused_at Less k l d e rest is same = record {
  some = λ h. some_at Less k l d e rest h;
  unknown = λ key tree h. let g : member l e rest ≡ no_members = cc in absurd cc;
}
refused_at Equal k l d e rest is same = record {
  some = λ h. some_at Equal k l d e rest h;
  unknown = λ key tree h.
      let r : rest ≡ no_members = cc in
      let q : l ≡ key = cc in
      subst IsUnknown q (same r (equal_keys k l is));
}
refused_at Greater k l d e rest is same = record {
  some = λ h. some_at Greater k l d e rest h;
  unknown = λ key tree h. let g : put k d rest ≡ no_members = cc in absurd (put_some k d rest g);
}

-- members that are refused stay so with one more
pub put_refused : (k : List ℕ) (d : Data) (ms : Members) → AreRefused ms → AreRefused (put k d ms)
put_refused k d no_members h = absurd (h.some refl)
put_refused k d (member l e rest) h =
    refused_at (slice_cmp nat_cmp k l) k l d e rest refl (λ r q. h.unknown l e (ap (member l e) r))

-- members with an unknown key are refused
pub put_unknown : (k : List ℕ) (d : Data) (ms : Members) → IsUnknown k → AreRefused (put k d ms)
put_unknown k d no_members u = record {
  some = λ h. put_some k d no_members h;
  unknown = λ key tree h. let q : k ≡ key = cc in subst IsUnknown q u;
}
put_unknown k d (member l e rest) u =
    refused_at (slice_cmp nat_cmp k l) k l d e rest refl (λ r q. subst IsUnknown q u)

-- two keys are refused
pub put_second :
    (k l : List ℕ) (d : Data) (def : Option portable.TypeDef) (ms : Members) → IsOne l def ms
    → (l ≡ k → ⊥) → AreRefused (put k d ms)
put_second k l d def ms h other =
    subst (λ x. AreRefused (put k d x)) (sym h.only)
    (refused_at (slice_cmp nat_cmp k l) k l d h.tree no_members refl (λ r q. absurd (other (sym q))))

-- the first key is one
pub put_first :
    (k : List ℕ) (d : Data) (def : Option portable.TypeDef) (ms : Members) → ms ≡ no_members
    → IsMeant (MeansUnder k d) def → IsOne k def (put k d ms)
put_first k d def ms none m =
    subst (λ x. IsOne k def (put k d x)) (sym none) (record { tree = d; only = refl; means = m })

-- a key put again takes the new tree
put_itself :
    (k : List ℕ) (d e : Data) → put k d (member k e no_members) ≡ member k d no_members
put_itself k d e = rw (tied_itself nat_list_cmp_total k)

-- the same key again is one, with its last tree
pub put_again :
    (k l : List ℕ) (d : Data) (old def : Option portable.TypeDef) (ms : Members) → IsOne l old ms → l ≡ k
    → IsMeant (MeansUnder k d) def → IsOne k def (put k d ms)
put_again k l d old def ms h same m = record {
  tree = d;
  only = ap (put k d) (h.only ∙ ap (λ x. member x h.tree no_members) same) ∙ put_itself k d h.tree;
  means = m;
}

-- an object with one key means what the key and its tree mean
one_meant :
    (k : List ℕ) (d : Data) (v : Option portable.TypeDef) → IsMeant (MeansUnder k d) v
    → IsMeant (MeansTypeDef (object (member k d no_members))) v
one_meant k d None m = record {
  none = λ v t.
      let h : object (member k d no_members) ≡ object (member t.key t.tree no_members) = t.only in
      let p : k ≡ t.key = cc in
      let q : d ≡ t.tree = cc in
      m.none v (subst (λ x. MeansUnder x d v) (sym p) (subst (λ x. MeansUnder t.key x v) (sym q) t.means));
}
one_meant k d (Some v) m = record { key = k; tree = d; only = refl; means = m }

-- one key is what it means
pub one_is_meant :
    (k : List ℕ) (v : Option portable.TypeDef) (ms : Members) → IsOne k v ms
    → IsMeant (MeansTypeDef (object ms)) v
one_is_meant k v ms h =
    subst (λ x. IsMeant (MeansTypeDef (object x)) v) (sym h.only) (one_meant k h.tree v h.means)

-- an object with no key means no definition
no_key : (ms : Members) → ms ≡ no_members → IsMeaningless (MeansTypeDef (object ms))
no_key ms e = record {
  none = λ v t.
      let h : object ms ≡ object (member t.key t.tree no_members) = t.only in
      let g : no_members ≡ member t.key t.tree no_members = cc in
      absurd cc;
}

-- an object whose members are refused means no definition
refused_keys : (ms : Members) → AreRefused ms → IsMeaningless (MeansTypeDef (object ms))
refused_keys ms r = record {
  none = λ v t.
      let h : object ms ≡ object (member t.key t.tree no_members) = t.only in
      let g : ms ≡ member t.key t.tree no_members = cc in
      (r.unknown t.key t.tree g t.tree).none v t.means;
}

-- no key, or keys that are refused, mean nothing
pub none_is_meant :
    (f : FoundDefinition) (ms : Members) → (f ≡ found.Nothing) ⊎ (f ≡ found.Refused) → HoldsDefinition f ms
    → IsMeaningless (MeansTypeDef (object ms))
none_is_meant found.Nothing ms e h = no_key ms h
none_is_meant (found.One k v) ms (inl e) h = absurd cc
none_is_meant (found.One k v) ms (inr e) h = absurd cc
none_is_meant found.Refused ms e h = refused_keys ms h

-- where a definition is made of the part that a tree means, the tree means it under the kind's key
pub kind_read :
    {A : Type 0} {M : Data → A → Type 0} {makes : A → portable.TypeDef → Type 0} (kind : List ℕ)
    → ((t : Data) (d : portable.TypeDef) → MeansFrom M makes t d → MeansUnder kind t d)
    → ((t : Data) (d : portable.TypeDef) → MeansUnder kind t d → MeansFrom M makes t d)
    → (key : List ℕ) → key ≡ kind → (depth : ℕ) (ts r : List Token) (def : Option portable.TypeDef)
    → Reads (λ tree. IsMeant (MeansFrom M makes tree) def) depth ts r
    → Reads (λ tree. IsMeant (MeansUnder key tree) def) depth ts r
kind_read kind to from key e depth ts r None h =
    reads_weaker (λ tree p. record {
      none = λ d m. p.none d (from tree d (subst (λ x. MeansUnder x tree d) e m));
    }) h
kind_read kind to from key e depth ts r (Some d) h =
    reads_weaker (λ tree p. subst (λ x. MeansUnder x tree d) (sym e) (to tree d p)) h
