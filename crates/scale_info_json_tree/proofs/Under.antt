-- What is found under a key.
use Rattle.std.proofs.Common.{◌≡◌, ℕ, List, [], Bool, true, false, Option, Some, None}
use Rattle.std.proofs.Common.{◌⊎◌, inl, inr, sym, subst, refl, ap}
use Rattle.std.specs.Prelude.{is_some, if◌then◌else◌}
use Rattle.serde_json.specs.Data.{Data, null, boolean, number, string, array, object}
use Rattle.serde_json.specs.Find.{get, as_null}
use Rattle.scale_info_json_trees.specs.Meaning.{IsMeaningless, MeansList, MeansOrEmpty, MeansOrNull}
use Rattle.scale_info_json_trees.specs.Meaning.{MeansOrNone, HasList, HasOption, unless_null}

-- a tree that is read as null is null
pub null_of : (d : Data) → is_some (as_null d) ≡ true → d ≡ null
null_of null e = refl
null_of (boolean b) e = absurd cc
null_of (number n) e = absurd cc
null_of (string s) e = absurd cc
null_of (array ds) e = absurd cc
null_of (object ms) e = absurd cc

-- a tree that is not read as null is not null
pub not_null : (d : Data) → is_some (as_null d) ≡ false → d ≡ null → ⊥
not_null d e n =
    let h : is_some (as_null null) ≡ false = subst (λ t. is_some (as_null t) ≡ false) n e in cc

kept_if_false :
    (b : Bool) (d f : Data) → Some f ≡ (if b then None else Some d) → (f ≡ d) × (b ≡ false)
kept_if_false true d f e = absurd cc
kept_if_false false d f e = (cc, refl)

dropped_if_true : (b : Bool) (d : Data) → None ≡ (if b then None else Some d) → b ≡ true
dropped_if_true true d e = refl
dropped_if_true false d e = absurd cc

-- what counts as there is there, and is not null
pub there : (o : Option Data) {f : Data} → Some f ≡ unless_null o → (o ≡ Some f) × (f ≡ null → ⊥)
there None e = absurd cc
there (Some d) {f} e =
    let is = kept_if_false (is_some (as_null d)) d f e in
    (ap Some (sym is.0), subst (λ t. t ≡ null → ⊥) (sym is.0) (not_null d is.1))

-- what counts as missing is missing or null
pub missing : (o : Option Data) → None ≡ unless_null o → (o ≡ None) ⊎ (o ≡ Some null)
missing None e = inl refl
missing (Some d) e = inr (ap Some (null_of d (dropped_if_true (is_some (as_null d)) d e)))

module _ {A : Type 0} (M : Data → A → Type 0) (k : List ℕ) (d : Data) where
  pub list_missing : None ≡ get k d → HasList k M d []
  list_missing e = subst (λ o. MeansOrEmpty M o []) e refl

  pub list_found : {f : Data} {vs : List A} → Some f ≡ get k d → MeansList M f vs → HasList k M d vs
  list_found {f} {vs} e m = subst (λ o. MeansOrEmpty M o vs) e m

  pub no_list_found :
      {f : Data} → Some f ≡ get k d → IsMeaningless (MeansList M f) → IsMeaningless (HasList k M d)
  no_list_found {f} e n = record {
    none = λ vs m. n.none vs (subst (λ o. MeansOrEmpty M o vs) (sym e) m);
  }

  null_or_missing : (o : Option Data) → (o ≡ None) ⊎ (o ≡ Some null) → MeansOrNone M o None
  null_or_missing o (inl e) = subst (λ t. MeansOrNone M t None) (sym e) refl
  null_or_missing o (inr e) = subst (λ t. MeansOrNone M t None) (sym e) refl

  pub option_missing : None ≡ unless_null (get k d) → HasOption k M d None
  option_missing e = null_or_missing (get k d) (missing (get k d) e)

  pub option_found :
      {f : Data} {v : A} → Some f ≡ unless_null (get k d) → M f v → HasOption k M d (Some v)
  option_found {f} {v} e m = subst (λ o. MeansOrNone M o (Some v)) (sym (there (get k d) e).0) m

  no_option :
      (f : Data) (n : f ≡ null → ⊥) (v : Option A) → IsMeaningless (M f) → MeansOrNull M f v → ⊥
  no_option f n None m h = n h
  no_option f n (Some v) m h = m.none v h

  pub no_option_found :
      {f : Data} → Some f ≡ unless_null (get k d) → IsMeaningless (M f)
      → IsMeaningless (HasOption k M d)
  no_option_found {f} e m = record {
    none = λ v h.
        let is = there (get k d) e in
        no_option f is.1 v m (subst (λ o. MeansOrNone M o v) is.0 h);
  }
