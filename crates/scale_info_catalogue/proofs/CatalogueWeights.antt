-- The work that a walk over a catalogue has left.
use Rattle.std.proofs.Common.{◌≡◌, ℕ, suc, ◌+◌, ◌-◌, ◌<◌, ◌≤◌, List, [], ◌∷◌, ◌++◌, length, Option}
use Rattle.std.proofs.Common.{Some, None, sum_by, refl, ap, sym, ◌∙◌, subst, arith, ◌⊎◌, inl, inr}
use Rattle.std.proofs.Common.{Contains, map, cond, true, false, Bool}
use Rattle.std.proofs.lemmas.List.Sums.{sum_by_push}
use Rattle.std.proofs.lemmas.Option.{none-some}
use Rattle.std.specs.Map.{lookup}
use Rattle.std.specs.BTreeMap.{is_at}
use Rattle.std.specs.Option.{option_map}
use Rattle.scale_info_numberings.specs.Systems.{Entry}
use Rattle.scale_info_numberings.specs.Numberings.{AreDistinct}
use Rattle.scale_info_numberings.proofs.Places.{contains_head, contains_tail}
use Rattle.scale_info_numberings.proofs.Weights.{weight, weight_in, distinct_sums}
use Rattle.scale_info_identities.specs.TypeIds.{Term, term_of}
use Rattle.scale_info_types.specs.Shapes.{Shape}
use Rattle.scale_info_identities.specs.declared.type_id.TypeId.{TypeId}
use Rattle.scale_info_identities.specs.contracts.type_id.TypeIdOrd.TheImpl.{ghosts}
use Rattle.scale_info_catalogue.specs.declared.catalogue.Catalogue.{Catalogue}
use Rattle.scale_info_catalogue.specs.Catalogues.{identity_of, described}
use Rattle.scale_info_catalogue.specs.CatalogueSystems.{catalogue_entry, catalogue_system}
use Rattle.scale_info_types.specs.MetaDescriptions.{MetaDescription}
use Rattle.scale_info_catalogue.proofs.Catalogues.{term_of_identity, found_by_term}

-- the terms of a catalogue
abbrev pub terms_in : Catalogue → List Term
terms_in c = map (λ e. term_of e.0) c.entries.entries

looked_at :
    {X : Type 0} (p : TypeId × X) (es : List (TypeId × X)) (t : Term) (d : X) (b : Bool)
    → is_at (ghosts.cmp (identity_of t)) p.0 ≡ b
    → cond b (Some p.1) (lookup (is_at (ghosts.cmp (identity_of t))) es) ≡ Some d
    → (lookup (is_at (ghosts.cmp (identity_of t))) es ≡ Some d → Contains (map (λ e. term_of e.0) es) t)
    → Contains (map (λ (e : TypeId × X). term_of e.0) (p ∷ es)) t
looked_at {X} p es t d true h e f =
    subst (λ z. Contains (map (λ (e : TypeId × X). term_of e.0) (p ∷ es)) z) (sym ((found_by_term (identity_of t) p.0).0 h) ∙ term_of_identity t)
    (contains_head (term_of p.0) (map (λ (e : TypeId × X). term_of e.0) es))
looked_at {X} p es t d false h e f = contains_tail (term_of p.0) (map (λ (e : TypeId × X). term_of e.0) es) t (f e)

looked_up :
    {X : Type 0} (es : List (TypeId × X)) (t : Term) (d : X)
    → lookup (is_at (ghosts.cmp (identity_of t))) es ≡ Some d → Contains (map (λ e. term_of e.0) es) t
looked_up [] t d e = absurd (none-some d e)
looked_up (p ∷ es) t d e = looked_at p es t d (is_at (ghosts.cmp (identity_of t)) p.0) refl e (λ f. looked_up es t d f)

-- a term weighs nothing, or it is one of the catalogue's
pub light_or_in : (c : Catalogue) (t : Term) → (weight (catalogue_system c) t ≡ 0) ⊎ Contains (terms_in c) t
light_or_in c t = by (described c t) refl
  where
    by : (o : Option MetaDescription) → described c t ≡ o → (weight (catalogue_system c) t ≡ 0) ⊎ Contains (terms_in c) t
    by None e = inl (ap (λ o. weight_in (option_map catalogue_entry o)) e)
    by (Some d) e = inr (looked_up c.entries.entries t d e)

-- the work that is left: what the nodes of the catalogue weigh, but for those that are numbered, and what is pending
abbrev pub work_left : Catalogue → List Term → ℕ → ℕ
work_left c order pending = (sum_by (weight (catalogue_system c)) (terms_in c) - sum_by (weight (catalogue_system c)) order) + pending

-- numbering a pending term leaves less work, though its references become pending
pub adds_less :
    (c : Catalogue) (order : List Term) (n : Term) (d : Entry Shape Term) (rest : ℕ) → AreDistinct (order ++ n ∷ []) → catalogue_system c n ≡ Some d
    → work_left c (order ++ n ∷ []) (length d.refs + rest) < work_left c order (suc rest)
adds_less c order n d rest distinct s =
    let w = weight (catalogue_system c) in
    let heavy : w n ≡ length d.refs + 1 = ap (λ o. weight_in o) s in
    let grown : sum_by w (order ++ n ∷ []) ≡ sum_by w order + w n = sum_by_push w order n in
    let room : sum_by w (order ++ n ∷ []) ≤ sum_by w (terms_in c) = distinct_sums w (order ++ n ∷ []) (terms_in c) distinct (λ k _. light_or_in c k) in
    omega arith
