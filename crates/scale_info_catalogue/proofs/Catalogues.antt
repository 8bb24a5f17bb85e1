-- Identities with one term are one key of a catalogue.
use Rattle.std.proofs.Common.{◌≡◌, ◌↔◌, ◌∙◌, Bool, true, false, IsTrue, List, [], ◌∷◌, Some}
use Rattle.std.proofs.Common.{None, ap, length, option_map, refl, suc, sym}
use Rattle.std.proofs.lemmas.Option.{none-some, same_Some}
use Rattle.std.specs.BTreeMap.{get, is_at, IsUnchanged, Updates}
use Rattle.std.specs.Map.{lookup}
use Rattle.std.specs.Ordering.{is_eq}
use Rattle.scale_info_identities.specs.TypeIdLaws.{same_type_ids, term_of_roll}
use Rattle.scale_info_identities.specs.TypeIds.{Term, Terms, term, no_terms, more_terms, term_of}
use Rattle.scale_info_identities.specs.TypeIds.{terms_of}
use Rattle.scale_info_identities.specs.contracts.type_id.TypeIdOrd.TheImpl.{ghosts}
use Rattle.scale_info_identities.specs.contracts.type_id.TypeIdOrd.TheImpl.Laws.{matches_eq-law}
use Rattle.scale_info_identities.specs.declared.type_id.TypeId.{TypeId}
use Rattle.scale_info_catalogue.specs.Catalogues.{AreSame, HasOneMore, HasOther, contents_of}
use Rattle.scale_info_catalogue.specs.Catalogues.{described}
use Rattle.scale_info_catalogue.specs.Catalogues.{identities_of, identity_of, size}
use Rattle.scale_info_types.specs.MetaDescriptions.{MetaDescription, meta_content}
use Rattle.scale_info_catalogue.specs.declared.catalogue.Catalogue.{Catalogue}

mutual
  unfolding identity_of

  -- the identity of a term has the term
  pub term_of_identity : (t : Term) → term_of (identity_of t) ≡ t
  term_of_identity (term head nums args) =
      term_of_roll _ ∙ ap (λ ts. term head nums ts) (terms_of_identities args)

  terms_of_identities : (ts : Terms) → terms_of (identities_of ts) ≡ ts
  terms_of_identities no_terms = refl
  terms_of_identities (more_terms t ts) =
      λ i. more_terms (term_of_identity t i) (terms_of_identities ts i)

-- a comparison finds exactly the identities with the same term
pub found_by_term : (a b : TypeId) → IsTrue (is_eq (ghosts.cmp a b)) ↔ (term_of a ≡ term_of b)
found_by_term a b = rw (← matches_eq-law a b) (same_type_ids a b)

both_true : (p q : Bool) → (IsTrue p ↔ IsTrue q) → p ≡ q
both_true true true h = refl
both_true false false h = refl
both_true true false h = sym (h.0 refl)
both_true false true h = h.1 refl

not_true : (p : Bool) → (IsTrue p → ⊥) → p ≡ false
not_true true h = absurd (h refl)
not_true false h = refl

same_test :
    (a b k : TypeId) → term_of a ≡ term_of b → is_at (ghosts.cmp a) k ≡ is_at (ghosts.cmp b) k
same_test a b k e =
    both_true (is_eq (ghosts.cmp a k)) (is_eq (ghosts.cmp b k)) (
      (λ h. (found_by_term b k).1 (sym e ∙ (found_by_term a k).0 h)),
      (λ h. (found_by_term a k).1 (e ∙ (found_by_term b k).0 h)),
    )

lookup_same :
    {X : Type 0} (es : List (TypeId × X)) (a b : TypeId) → term_of a ≡ term_of b
    → lookup (is_at (ghosts.cmp a)) es ≡ lookup (is_at (ghosts.cmp b)) es
lookup_same [] a b e = refl
lookup_same (p ∷ es) a b e = rw (same_test a b p.0 e, lookup_same es a b e) refl

-- what is found under an identity is the description of its term
pub described_by_term :
    (c : Catalogue) (id : TypeId) → get ghosts.cmp c.entries id ≡ described c (term_of id)
described_by_term c id =
    lookup_same c.entries.entries id (identity_of (term_of id)) (sym (term_of_identity (term_of id)))

-- the contents of what is found under an identity are those of its term
pub contents_by_term :
    (c : Catalogue) (id : TypeId)
    → option_map meta_content (get ghosts.cmp c.entries id) ≡ contents_of c (term_of id)
contents_by_term c id = ap (option_map meta_content) (described_by_term c id)

-- where nothing is found under an identity, its term has no contents
pub no_contents :
    (c : Catalogue) (id : TypeId) → get ghosts.cmp c.entries id ≡ None
    → contents_of c (term_of id) ≡ None
no_contents c id none = sym (contents_by_term c id) ∙ ap (option_map meta_content) none

-- the contents of what is found under an identity
pub found_contents :
    (c : Catalogue) (id : TypeId) (d : MetaDescription)
    → get ghosts.cmp c.entries id ≡ Some d → contents_of c (term_of id) ≡ Some (meta_content d)
found_contents c id d found = sym (contents_by_term c id) ∙ ap (option_map meta_content) found

-- where nothing is found, there are neither these contents nor others
pub nothing_there :
    (c : Catalogue) (id : TypeId) (d : MetaDescription) → get ghosts.cmp c.entries id ≡ None
    → (contents_of c (term_of id) ≡ Some (meta_content d) → ⊥)
    × (HasOther c (term_of id) (meta_content d) → ⊥)
nothing_there c id d none = (
  (λ there. none-some (meta_content d) (sym (no_contents c id none) ∙ there)),
  (λ other. none-some other.known (sym (no_contents c id none) ∙ other.there)),
)

-- where a description of these contents is found, there are no others
pub same_there :
    (c : Catalogue) (id : TypeId) (d known : MetaDescription)
    → get ghosts.cmp c.entries id ≡ Some known → meta_content known ≡ meta_content d
    → (contents_of c (term_of id) ≡ Some (meta_content d))
    × (HasOther c (term_of id) (meta_content d) → ⊥)
same_there c id d known found same =
    let there = found_contents c id known found ∙ ap Some same in (
      there,
      (λ other. other.apart (same_Some _ _ (sym other.there ∙ there))),
    )

-- where a description of other contents is found, there are others, and not these
pub other_there :
    (c : Catalogue) (id : TypeId) (d known : MetaDescription)
    → get ghosts.cmp c.entries id ≡ Some known → (meta_content known ≡ meta_content d → ⊥)
    → (contents_of c (term_of id) ≡ Some (meta_content d) → ⊥)
    × HasOther c (term_of id) (meta_content d)
other_there c id d known found apart = (
  (λ there. apart (same_Some _ _ (sym (found_contents c id known found) ∙ there))),
  record {
    known = meta_content known;
    there = found_contents c id known found;
    apart = apart;
  },
)

-- a catalogue whose map is unchanged is the same
pub same_catalogue :
    (old new : Catalogue) → IsUnchanged old.entries new.entries → AreSame old new
same_catalogue old new e =
    record {
      descriptions = λ t. ap (λ es. lookup (is_at (ghosts.cmp (identity_of t))) es) e;
      count = ap (λ es. length es) e;
    }

-- an insertion under a new identity adds its pair and nothing else
pub one_more :
    (old new : Catalogue) (id : TypeId) (d : MetaDescription) → described old (term_of id) ≡ None
    → Updates ghosts.cmp old.entries new.entries id (Some d) → size new ≡ suc (size old)
    → HasOneMore old new (term_of id) d
one_more old new id d absent updates count =
    record {
      absent = absent;
      there = sym (described_by_term new id) ∙ updates.1;
      others =
          λ other apart.
          updates.2 (identity_of other)
          (not_true (is_eq (ghosts.cmp id (identity_of other)))
          (λ h. apart (sym (term_of_identity other) ∙ sym ((found_by_term id (identity_of other)).0 h))));
      count = count;
    }
