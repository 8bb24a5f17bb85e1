-- What a registration has done, once all new identities are described.
use Rattle.std.specs.List.{AllZip}
use Rattle.std.proofs.Common.{drop, take, ◌≡◌, ℕ, zero, suc, ◌+◌, ◌<◌, ◌≤◌, List, [], ◌∷◌, ◌++◌}
use Rattle.std.proofs.Common.{length, Option}
use Rattle.std.proofs.Common.{Some, None, option_map, slice_get, map, refl, ap, sym, ◌∙◌, subst}
use Rattle.std.proofs.Common.{arith}
use Rattle.std.proofs.Common.{Contains, inl, inr, length-append, Bor}
use Rattle.std.specs.declared.result.Result.{Result}
use Rattle.std.specs.declared.result.Result.TheVariants.{Ok, Err}
use Rattle.std.specs.Result.{OnErr}
use Rattle.std.proofs.lemmas.Bool.{cases_lt}
use Rattle.std.proofs.lemmas.List.{length_push}
use Rattle.std.proofs.lemmas.Option.{same_Some, none-some, slice_get_within}
use Rattle.scale_info_types.specs.Portable as portable
use Rattle.scale_info_interner.specs.Interned as interned
use Rattle.scale_info_types.specs.References.{references}
use Rattle.scale_info_types.specs.Shapes.{Shape}
use Rattle.scale_info_identities.specs.TypeIds.{Term, term_of}
use Rattle.scale_info_types.specs.declared.meta_type.MetaType.{MetaType}
use Rattle.scale_info_identities.specs.declared.type_id.TypeId.{TypeId}
use Rattle.scale_info_identities.specs.contracts.type_id.TypeIdPartialEq.TheImpl.{ghosts as equals}
use Rattle.scale_info_numberings.specs.Systems.{Entry, System}
use Rattle.scale_info_numberings.specs.Extensions.{IsExtension}
use Rattle.scale_info_numberings.specs.Tables.{ArePlaces}
use Rattle.scale_info_numberings.proofs.Places.{contains_at, contains_head, contains_tail}
use Rattle.scale_info_numberings.proofs.Places.{from_left, at_left, at_seam}
use Rattle.scale_info_numberings.proofs.PlacesOf.{places_below}
use Rattle.scale_info_numberings.proofs.FirstReference.{extends_by_known, extends_by_none}
use Rattle.std.proofs.Common.{append-nil}
use Rattle.scale_info_numberings.proofs.Walking.{walk_members}
use Rattle.scale_info_catalogue.specs.declared.catalogue.Catalogue.{Catalogue}
use Rattle.scale_info_types.specs.MetaDescriptions.{MetaDescription, type_term}
use Rattle.scale_info_catalogue.specs.Catalogues.{described}
use Rattle.scale_info_catalogue.specs.CatalogueSystems.{catalogue_entry, catalogue_system}
use Rattle.scale_info_catalogue.specs.Discoveries.{nodes_of, roots_of}
use Rattle.scale_info_registry.specs.Registrations.{index_in, Registered}
use Rattle.scale_info_registry.specs.Registrations.{registered, IsClosedRegistry, IsRegistration}
use Rattle.scale_info_registry.specs.Registrations.{AreDescribed, Keeps}
use Rattle.scale_info_references.specs.Conversions.{ids_in, with_ids}
use Rattle.scale_info_registry.proofs.Numbered.{index_is}
use Rattle.scale_info_references.proofs.Replaced.{shape_stays, ids_replaced}
use Rattle.scale_info_catalogue.proofs.Terms.{at_node, distinct_nodes, from_node, known}
use Rattle.scale_info_catalogue.proofs.Terms.{known_by_term, length_nodes}

some_inside : {A B : Type 0} (f : A → B) (o : Option A) (b : B) → option_map f o ≡ Some b → (a : A) × (o ≡ Some a)
some_inside f None b e = absurd (none-some b e)
some_inside f (Some a) b e = (a, refl)

-- each identity that an extension adds has a description in the catalogue
pub all_described :
    (c : Catalogue) (old new : List TypeId) (roots : List Term) (from : ℕ) → from ≡ length old → IsExtension (catalogue_system c) (nodes_of old) roots (nodes_of new)
    → (i : ℕ) (id : TypeId) → from ≤ i → slice_get new i ≡ Some id
    → (d : MetaDescription) × (described c (term_of id) ≡ Some d)
all_described c old new roots from f x i id h e =
    let l = length_nodes old in
    let d = x.1.nodes i (term_of id) (omega arith) (at_node new i id e) in
    some_inside catalogue_entry (described c (term_of id)) d.0 d.1

-- descriptions, and that of the next identity, are those of their identities
pub described_more :
    (c : Catalogue) (ids : List TypeId) (from : ℕ) (types : List portable.Description) (id : TypeId) (d : MetaDescription) (ty : portable.Description)
    → slice_get ids (length types) ≡ Some id → described c (term_of id) ≡ Some d
    → ty ≡ with_ids (λ ty. index_in equals.eq ids ty.identity) (λ text. text.now) d
    → AreDescribed c ids from types → AreDescribed c ids from (types ++ ty ∷ [])
described_more c ids from types id d ty e s t f i other h b g =
    let long = length_push types ty in
    elim (cases_lt i (length types)) [
      | inl low ↦ let r = f i other h low g in (r.0, r.1, at_left types (ty ∷ []) i _ r.2)
      | inr high ↦
          let here : i ≡ length types = omega arith in
          let same : id ≡ other = same_Some id other (sym e ∙ (ap (λ k. slice_get ids k) (sym here) ∙ g)) in
          (d, ap (λ z. described c (term_of z)) (sym same) ∙ s, ap (λ k. slice_get (types ++ ty ∷ []) k) here ∙ (at_seam types [] ty ∙ ap Some t))
    ]

-- what is paired with an element of the second of two lists
pub paired_at :
    {A B : Type 0} (R : A → B → Type 0) (xs : List A) (ys : List B) (i : ℕ) (y : B) → AllZip R xs ys
    → slice_get ys i ≡ Some y → (x : A) × (slice_get xs i ≡ Some x) × R x y
paired_at R [] [] i y all e = cc
paired_at R [] (b ∷ ys) i y all e = absurd all
paired_at R (a ∷ xs) [] i y all e = absurd all
paired_at R (a ∷ xs) (b ∷ ys) zero y all e = (a, refl, subst (R a) (same_Some b y e) all.0)
paired_at R (a ∷ xs) (b ∷ ys) (suc i) y all e = paired_at R xs ys i y all.1 e

-- two lists that are paired are of one length
pub paired_length :
    {A B : Type 0} (R : A → B → Type 0) (xs : List A) (ys : List B) → AllZip R xs ys
    → length ys ≡ length xs
paired_length R [] [] all = refl
paired_length R [] (b ∷ ys) all = absurd all
paired_length R (a ∷ xs) [] all = absurd all
paired_length R (a ∷ xs) (b ∷ ys) all = ap suc (paired_length R xs ys all.1)

-- an element past the first n
pub past_at :
    {A : Type 0} (xs : List A) (n i k : ℕ) → k ≡ n + i
    → slice_get (drop n xs) i ≡ slice_get xs k
past_at xs zero i k e =
    let same : i ≡ k = omega (arith, e) in ap (λ j. slice_get xs j) same
past_at [] (suc n) i k e = refl
past_at (x ∷ xs) (suc n) i zero e = absurd (omega (arith, e))
past_at (x ∷ xs) (suc n) i (suc k) e = past_at xs n i k (omega (arith, e))

-- the ids of known types are their places
pub places :
    (ids : List TypeId) (rs : List MetaType) → ((n : Term) → Contains (roots_of rs) n → Contains (nodes_of ids) n)
    → ArePlaces (nodes_of ids) (roots_of rs) (map (λ ty. index_in equals.eq ids ty.identity) rs)
places ids [] f = tt
places ids (r ∷ rs) f = (
  (known_by_term ids r.identity (index_in equals.eq ids r.identity)).0
      (index_is ids r.identity ((known ids r.identity).1 (f (type_term r) (contains_head (type_term r) (roots_of rs))))),
  places ids rs (λ n k. f n (contains_tail (type_term r) (roots_of rs) n k)),
)

-- an extension that keeps what was there, with its new identities described, is a registration
pub is_registration :
    (c : Catalogue) (old new : List TypeId) (roots : List Term) (before after : List portable.Description)
    → length before ≡ length old → length after ≡ length new
    → (more : List TypeId) × (new ≡ old ++ more) → (more : List portable.Description) × (after ≡ before ++ more)
    → IsExtension (catalogue_system c) (nodes_of old) roots (nodes_of new) → AreDescribed c new (length before) after
    → IsRegistration (catalogue_system c) (registered old before) roots (registered new after)
is_registration c old new roots before after long all kept kept_types x described =
    record {
      nodes = x;
      identities = kept;
      types = kept_types;
      entries = λ i n h e.
          let at = from_node new i n e in
          let l = length_nodes old in
          let within : i < length new = slice_get_within new i at.0 at.1 in
          let d = described i at.0 (omega arith) (omega arith) at.1 in
          let ty = with_ids (λ ty. index_in equals.eq new ty.identity) (λ text. text.now) d.0 in
          let node : catalogue_system c n ≡ Some (catalogue_entry d.0) = ap (λ t. catalogue_system c t) (sym at.2) ∙ ap (option_map catalogue_entry) d.1 in
          let walked = x.1.nodes i n (omega arith) e in
          let same : walked.0 ≡ catalogue_entry d.0 = same_Some walked.0 (catalogue_entry d.0) (sym walked.1 ∙ node) in
          let members : (m : Term) → Contains (roots_of (references d.0)) m → Contains (nodes_of new) m =
          λ m k.
          let p = walk_members (nodes_of new) x.0 walked.0.refs (i + 1) (x.0 i) walked.2 m (subst (λ (z : Entry Shape Term). Contains z.refs m) (sym same) k) in
          contains_at (nodes_of new) m p.0 p.1 in (
            catalogue_entry d.0,
            ty,
            node,
            d.2,
            shape_stays (λ ty. index_in equals.eq new ty.identity) (λ text. text.now) d.0,
            subst (λ ps. ArePlaces (nodes_of new) (roots_of (references d.0)) ps)
                (sym (ids_replaced (λ ty. index_in equals.eq new ty.identity) (λ (text : Bor (List ℕ)). text.now) d.0)) (places new (references d.0) members),
          );
    }

-- a registration leaves a closed registry
pub stays_closed :
    (S : System Shape Term) (old new : Registered) (roots : List Term) → IsClosedRegistry old
    → length new.types ≡ length new.identities → IsRegistration S old roots new → IsClosedRegistry new
stays_closed S old new roots closed long x = (
  long,
  λ i ty e p k.
      let grown : length new.identities ≡ length old.identities + length x.identities.0 = ap (λ (xs : List TypeId). length xs) x.identities.1 ∙ length-append old.identities x.identities.0 in
      elim (cases_lt i (length old.types)) [
        | inl low ↦
            let was : slice_get old.types i ≡ Some ty = from_left old.types x.types.0 i ty low (subst (λ ts. slice_get ts i ≡ Some ty) x.types.1 e) in
            let b = closed.1 i ty was p k in omega arith
        | inr high ↦
            let within : i < length new.types = slice_get_within new.types i ty e in
            let eq_long = closed.0 in
            let l = length_nodes new.identities in
            let n = element (nodes_of new.identities) i (omega arith) in
            let at = x.entries i n.0 (omega arith) n.1 in
            let same : at.1 ≡ ty = same_Some at.1 ty (sym at.3 ∙ e) in
            let b = places_below (nodes_of new.identities) at.0.refs (ids_in at.1) at.5 p (subst (λ t. Contains (ids_in t) p) (sym same) k) in
            omega arith
      ],
)
  where
    element : (xs : List Term) (i : ℕ) → i < length xs → (n : Term) × (slice_get xs i ≡ Some n)
    element [] i h = absurd (omega arith)
    element (x ∷ xs) zero h = (x, refl)
    element (x ∷ xs) (suc i) h = element xs i (omega arith)

-- what is cut back is what was there
pub cut_back :
    {A : Type 0} (old new cut : List A) (k : ℕ) → (more : List A) × (new ≡ old ++ more) → k ≡ length old
    → cut ≡ take k new → cut ≡ old
cut_back old new cut k m l e = e ∙ (λ i. take (l i) (m.1 i)) ∙ take_at old m.0
  where
    take_at : {A : Type 0} (xs ys : List A) → take (length xs) (xs ++ ys) ≡ xs
    take_at [] ys = refl
    take_at (x ∷ xs) ys = ap (λ zs. x ∷ zs) (take_at xs ys)

module _ (ids new_ids cut_ids : List TypeId) (types new_types cut_types : List portable.Description) (k : ℕ) (long : k ≡ length types)
    (closed : IsClosedRegistry (registered ids types)) (kept_ids : cut_ids ≡ take k new_ids) (kept_types : cut_types ≡ take k new_types) where
  -- a registry that has grown is what it was once it is cut back to its old length
  pub cut_parts :
      (more : List TypeId) × (new_ids ≡ ids ++ more) → (more : List portable.Description) × (new_types ≡ types ++ more)
      → registered cut_ids cut_types ≡ registered ids types
  cut_parts m n i = registered (cut_back ids new_ids cut_ids k m (long ∙ closed.0) kept_ids i) (cut_back types new_types cut_types k n long kept_types i)

  -- so it is closed, if it was
  pub cut_closed :
      (more : List TypeId) × (new_ids ≡ ids ++ more) → (more : List portable.Description) × (new_types ≡ types ++ more)
      → IsClosedRegistry (registered cut_ids cut_types)
  cut_closed m n = subst (λ r. IsClosedRegistry r) (sym (cut_parts m n)) closed

  module _ (old new : Registered) (before : registered ids types ≡ old) (after : registered new_ids new_types ≡ new) (kept : Keeps old new) where
    grown : Keeps (registered ids types) (registered new_ids new_types)
    grown = subst (λ r. Keeps r (registered new_ids new_types)) (sym before) (subst (λ s. Keeps old s) (sym after) kept)

    -- the same, where registries are targets as values
    pub cut_same : registered cut_ids cut_types ≡ old
    cut_same = cut_parts grown.0 grown.1 ∙ before

    -- it is closed, if it was
    pub cut_kept : IsClosedRegistry (registered cut_ids cut_types)
    cut_kept = cut_closed grown.0 grown.1

-- a known node changes nothing
pub registers_known :
    (S : System Shape Term) (r : Registered) (id : TypeId) → interned.AreDistinctBy equals.eq r.identities → Contains (nodes_of r.identities) (term_of id)
    → IsRegistration S r (term_of id ∷ []) r
registers_known S r id distinct k =
    record {
      nodes = extends_by_known S (nodes_of r.identities) (term_of id) (distinct_nodes r.identities distinct) k;
      identities = ([], sym (append-nil r.identities));
      types = ([], sym (append-nil r.types));
      entries = λ i n h e. absurd (let w = slice_get_within (nodes_of r.identities) i n e in let l = length_nodes r.identities in omega arith);
    }

-- what no look-up finds is not known
pub unknown :
    (r s : Registered) (id : TypeId) → r ≡ s → ¬ (interned.IsKnown equals.eq r.identities id)
    → ¬ (Contains (nodes_of s.identities) (term_of id))
unknown r s id e u k = u ((known r.identities id).1 (subst (λ z. Contains (nodes_of z.identities) (term_of id)) (sym e) k))

-- a registered type has a place
pub root_index :
    (S : System Shape Term) (old new : Registered) (id : TypeId) → IsRegistration S old (term_of id ∷ []) new
    → slice_get (nodes_of new.identities) (index_in equals.eq new.identities id) ≡ Some (term_of id)
root_index S old new id x =
    let p = walk_members (nodes_of new.identities) x.nodes.0 (term_of id ∷ []) (length (nodes_of old.identities)) (length (nodes_of new.identities)) x.nodes.1.from_roots (term_of id) (contains_head (term_of id) []) in
    (known_by_term new.identities id (index_in equals.eq new.identities id)).0
    (index_is new.identities id ((known new.identities id).1 (contains_at (nodes_of new.identities) (term_of id) p.0 p.1)))

-- nothing is registered
pub registers_nothing :
    (S : System Shape Term) (r : Registered) → interned.AreDistinctBy equals.eq r.identities
    → IsRegistration S r [] r
registers_nothing S r distinct =
    record {
      nodes = extends_by_none S (nodes_of r.identities) (distinct_nodes r.identities distinct);
      identities = ([], sym (append-nil r.identities));
      types = ([], sym (append-nil r.types));
      entries = λ i n h e. absurd (let w = slice_get_within (nodes_of r.identities) i n e in let l = length_nodes r.identities in omega arith);
    }

-- the ids of what has been registered are its places
pub root_indices :
    (S : System Shape Term) (old new : Registered) (rs : List MetaType) → IsRegistration S old (roots_of rs) new
    → ArePlaces (nodes_of new.identities) (roots_of rs) (map (λ ty. index_in equals.eq new.identities ty.identity) rs)
root_indices S old new rs x =
    places new.identities rs (λ n k.
    let p = walk_members (nodes_of new.identities) x.nodes.0 (roots_of rs) (length (nodes_of old.identities)) (length (nodes_of new.identities)) x.nodes.1.from_roots n k in
    contains_at (nodes_of new.identities) n p.0 p.1)

-- a registration keeps what was there
pub keeps :
    (S : System Shape Term) (old new : Registered) (roots : List Term) → IsRegistration S old roots new
    → Keeps old new
keeps S old new roots x = (x.identities, x.types)

-- a registry that stays the same keeps what was there
pub keeps_itself : (old new : Registered) → new ≡ old → Keeps old new
keeps_itself old new e =
    subst (λ r. Keeps old r) (sym e) (([], sym (append-nil old.identities)), ([], sym (append-nil old.types)))

-- what holds anyway holds on an error
pub on_err : {T E P : Type 0} (r : Result T E) → P → OnErr r P
on_err (Ok x) p = tt
on_err (Err e) p = p
