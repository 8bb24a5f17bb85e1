-- A walk over the catalogue, step by step.
use Rattle.std.proofs.Common.{◌≡◌, suc, ◌+◌, ◌<◌, List, [], ◌∷◌, ◌++◌, length, Some, None}
use Rattle.std.proofs.Common.{option_map, map, reverse, refl, ap, sym, ◌∙◌, subst, arith, Contains}
use Rattle.std.proofs.Common.{append_assoc, append-nil, length-append, Bor}
use Rattle.std.proofs.lemmas.List.{map-append, reverse-append, length_push, length-map}
use Rattle.std.proofs.lemmas.List.{length-reverse}
use Rattle.std.proofs.lemmas.List.Elements.{Contains-get_or}
use Rattle.std.specs.List.{AllZip}
use Rattle.scale_info_numberings.specs.Systems.{IsFirstOutside, here}
use Rattle.scale_info_numberings.specs.Numberings.{AreDistinct}
use Rattle.scale_info_numberings.specs.Extensions.{IsExtension}
use Rattle.scale_info_interner.specs.Interned.{IsKnown, IsNew}
use Rattle.scale_info_types.specs.References.{references}
use Rattle.scale_info_identities.specs.TypeIds.{Term, term_of}
use Rattle.scale_info_types.specs.declared.meta_type.MetaType.{MetaType}
use Rattle.scale_info_identities.specs.declared.type_id.TypeId.{TypeId}
use Rattle.scale_info_identities.specs.contracts.type_id.TypeIdPartialEq.TheImpl.{ghosts as equals}
use Rattle.scale_info_types.specs.MetaDescriptions.{MetaDescription, type_term}
use Rattle.scale_info_catalogue.specs.CatalogueSystems.{catalogue_entry, catalogue_system}
use Rattle.scale_info_catalogue.specs.Catalogues.{described}
use Rattle.scale_info_catalogue.specs.Discoveries.{nodes_of, roots_of, stacked, IsCause}
use Rattle.scale_info_catalogue.specs.Discoveries.{IsNumberError, AreFound}
use Rattle.scale_info_catalogue.specs.declared.catalogue.Catalogue.{Catalogue}
use Rattle.scale_info_catalogue.specs.declared.discovery.RegisterError.{RegisterError}
use Rattle.scale_info_catalogue.specs.declared.discovery.RegisterError.TheVariants.{Full, Memory}
use Rattle.scale_info_catalogue.specs.declared.discovery.RegisterError.TheVariants.{Undescribed}
use Rattle.scale_info_references.specs.Gathered.{targets}
use Rattle.scale_info_catalogue.proofs.Terms.{known, length_nodes}
use Rattle.scale_info_numberings.proofs.WorkLists.{IsWalking, walk_adds, walk_passes}
use Rattle.scale_info_numberings.proofs.WorkLists.{walk_ends}
use Rattle.scale_info_numberings.proofs.WorkLists.{kept_below, distinct_push}
use Rattle.scale_info_catalogue.proofs.CatalogueWeights.{work_left, adds_less}

-- the terms on a stack are that of its top, then those of the rest
pub stacked_pop : (ss : List (Bor MetaType)) (r : Bor MetaType) → stacked (ss ++ r ∷ []) ≡ type_term r.now ∷ stacked ss
stacked_pop ss r = ap (map (λ (r : Bor MetaType). type_term r.now)) (reverse-append ss (r ∷ []))

map_targets :
    (found : List (Bor MetaType)) → map (λ (r : Bor MetaType). type_term r.now) found ≡ roots_of (targets found)
map_targets [] = refl
map_targets (r ∷ found) = ap (λ xs. type_term r.now ∷ xs) (map_targets found)

-- where a description's references are pushed, their terms come first, then those pending
pub stacked_more :
    (all found pending : List (Bor MetaType)) (d : MetaDescription) → reverse all ≡ found ++ reverse pending → targets found ≡ references d
    → stacked all ≡ (catalogue_entry d).refs ++ stacked pending
stacked_more all found pending d e s =
    ap (map (λ (r : Bor MetaType). type_term r.now)) e ∙ map-append (λ (r : Bor MetaType). type_term r.now) found (reverse pending)
    ∙ ap (λ xs. xs ++ stacked pending) (map_targets found ∙ ap roots_of s)

-- where a description's references are pushed, the stack grows by their number
pub length_more :
    (all found pending : List (Bor MetaType)) (d : MetaDescription) → reverse all ≡ found ++ reverse pending → targets found ≡ references d
    → length all ≡ length (catalogue_entry d).refs + length pending
length_more all found pending d e s =
    sym (length-stacked all) ∙ ap (λ (xs : List Term). length xs) (stacked_more all found pending d e s)
    ∙ (length-append (catalogue_entry d).refs (stacked pending) ∙ ap (λ n. length (catalogue_entry d).refs + n) (length-stacked pending))
  where
    length-stacked : (ss : List (Bor MetaType)) → length (stacked ss) ≡ length ss
    length-stacked ss = length-map (reverse ss) (λ (r : Bor MetaType). type_term r.now) ∙ length-reverse ss

-- where an identity is appended, its term is the last
pub nodes_push :
    (ids more : List TypeId) (id : TypeId) → more ≡ ids ++ id ∷ [] → nodes_of more ≡ nodes_of ids ++ term_of id ∷ []
nodes_push ids more id e = ap nodes_of e ∙ map-append term_of ids (id ∷ [])

-- identities that begin with earlier ones still do, once one more is appended
pub kept_more :
    (before ids new : List TypeId) (id : TypeId) → (more : List TypeId) × (ids ≡ before ++ more)
    → new ≡ ids ++ id ∷ [] → (more : List TypeId) × (new ≡ before ++ more)
kept_more before ids new id m e = (m.0 ++ id ∷ [], e ∙ ap (λ xs. xs ++ id ∷ []) m.1 ∙ append_assoc before m.0 (id ∷ []))

zip_push :
    {A B : Type 0} (R : A → B → Type 0) (xs : List A) (ys : List B) (x : A) (y : B) → AllZip R xs ys
    → R x y → AllZip R (xs ++ x ∷ []) (ys ++ y ∷ [])
zip_push R [] [] x y all r = (r, tt)
zip_push R [] (b ∷ ys) x y all r = absurd all
zip_push R (a ∷ xs) [] x y all r = absurd all
zip_push R (a ∷ xs) (b ∷ ys) x y all r = (all.0, zip_push R xs ys x y all.1 r)

-- one more description, of an identity put at the end
pub found_more :
    (c : Catalogue) (before ids new : List TypeId) (id : TypeId) (found all : List (Bor MetaDescription))
    (d : Bor MetaDescription) → described c (term_of id) ≡ Some d.now
    → new ≡ ids ++ id ∷ [] → all ≡ found ++ d ∷ []
    → (more : List TypeId) × (ids ≡ before ++ more) × AreFound c more found
    → (more : List TypeId) × (new ≡ before ++ more) × AreFound c more all
found_more c before ids new id found all d s e p (more, is, zip) = (
  more ++ id ∷ [],
  e ∙ ap (λ xs. xs ++ id ∷ []) is ∙ append_assoc before more (id ∷ []),
  subst (λ xs. AreFound c (more ++ id ∷ []) xs) (sym p)
      (zip_push (λ i r. described c (term_of i) ≡ Some r.now) more found id d zip s),
)

module _ (c : Catalogue) (before : List TypeId) (roots : List (Bor MetaType)) where
  abbrev Walking : List TypeId → List (Bor MetaType) → Type 0
  Walking ids pending = IsWalking (catalogue_system c) (nodes_of before) (stacked roots) (nodes_of ids) (stacked pending)

  shown :
      (ids : List TypeId) (pending ss : List (Bor MetaType)) (r : Bor MetaType) → pending ≡ ss ++ r ∷ []
      → Walking ids pending
      → IsWalking (catalogue_system c) (nodes_of before) (stacked roots) (nodes_of ids) (type_term r.now ∷ stacked ss)
  shown ids pending ss r p x =
      subst (λ xs. IsWalking (catalogue_system c) (nodes_of before) (stacked roots) (nodes_of ids) xs) (ap stacked p ∙ stacked_pop ss r) x

  -- a type on top of the stack whose identity is known is passed over
  pub passes :
      (ids : List TypeId) (pending ss : List (Bor MetaType)) (r : Bor MetaType) (id : TypeId)
      → pending ≡ ss ++ r ∷ [] → id ≡ r.now.identity
      → IsKnown equals.eq ids id → Walking ids pending → Walking ids ss
  passes ids pending ss r id p e k x =
      walk_passes (catalogue_system c) (nodes_of before) (stacked roots) (nodes_of ids) (stacked ss) (type_term r.now)
      (subst (λ i. Contains (nodes_of ids) (term_of i)) e ((known ids id).0 k)) (shown ids pending ss r p x)

  fresh :
      (ids : List TypeId) (r : Bor MetaType) (id : TypeId) → id ≡ r.now.identity → IsNew equals.eq ids id
      → ¬ (Contains (nodes_of ids) (type_term r.now))
  fresh ids r id e u k = u ((known ids id).1 (subst (λ i. Contains (nodes_of ids) (term_of i)) (sym e) k))

  -- a type on top of the stack whose identity is not known and has no description is the first such
  -- that is met from the roots
  pub meets :
      (ids : List TypeId) (pending ss : List (Bor MetaType)) (r : Bor MetaType) (id : TypeId)
      → pending ≡ ss ++ r ∷ [] → id ≡ r.now.identity
      → IsNew equals.eq ids id → described c (term_of id) ≡ None → Walking ids pending
      → IsFirstOutside (catalogue_system c) (nodes_of before) (stacked roots) (term_of id)
  meets ids pending ss r id p e u s x =
      let none : catalogue_system c (type_term r.now) ≡ None =
      ap (λ i. catalogue_system c (term_of i)) (sym e) ∙ ap (option_map catalogue_entry) s in
      subst (λ i. IsFirstOutside (catalogue_system c) (nodes_of before) (stacked roots) (term_of i)) (sym e)
      ((shown ids pending ss r p x).first (type_term r.now)
      (here (nodes_of ids) (stacked ss) (type_term r.now) (fresh ids r id e u) none))

  -- an unknown identity is appended, and what its description refers to is pushed
  pub adds :
      (ids more : List TypeId) (pending ss all found : List (Bor MetaType)) (r : Bor MetaType) (id : TypeId) (d : MetaDescription)
      → pending ≡ ss ++ r ∷ [] → id ≡ r.now.identity → IsNew equals.eq ids id
      → described c (term_of id) ≡ Some d → more ≡ ids ++ id ∷ []
      → reverse all ≡ found ++ reverse ss → targets found ≡ references d → Walking ids pending → Walking more all
  adds ids more pending ss all found r id d p e u s m a f x =
      let here : catalogue_system c (type_term r.now) ≡ Some (catalogue_entry d) = ap (λ i. catalogue_system c (term_of i)) (sym e) ∙ ap (option_map catalogue_entry) s in
      let y =
      walk_adds (catalogue_system c) (nodes_of before) (stacked roots) (nodes_of ids) (stacked ss) (type_term r.now) (catalogue_entry d) (fresh ids r id e u) here
      (shown ids pending ss r p x)
      in
      subst (λ xs. IsWalking (catalogue_system c) (nodes_of before) (stacked roots) (nodes_of more) xs) (sym (stacked_more all found ss d a f))
      (subst (λ xs. IsWalking (catalogue_system c) (nodes_of before) (stacked roots) xs ((catalogue_entry d).refs ++ stacked ss))
      (sym (nodes_push ids more id m ∙ ap (λ i. nodes_of ids ++ term_of i ∷ []) e)) y)

  -- appending an identity and pushing what its description refers to leaves less work
  pub shrinks :
      (ids more : List TypeId) (pending ss all found : List (Bor MetaType)) (r : Bor MetaType) (id : TypeId) (d : MetaDescription)
      → pending ≡ ss ++ r ∷ [] → described c (term_of id) ≡ Some d → more ≡ ids ++ id ∷ []
      → reverse all ≡ found ++ reverse ss → targets found ≡ references d → Walking more all
      → work_left c (nodes_of more) (length all) < work_left c (nodes_of ids) (length pending)
  shrinks ids more pending ss all found r id d p s m a f x =
      let here : catalogue_system c (term_of id) ≡ Some (catalogue_entry d) = ap (option_map catalogue_entry) s in
      let grown = nodes_push ids more id m in
      let less = adds_less c (nodes_of ids) (term_of id) (catalogue_entry d) (length ss) (subst (λ (xs : List Term). AreDistinct xs) grown x.distinct) here in
      let long : length pending ≡ suc (length ss) = ap (λ (xs : List (Bor MetaType)). length xs) p ∙ (length_push ss r ∙ omega arith) in
      subst (λ n. work_left c (nodes_of more) (length all) < work_left c (nodes_of ids) n) (sym long)
      (subst (λ n. work_left c (nodes_of more) n < work_left c (nodes_of ids) (suc (length ss))) (sym (length_more all found ss d a f))
      (subst (λ xs. work_left c xs (length (catalogue_entry d).refs + length ss) < work_left c (nodes_of ids) (suc (length ss))) (sym grown) less))

  -- with nothing on the stack, the identities extend the earlier ones by the roots
  pub ends :
      (ids : List TypeId) (pending : List (Bor MetaType)) → pending ≡ [] → Walking ids pending
      → IsExtension (catalogue_system c) (nodes_of before) (stacked roots) (nodes_of ids)
  ends ids pending e x =
      walk_ends (catalogue_system c) (nodes_of before) (stacked roots) (nodes_of ids)
      (subst (λ (ps : List (Bor MetaType)). IsWalking (catalogue_system c) (nodes_of before) (stacked roots) (nodes_of ids) (stacked ps)) e x)

  -- the identities and the new one are too many
  pub overflows :
      (ids : List TypeId) (pending ss : List (Bor MetaType)) (r : Bor MetaType) (id : TypeId)
      → pending ≡ ss ++ r ∷ [] → id ≡ r.now.identity
      → IsNew equals.eq ids id → length ids ≡ 4294967295 → Walking ids pending
      → IsCause (catalogue_system c) (nodes_of before) (stacked roots) Full
  overflows ids pending ss r id p e u l x =
      let new = fresh ids r id e u in
      let all = nodes_of ids ++ type_term r.now ∷ [] in (
        all,
        distinct_push (nodes_of ids) (type_term r.now) x.distinct new,
        λ k d h. kept_below (catalogue_system c) (nodes_of before) (stacked roots) (nodes_of ids) (stacked ss) (type_term r.now) new (shown ids pending ss r p x) _ (Contains-get_or all k d h),
        let long = length_push (nodes_of ids) (type_term r.now) in let same = length_nodes ids in omega arith,
      )

  -- why an identity on top of the stack gets no number is why the roots can't be registered
  pub fails :
      (ids : List TypeId) (pending ss : List (Bor MetaType)) (r : Bor MetaType) (id : TypeId) (e : RegisterError)
      → pending ≡ ss ++ r ∷ [] → id ≡ r.now.identity → IsNumberError c ids id e → Walking ids pending
      → IsCause (catalogue_system c) (nodes_of before) (stacked roots) e
  fails ids pending ss r id Memory p s h x = tt
  fails ids pending ss r id (Undescribed other) p s h x =
      subst (λ i. IsFirstOutside (catalogue_system c) (nodes_of before) (stacked roots) (term_of i) × (catalogue_system c (term_of i) ≡ None)) (sym h.0)
      (meets ids pending ss r id p s h.1 h.2 x, ap (option_map catalogue_entry) h.2)
  fails ids pending ss r id Full p s h x = overflows ids pending ss r id p s h.0 h.1 x

-- a stack of what a value holds
pub stacked_alone :
    (all found none : List (Bor MetaType)) (rs : List MetaType) → reverse all ≡ found ++ reverse none → none ≡ [] → targets found ≡ rs → stacked all ≡ roots_of rs
stacked_alone all found none rs e z s =
    ap (map (λ (r : Bor MetaType). type_term r.now)) (e ∙ ap (λ (xs : List (Bor MetaType)). found ++ reverse xs) z ∙ append-nil found) ∙ map_targets found ∙ ap roots_of s
