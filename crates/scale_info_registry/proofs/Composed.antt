-- One registration after another.
use Rattle.std.proofs.Common.{◌≡◌, ℕ, List, [], ◌∷◌, ◌++◌, length, Some, slice_get, map, option_map}
use Rattle.std.proofs.Common.{flat_map}
use Rattle.std.proofs.Common.{refl, ap, sym, ◌∙◌, subst, arith, Contains, inl, inr, append_assoc}
use Rattle.std.proofs.Common.{append-nil, take, drop, ◌-◌}
use Rattle.std.proofs.lemmas.Bool.{cases_lt}
use Rattle.std.proofs.lemmas.Grind.{flat_map-append}
use Rattle.std.proofs.lemmas.List.{length-map, length-drop, map-append, take-append-drop, take_all}
use Rattle.std.proofs.lemmas.List.Elements.{Contains-append_left, Contains-append_right}
use Rattle.std.proofs.lemmas.Option.{slice_get-map}
use Rattle.std.specs.Iterator.{Yields}
use Rattle.std.specs.List.{AllZip}
use Rattle.std.specs.Vec.Iter.{into_iter_items, into_iter_steps}
use Rattle.std.specs.declared.vec.IntoIter.{IntoIter}
use Rattle.scale_info_types.specs.Portable as portable
use Rattle.scale_info_types.specs.Shapes.{Shape}
use Rattle.scale_info_identities.specs.TypeIds.{Term, term_of}
use Rattle.scale_info_types.specs.declared.meta_type.MetaType.{MetaType}
use Rattle.scale_info_numberings.specs.Systems.{System, Grows, IsFirstOutside, IsReachedPast, root, next}
use Rattle.scale_info_numberings.proofs.FirstOutside.{first_after, first_of_more}
use Rattle.scale_info_numberings.specs.Numberings.{IsNumbering}
use Rattle.scale_info_numberings.specs.Tables.{ArePlaces, IsTable}
use Rattle.scale_info_numberings.proofs.Extensions.{extension_grows, numbering_of_extension}
use Rattle.std.proofs.Common.{zero-le}
use Rattle.scale_info_numberings.proofs.ExtensionOfExtension.{extension_composes}
use Rattle.scale_info_numberings.proofs.Reached.{extension_holds}
use Rattle.scale_info_numberings.proofs.Zip.{zip_weaker}
use Rattle.scale_info_numberings.proofs.Places.{at_left, begins_at, begins_from, contains_at}
use Rattle.scale_info_numberings.proofs.PlacesOf.{places_in_more}
use Rattle.scale_info_catalogue.specs.declared.discovery.RegisterError.{RegisterError}
use Rattle.scale_info_catalogue.specs.declared.discovery.RegisterError.TheVariants.{Undescribed}
use Rattle.scale_info_catalogue.specs.declared.discovery.RegisterError.TheVariants.{Full, Memory}
use Rattle.scale_info_references.specs.Conversions.{ids_in}
use Rattle.scale_info_catalogue.specs.Discoveries.{nodes_of, roots_of}
use Rattle.scale_info_registry.specs.Registrations.{portable_entry, Registered, registered}
use Rattle.scale_info_catalogue.specs.Discoveries.{IsCause}
use Rattle.scale_info_registry.specs.Registrations.{IsRegistration, IsConverted}
use Rattle.scale_info_types.specs.MetaDescriptions.{type_term}
use Rattle.scale_info_catalogue.proofs.Terms.{length_nodes}
use Rattle.scale_info_interner.specs.Interned as interned
use Rattle.scale_info_identities.specs.contracts.type_id.TypeIdPartialEq.TheImpl.{ghosts as equals}
use Rattle.scale_info_registry.proofs.Registered.{registers_known, registers_nothing}

joined_more :
    {A : Type 0} (xs ys zs : List A) → (more : List A) × (ys ≡ xs ++ more) → (more : List A) × (zs ≡ ys ++ more)
    → (more : List A) × (zs ≡ xs ++ more)
joined_more xs ys zs m n = (m.0 ++ n.0, n.1 ∙ ap (λ ws. ws ++ n.0) m.1 ∙ append_assoc xs m.0 n.0)

-- two registrations, one after the other, are one of the roots of both, in order
pub registrations_compose :
    (S : System Shape Term) (a b c : Registered) (R Q : List Term) → IsRegistration S a R b → IsRegistration S b Q c → IsRegistration S a (R ++ Q) c
registrations_compose S a b c R Q x y =
    record {
      nodes = extension_composes S (nodes_of a.identities) R (nodes_of b.identities) Q (nodes_of c.identities) x.nodes y.nodes;
      identities = joined_more a.identities b.identities c.identities x.identities y.identities;
      types = joined_more a.types b.types c.types x.types y.types;
      entries = λ i n h e.
          let l = length_nodes b.identities in
          elim (cases_lt i (length b.identities)) [
            | inl low ↦
                let was = begins_from (nodes_of b.identities) (nodes_of c.identities) y.nodes.1.begins i n (omega arith) e in
                let k = x.entries i n h was in (
                  k.0,
                  k.1,
                  k.2,
                  subst (λ ts. slice_get ts i ≡ Some k.1) (sym y.types.1) (at_left b.types y.types.0 i k.1 k.3),
                  k.4,
                  places_in_more (nodes_of b.identities) (nodes_of c.identities) (begins_at (nodes_of b.identities) (nodes_of c.identities) y.nodes.1.begins) k.0.refs (ids_in k.1) k.5,
                )
            | inr high ↦ y.entries i n high e
          ];
    }

-- what is converted in a registry is still so after one more registration
pub converted_stays :
    {X O : Type 0} (replaced : X → List ℕ → O → Type 0) (S : System Shape Term) (b c : Registered) (roots Q : List Term) (value : X) (output : O)
    → IsRegistration S b Q c → IsConverted replaced roots b value output → IsConverted replaced roots c value output
converted_stays replaced S b c roots Q value output y k =
    (k.0, places_in_more (nodes_of b.identities) (nodes_of c.identities) (begins_at (nodes_of b.identities) (nodes_of c.identities) y.nodes.1.begins) roots k.0 k.1, k.2)

-- two lists related to two others are so one after the other
pub zip_append :
    {A B : Type 0} (P : A → B → Type 0) (xs more : List A) (ys rest : List B) → AllZip P xs ys → AllZip P more rest
    → AllZip P (xs ++ more) (ys ++ rest)
zip_append P [] more [] rest z w = w
zip_append P [] more (b ∷ ys) rest z w = absurd z
zip_append P (a ∷ xs) more [] rest z w = absurd z
zip_append P (a ∷ xs) more (b ∷ ys) rest z w = (z.0, zip_append P xs more ys rest z.1 w)

-- one more element at the end of each
pub zip_push :
    {A B : Type 0} (P : A → B → Type 0) (xs : List A) (ys : List B) (x : A) (y : B) → AllZip P xs ys → P x y
    → AllZip P (xs ++ x ∷ []) (ys ++ y ∷ [])
zip_push P xs ys x y z p = zip_append P xs (x ∷ []) ys (y ∷ []) z (p, tt)

-- where an element is appended, its list is appended to the joined lists
pub flat_map_push :
    {X A : Type 0} (f : X → List A) (xs : List X) (x : X) → flat_map f (xs ++ x ∷ []) ≡ flat_map f xs ++ f x
flat_map_push f xs x = flat_map-append f xs (x ∷ []) ∙ ap (λ ys. flat_map f xs ++ ys) (append-nil (f x))

module _ {X O : Type 0} (roots : X → List Term) (replaced : X → List ℕ → O → Type 0) (S : System Shape Term) where
  -- one more value
  pub one_more :
      (a b c : Registered) (xs : List X) (os new : List O) (x : X) (o : O) → new ≡ os ++ o ∷ []
      → IsRegistration S a (flat_map roots xs) b → AllZip (λ x o. IsConverted replaced (roots x) b x o) xs os
      → IsRegistration S b (roots x) c → IsConverted replaced (roots x) c x o
      → IsRegistration S a (flat_map roots (xs ++ x ∷ [])) c × AllZip (λ x o. IsConverted replaced (roots x) c x o) (xs ++ x ∷ []) new
  one_more a b c xs os new x o e before zip now k = (
    subst (λ rs. IsRegistration S a rs c) (sym (flat_map_push roots xs x)) (registrations_compose S a b c (flat_map roots xs) (roots x) before now),
    subst (λ (all : List O). AllZip (λ x o. IsConverted replaced (roots x) c x o) (xs ++ x ∷ []) all) (sym e)
        (zip_push (λ x o. IsConverted replaced (roots x) c x o) xs os x o
        (zip_weaker (λ x o. IsConverted replaced (roots x) b x o) (λ x o. IsConverted replaced (roots x) c x o) xs os
        (λ x o _ _ p. converted_stays replaced S b c (roots x) _ x o now p) zip) k),
  )

-- what is reached past more, from fewer roots, is reached past less, from more
reached_before :
    (S : System Shape Term) (K L Q R : List Term) → ((n : Term) → Contains K n → Contains L n) → ((n : Term) → Contains Q n → Contains R n)
    → (n : Term) → IsReachedPast S L Q n → IsReachedPast S K R n
reached_before S K L Q R f g n (root m c u) = root m (g m c) (λ k. u (f m k))
reached_before S K L Q R f g n (next m p d h s c u) = next m p d (reached_before S K L Q R f g m h) s c (λ k. u (f p k))

-- the cause of a later refusal, targets from the start
pub cause_before :
    (S : System Shape Term) (a b : Registered) (done Q left all : List Term) (e : RegisterError) → IsRegistration S a done b
    → all ≡ done ++ (Q ++ left)
    → IsCause S (nodes_of b.identities) Q e → IsCause S (nodes_of a.identities) all e
cause_before S a b done Q left all e x parts = by e
  where
    f : (n : Term) → Contains done n → Contains all n
    f n k = subst (λ (ys : List Term). Contains ys n) (sym parts) (Contains-append_left done (Q ++ left) n k)

    g : (n : Term) → Contains Q n → Contains all n
    g n k =
        subst (λ (ys : List Term). Contains ys n) (sym parts)
        (Contains-append_right done (Q ++ left) n (Contains-append_left Q left n k))

    old : (n : Term) → Contains (nodes_of a.identities) n → Contains (nodes_of b.identities) n
    old n k = (extension_holds S (nodes_of a.identities) done (nodes_of b.identities) x.nodes n).1 (inl k)

    by : (e : RegisterError) → IsCause S (nodes_of b.identities) Q e → IsCause S (nodes_of a.identities) all e
    by Memory c = tt
    by (Undescribed id) c = (
      subst (λ rs. IsFirstOutside S (nodes_of a.identities) rs (term_of id)) (sym parts)
          (first_after S (nodes_of a.identities) done (nodes_of b.identities) (Q ++ left) (term_of id) x.nodes
          (first_of_more S (nodes_of b.identities) Q left (term_of id) c.0)),
      c.1,
    )
    by Full c = (
      c.0,
      c.1,
      λ i d h.
          elim (c.2 i d h) [
            | inl k ↦
                elim ((extension_holds S (nodes_of a.identities) done (nodes_of b.identities) x.nodes _).0 k) [
                  | inl o ↦ inl o
                  | inr r ↦ inr (reached_before S (nodes_of a.identities) (nodes_of a.identities) done all (λ _ z. z) f _ r)
                ]
            | inr r ↦ inr (reached_before S (nodes_of a.identities) (nodes_of b.identities) Q all old g _ r)
          ],
      c.3,
    )

-- what the iterator of a vector has given is a prefix of its items
pub taken_front :
    {X A : Type 0} (s : IntoIter X A) (xs : List X) (t : IntoIter X A) → Yields into_iter_steps s xs t
    → into_iter_items s ≡ xs ++ into_iter_items t
taken_front s [] t y = ap into_iter_items y
taken_front s (x ∷ xs) t y = y.1.0 ∙ ap (λ ys. x ∷ ys) (taken_front y.0 xs t y.2)

-- the roots of all values are those of the values so far, those of the next value, and the others
pub roots_so_far : {X : Type 0} (f : X → List Term) (all xs rest : List X) (x : X) → all ≡ xs ++ x ∷ rest
    → flat_map f all ≡ flat_map f xs ++ (f x ++ flat_map f rest)
roots_so_far f all xs rest x e = ap (flat_map f) e ∙ flat_map-append f xs (x ∷ rest)

-- a registration over a system is one over each system that grows it
pub registration_grows :
    (S T : System Shape Term) (a b : Registered) (R : List Term) → Grows S T → IsRegistration S a R b
    → IsRegistration T a R b
registration_grows S T a b R g x =
    record {
      nodes = extension_grows S T (nodes_of a.identities) R (nodes_of b.identities) g x.nodes;
      identities = x.identities;
      types = x.types;
      entries = λ i n h e. let k = x.entries i n h e in (k.0, k.1, g n k.0 k.2, k.3, k.4, k.5);
    }

-- two registrations, the second over a grown system, are one over that system
pub registrations_compose_grown :
    (S T : System Shape Term) (a b c : Registered) (R Q : List Term) → Grows S T → IsRegistration S a R b → IsRegistration T b Q c → IsRegistration T a (R ++ Q) c
registrations_compose_grown S T a b c R Q g x y = registrations_compose T a b c R Q (registration_grows S T a b R g x) y

-- a registration in an empty registry gives a numbering from the roots, and its table
pub registered_afresh :
    (S : System Shape Term) (R : List Term) (r : Registered) → IsRegistration S (registered [] []) R r → length r.types ≡ length r.identities
    → IsNumbering S R (nodes_of r.identities) × IsTable S (nodes_of r.identities) (map portable_entry r.types)
registered_afresh S R r x long = (
  numbering_of_extension S R (nodes_of r.identities) x.nodes,
  record {
    long = length-map r.types portable_entry ∙ (long ∙ sym (length_nodes r.identities));
    entries = λ i n e. let k = x.entries i n zero-le e in (k.0, portable_entry k.1, k.2, slice_get-map portable_entry r.types i ∙ ap (option_map portable_entry) k.3, k.4, k.5);
  },
)

-- the symbols of types are their places
pub symbols_are_indices :
    (L : List Term) (r : Registered) (tys : List MetaType) (symbols : List portable.Id) → L ≡ nodes_of r.identities
    → AllZip (λ ty symbol. IsConverted (λ _ ids symbol. ids ≡ symbol.id ∷ []) (type_term ty ∷ []) r ty symbol) tys symbols
    → ArePlaces L (map type_term tys) (map (λ (s : portable.Id). s.id) symbols)
symbols_are_indices L r [] [] e z = tt
symbols_are_indices L r [] (s ∷ symbols) e z = absurd z
symbols_are_indices L r (ty ∷ tys) [] e z = absurd z
symbols_are_indices L r (ty ∷ tys) (s ∷ symbols) e z =
    let k = subst (λ ids. ArePlaces (nodes_of r.identities) (type_term ty ∷ []) ids) z.0.2 z.0.1 in
    (subst (λ (M : List Term). slice_get M s.id ≡ Some (type_term ty)) (sym e) k.0, symbols_are_indices L r tys symbols e z.1)

-- the roots of types, each with its own term alone, are the types' terms, in order
pub roots_alone : (tys : List MetaType) → flat_map (λ ty. type_term ty ∷ []) tys ≡ map type_term tys
roots_alone [] = refl
roots_alone (ty ∷ tys) = ap (λ ns. type_term ty ∷ ns) (roots_alone tys)

-- as many elements as there are past the first k are all of these
pub take_rest : {A : Type 0} (xs : List A) (k : ℕ) → take (length xs - k) (drop k xs) ≡ drop k xs
take_rest xs k = let long = length-drop k xs in take_all (length xs - k) (drop k xs) (omega (arith, long))

-- the roots of all types are those of the first k, and those of the rest
pub roots_split :
    (all : List MetaType) (k : ℕ) → roots_of all ≡ roots_of (take k all) ++ roots_of (drop k all)
roots_split all k =
    ap roots_of (sym (take-append-drop k all)) ∙ map-append type_term (take k all) (drop k all)

-- the first k of some types are known in a registry, at the places `ids`
pub record FirstKnown (old : Registered) (all : List MetaType) (k : ℕ) (ids : List ℕ) : Type 0 where
  pub distinct : interned.AreDistinctBy equals.eq old.identities
  pub places : ArePlaces (nodes_of old.identities) (roots_of (take k all)) ids

-- so they are in the same registry, by the same number
pub first_known :
    (inside old : Registered) (all : List MetaType) (n k : ℕ) (ids : List ℕ) → inside ≡ old → k ≡ n
    → interned.AreDistinctBy equals.eq inside.identities
    → ArePlaces (nodes_of inside.identities) (roots_of (take n all)) ids
    → FirstKnown old all k ids
first_known inside old all n k ids same long distinct places =
    subst (λ v. FirstKnown v all k ids) same (record {
      distinct = distinct;
      places = subst (λ m. ArePlaces (nodes_of inside.identities) (roots_of (take m all)) ids) (sym long) places;
    })

module _ (S : System Shape Term) (old : Registered) (distinct : interned.AreDistinctBy equals.eq old.identities) where
  -- known types, registered, change nothing
  pub registers_all_known :
      (tys : List MetaType) (ids : List ℕ) → ArePlaces (nodes_of old.identities) (roots_of tys) ids
      → IsRegistration S old (roots_of tys) old
  registers_all_known [] ids z = registers_nothing S old distinct
  registers_all_known (ty ∷ tys) [] z = absurd z
  registers_all_known (ty ∷ tys) (i ∷ ids) z =
      registrations_compose S old old old (type_term ty ∷ []) (roots_of tys)
      (registers_known S old ty.identity distinct (contains_at (nodes_of old.identities) (type_term ty) i z.0))
      (registers_all_known tys ids z.1)

module _ (S : System Shape Term) (old : Registered) (all : List MetaType) (k : ℕ) (ids : List ℕ) (known : FirstKnown old all k ids) where
  -- the first k types, registered, change nothing
  first_registered : IsRegistration S old (roots_of (take k all)) old
  first_registered = registers_all_known S old known.distinct (take k all) ids known.places

  -- a registration of the rest is one of all
  pub rest_registered :
      (new : Registered) (more : List ℕ)
      → IsRegistration S old (roots_of (drop k all)) new
      → ArePlaces (nodes_of new.identities) (roots_of (drop k all)) more
      → IsRegistration S old (roots_of all) new × ArePlaces (nodes_of new.identities) (roots_of all) (ids ++ more)
  rest_registered new more now rest =
      let split = sym (roots_split all k) in
      let L = nodes_of new.identities in
      let kept = places_in_more (nodes_of old.identities) L (begins_at (nodes_of old.identities) L now.nodes.1.begins) (roots_of (take k all)) ids known.places in (
        subst (λ rs. IsRegistration S old rs new) split
            (registrations_compose S old old new (roots_of (take k all)) (roots_of (drop k all)) first_registered now),
        subst (λ rs. ArePlaces L rs (ids ++ more)) split
            (zip_append (λ n p. slice_get L p ≡ Some n) (roots_of (take k all)) (roots_of (drop k all)) ids more kept rest),
      )

  -- the cause of a refusal of the rest is one of all
  pub rest_cause :
      (e : RegisterError)
      → IsCause S (nodes_of old.identities) (roots_of (drop k all)) e
      → IsCause S (nodes_of old.identities) (roots_of all) e
  rest_cause e cause =
      cause_before S old old (roots_of (take k all)) (roots_of (drop k all)) [] (roots_of all) e
      first_registered
      (roots_split all k ∙ ap (λ rs. roots_of (take k all) ++ rs) (sym (append-nil (roots_of (drop k all)))))
      cause
