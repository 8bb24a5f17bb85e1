-- Shape and references together fix the contents of a description.
use Rattle.std.proofs.Common.{◌≡◌, ◌↔◌, ℕ, List, [], ◌∷◌, ◌++◌, map, Option, Some, None, option_map}
use Rattle.std.proofs.Common.{refl, ap, append_assoc}
use Rattle.std.proofs.lemmas.List.{append-nil, map-append}
use Rattle.std.specs.List.{flat_map}
use Rattle.std.specs.Option.{option_to_list}
use Rattle.scale_info_types.specs.declared.ty.TypeDef.TheVariants as def
use Rattle.scale_info_types.specs.declared.ty.Description.{Description}
use Rattle.scale_info_types.specs.References.{field_references, definition_references}
use Rattle.scale_info_types.specs.References.{parameter_references, references}
use Rattle.scale_info_types.specs.Shapes.{map_parameter, map_field, map_variant, map_definition}
use Rattle.scale_info_types.specs.Shapes.{shape, content}
use Rattle.scale_info_types.proofs.Injective.{part_in}

-- two values of one shape agree: the references of the one, read by f, and those of the other, read
-- by g, with anything after them, are equal exactly where the values so read and what comes after are
abbrev pub Agree :
    {A B C T R : Type 0}
    → (T → R) → (T → R) → (A → B) → ((T → R) → A → C) → ((T → R) → A → List R) → Type 0
Agree {A} {B} {C} {T} {R} f g short full refs =
    (a b : A) (x y : List R)
    → ((short a ≡ short b) × (refs f a ++ x ≡ refs g b ++ y)) ↔ ((full f a ≡ full g b) × (x ≡ y))

-- lists, whose references are those of the items, joined
module _ {A B C T R : Type 0} (f g : T → R) (short : A → B) (full : (T → R) → A → C)
    (refs : (T → R) → A → List R) (all : (T → R) → List A → List R)
    (none : (r : T → R) → all r [] ≡ [])
    (more : (r : T → R) (p : A) (ps : List A) → all r (p ∷ ps) ≡ refs r p ++ all r ps)
    (law : Agree f g short full refs) where
  -- if the elements agree, so do lists of them
  pub agree_list : Agree f g (map short) (λ r. map (full r)) all
  agree_list [] [] x y = rw (none f, none g) ((λ h. (refl, h.1)), (λ h. (refl, h.1)))
  agree_list [] (q ∷ qs) x y = ((λ h. cc), (λ h. cc))
  agree_list (p ∷ ps) [] x y = ((λ h. cc), (λ h. cc))
  agree_list (p ∷ ps) (q ∷ qs) x y =
      let rest = agree_list ps qs x y in
      let first = law p q (all f ps ++ x) (all g qs ++ y) in
      rw (more f p ps, more g q qs, append_assoc (refs f p) (all f ps) x, append_assoc (refs g q) (all g qs) y) (
        (λ h.
            let e : short p ≡ short q = cc in
            let es : map short ps ≡ map short qs = cc in
            let s = first.0 (e, h.1) in
            let r = rest.0 (es, s.1) in
            (λ i. s.0 i ∷ r.0 i, r.1)),
        (λ h.
            let e : full f p ≡ full g q = cc in
            let es : map (full f) ps ≡ map (full g) qs = cc in
            let r = rest.1 (es, h.1) in
            let s = first.1 (e, r.1) in
            (λ i. s.0 i ∷ r.0 i, s.1)),
      )

-- a larger value with one part that has references
agree_inside :
    {P Q B C X Y : Type 0} {p p' : P} {q q' : Q} (short : P → B) (full : Q → C)
    → (short p ≡ short p' → p ≡ p')
    → (full q ≡ full q' → q ≡ q')
    → ((p ≡ p') × X) ↔ ((q ≡ q') × Y)
    → ((short p ≡ short p') × X) ↔ ((full q ≡ full q') × Y)
agree_inside short full open_short open_full law = (
  (λ h. let e = law.0 (open_short h.0, h.1) in (ap full e.0, e.1)),
  (λ h. let e = law.1 (open_full h.0, h.1) in (ap short e.0, e.1)),
)

-- where nothing comes after
pub agree_whole :
    {A B C T R : Type 0} (f g : T → R) (short : A → B) (full : (T → R) → A → C) (refs : (T → R) → A → List R)
    → Agree f g short full refs
    → (a b : A) → ((short a ≡ short b) × (refs f a ≡ refs g b)) ↔ (full f a ≡ full g b)
agree_whole f g short full refs law a b =
    let h = rw (append-nil (refs f a), append-nil (refs g b)) at (law a b [] []) in
    ((λ e. (h.0 e).0), (λ e. h.1 (e, refl)))

module _ {T R : Type 0} (f g : T → R) where
  agree_type : Agree {B = Unit {0}} f g (λ t. tt) (λ r. r) (λ r t. r t ∷ [])
  agree_type a b x y =
      ((λ h. let e : f a ≡ g b = cc in let es : x ≡ y = cc in (e, es)), (λ h. (refl, λ i. h.0 i ∷ h.1 i)))

  -- two types, one after the other
  agree_two :
      {B C : Type 0} {s : B} (make : R → R → C) (p q p' q' : T) (x y : List R)
      → (make (f p) (f q) ≡ make (g p') (g q') → (f p ≡ g p') × (f q ≡ g q'))
      → ((s ≡ s) × (f p ∷ f q ∷ x ≡ g p' ∷ g q' ∷ y)) ↔ ((make (f p) (f q) ≡ make (g p') (g q')) × (x ≡ y))
  agree_two make p q p' q' x y parts = (
    (λ h.
        let first : f p ≡ g p' = cc in
        let second : f q ≡ g q' = cc in
        let rest : x ≡ y = cc in
        (λ i. make (first i) (second i), rest)),
    (λ h. let e = parts h.0 in (refl, λ i. e.0 i ∷ e.1 i ∷ h.1 i)),
  )

  agree_option :
      Agree {B = Option (Unit {0})} f g (option_map (λ t. tt)) (λ r. option_map r) (λ r t. map r (option_to_list t))
  agree_option None None x y = ((λ h. (refl, h.1)), (λ h. (refl, h.1)))
  agree_option None (Some b) x y = ((λ h. cc), (λ h. cc))
  agree_option (Some a) None x y = ((λ h. cc), (λ h. cc))
  agree_option (Some a) (Some b) x y = (
    (λ h. let e : f a ≡ g b = cc in let es : x ≡ y = cc in (ap Some e, es)),
    (λ h. let e : f a ≡ g b = cc in (refl, λ i. e i ∷ h.1 i)),
  )

  agree_types : Agree {B = List (Unit {0})} f g (map (λ t. tt)) (λ r. map r) (λ r. map r)
  agree_types = agree_list f g _ (λ r. r) (λ r t. r t ∷ []) (λ r. map r) (λ r. refl) (λ r t ts. refl) agree_type

module _ {F T S R : Type 0} (f g : T → R) (text : S → List ℕ) where
  agree_parameter :
      Agree f g (map_parameter {F = F} {G = Unit {0}} {U = Unit {0}} (λ t. tt) text)
      (λ r. map_parameter {G = Unit {0}} r text) (λ r p. map r (option_to_list p.ty))
  agree_parameter a b x y =
      let law = agree_option f g a.ty b.ty x y in (
        (λ h.
            let e = law.0 (ap (λ p. p.ty) h.0, h.1) in
            (λ i. record { name = (h.0 i).name; ty = e.0 i }, e.1)),
        (λ h.
            let e = law.1 (ap (λ p. p.ty) h.0, h.1) in
            (λ i. record { name = (h.0 i).name; ty = e.0 i }, e.1)),
      )

  agree_field :
      Agree f g (map_field {F = F} {G = Unit {0}} {U = Unit {0}} (λ t. tt) text)
      (λ r. map_field {G = Unit {0}} r text) (λ r p. r p.ty ∷ [])
  agree_field a b x y =
      let law = agree_type f g a.ty b.ty x y in (
        (λ h.
            let e = law.0 (refl, h.1) in
            (λ i. record { name = (h.0 i).name; ty = e.0 i; type_name = (h.0 i).type_name; docs = (h.0 i).docs }, e.1)),
        (λ h.
            (λ i. record { name = (h.0 i).name; ty = tt; type_name = (h.0 i).type_name; docs = (h.0 i).docs }, (law.1 (ap (λ p. p.ty) h.0, h.1)).1)),
      )

  agree_fields :
      Agree f g (map (map_field {F = F} {G = Unit {0}} {U = Unit {0}} (λ t. tt) text))
      (λ r. map (map_field {G = Unit {0}} r text)) (λ r fs. map r (field_references fs))
  agree_fields =
      agree_list f g _ (λ r. map_field {G = Unit {0}} r text) (λ r p. r p.ty ∷ [])
      (λ r fs. map r (field_references fs)) (λ r. refl) (λ r p ps. refl) agree_field

  agree_variant :
      Agree f g (map_variant {F = F} {G = Unit {0}} {U = Unit {0}} (λ t. tt) text)
      (λ r. map_variant {G = Unit {0}} r text) (λ r v. map r (field_references v.fields))
  agree_variant a b x y =
      let law = agree_fields a.fields b.fields x y in (
        (λ h.
            let e = law.0 (ap (λ v. v.fields) h.0, h.1) in
            (λ i. record { name = (h.0 i).name; fields = e.0 i; index = (h.0 i).index; docs = (h.0 i).docs }, e.1)),
        (λ h.
            let e = law.1 (ap (λ v. v.fields) h.0, h.1) in
            (λ i. record { name = (h.0 i).name; fields = e.0 i; index = (h.0 i).index; docs = (h.0 i).docs }, e.1)),
      )

  agree_variants :
      Agree f g (map (map_variant {F = F} {G = Unit {0}} {U = Unit {0}} (λ t. tt) text))
      (λ r. map (map_variant {G = Unit {0}} r text)) (λ r vs. map r (flat_map (λ v. field_references v.fields) vs))
  agree_variants =
      agree_list f g _ (λ r. map_variant {G = Unit {0}} r text) (λ r v. map r (field_references v.fields))
      (λ r vs. map r (flat_map (λ v. field_references v.fields) vs)) (λ r. refl)
      (λ r v vs. map-append r (field_references v.fields) (flat_map (λ w. field_references w.fields) vs)) agree_variant

  agree_parameters :
      Agree f g (map (map_parameter {F = F} {G = Unit {0}} {U = Unit {0}} (λ t. tt) text))
      (λ r. map (map_parameter {G = Unit {0}} r text)) (λ r ps. map r (parameter_references ps))
  agree_parameters =
      agree_list f g _ (λ r. map_parameter {G = Unit {0}} r text) (λ r p. map r (option_to_list p.ty))
      (λ r ps. map r (parameter_references ps)) (λ r. refl)
      (λ r p ps. map-append r (option_to_list p.ty) (parameter_references ps)) agree_parameter

  agree_definition :
      Agree f g (map_definition {F = F} {G = Unit {0}} {U = Unit {0}} (λ t. tt) text)
      (λ r. map_definition {G = Unit {0}} r text) (λ r d. map r (definition_references d))
  agree_definition (def.Composite a) (def.Composite b) x y =
      agree_inside (λ p. def.Composite (record { fields = p })) (λ p. def.Composite (record { fields = p }))
      (part_in def.Composite (λ d. d.fields) (λ a b e. cc)) (part_in def.Composite (λ d. d.fields) (λ a b e. cc))
      (agree_fields a.fields b.fields x y)
  agree_definition (def.Variant a) (def.Variant b) x y =
      agree_inside (λ p. def.Variant (record { variants = p })) (λ p. def.Variant (record { variants = p }))
      (part_in def.Variant (λ d. d.variants) (λ a b e. cc)) (part_in def.Variant (λ d. d.variants) (λ a b e. cc))
      (agree_variants a.variants b.variants x y)
  agree_definition (def.Sequence a) (def.Sequence b) x y =
      agree_inside (λ p. def.Sequence (record { type_param = p; form = tt })) (λ p. def.Sequence (record { type_param = p; form = tt }))
      (part_in def.Sequence (λ d. d.type_param) (λ a b e. cc)) (part_in def.Sequence (λ d. d.type_param) (λ a b e. cc))
      (agree_type f g a.type_param b.type_param x y)
  agree_definition (def.Array a) (def.Array b) x y =
      let law = agree_type f g a.type_param b.type_param x y in (
        (λ h.
            let len = part_in def.Array (λ d. d.len) (λ a b e. cc) h.0 in
            let e = law.0 (refl, h.1) in
            (λ i. def.Array (record { len = len i; type_param = e.0 i; form = tt }), e.1)),
        (λ h.
            let len = part_in def.Array (λ d. d.len) (λ a b e. cc) h.0 in
            let ty = part_in def.Array (λ d. d.type_param) (λ a b e. cc) h.0 in
            (λ i. def.Array (record { len = len i; type_param = tt; form = tt }), (law.1 (ty, h.1)).1)),
      )
  agree_definition (def.Tuple a) (def.Tuple b) x y =
      agree_inside (λ p. def.Tuple (record { fields = p; form = tt })) (λ p. def.Tuple (record { fields = p; form = tt }))
      (part_in def.Tuple (λ d. d.fields) (λ a b e. cc)) (part_in def.Tuple (λ d. d.fields) (λ a b e. cc))
      (agree_types f g a.fields b.fields x y)
  agree_definition (def.Primitive a) (def.Primitive b) x y =
      ((λ h. let e : a ≡ b = cc in (ap def.Primitive e, h.1)), (λ h. let e : a ≡ b = cc in (ap def.Primitive e, h.1)))
  agree_definition (def.Compact a) (def.Compact b) x y =
      agree_inside (λ p. def.Compact (record { type_param = p; form = tt })) (λ p. def.Compact (record { type_param = p; form = tt }))
      (part_in def.Compact (λ d. d.type_param) (λ a b e. cc)) (part_in def.Compact (λ d. d.type_param) (λ a b e. cc))
      (agree_type f g a.type_param b.type_param x y)
  agree_definition (def.BitSequence a) (def.BitSequence b) x y =
      agree_two f g (λ p q. def.BitSequence (record { bit_store_type = p; bit_order_type = q; form = tt })) a.bit_store_type a.bit_order_type b.bit_store_type b.bit_order_type x y
      (λ e. (part_in def.BitSequence (λ d. d.bit_store_type) (λ a b e. cc) e, part_in def.BitSequence (λ d. d.bit_order_type) (λ a b e. cc) e))
  agree_definition (def.Map a) (def.Map b) x y =
      agree_two f g (λ p q. def.Map (record { key = p; value = q; form = tt })) a.key a.value b.key b.value x y
      (λ e. (part_in def.Map (λ d. d.key) (λ a b e. cc) e, part_in def.Map (λ d. d.value) (λ a b e. cc) e))
  agree_definition a b x y = ((λ h. cc), (λ h. cc))

  -- the shape of a description and the readings of its references give its content, and come from
  -- it; the references of the two descriptions may be read in two ways
  pub shape_and_references :
      (a b : Description F T S)
      → (content f text a ≡ content g text b)
      ↔ ((shape text a ≡ shape text b) × (map f (references a) ≡ map g (references b)))
  shape_and_references a b =
      let params =
      agree_parameters a.type_params b.type_params
      (map f (definition_references a.type_def)) (map g (definition_references b.type_def)) in
      let definitions =
      agree_whole f g (map_definition (λ t. tt) text) (λ r. map_definition r text)
      (λ r d. map r (definition_references d)) agree_definition a.type_def b.type_def
      in
      rw (
        map-append f (parameter_references a.type_params) (definition_references a.type_def),
        map-append g (parameter_references b.type_params) (definition_references b.type_def),
      ) (
        (λ e.
            let d = definitions.1 (ap (λ t. t.type_def) e) in
            let p = params.1 (ap (λ t. t.type_params) e, d.1) in
            (λ i. record { path = record { segments = (e i).path.segments; form = tt }; type_params = p.0 i; type_def = d.0 i; docs = (e i).docs }, p.1)),
        (λ h.
            let p = params.0 (ap (λ t. t.type_params) h.0, h.1) in
            let d = definitions.0 (ap (λ t. t.type_def) h.0, p.1) in
            λ i. record { path = record { segments = (h.0 i).path.segments; form = tt }; type_params = p.0 i; type_def = d i; docs = (h.0 i).docs }),
      )
