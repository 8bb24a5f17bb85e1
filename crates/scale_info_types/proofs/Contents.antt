-- Comparison part by part decides equality of contents.
use Rattle.std.proofs.Common.{◌≡◌, ◌↔◌, ◌&&◌, ◌==◌, ℕ, Bool, true, false, IsTrue, List, [], ◌∷◌}
use Rattle.std.proofs.Common.{map, Some, None, option_map, refl, ap, rules, arith}
use Rattle.std.proofs.lemmas.Grind.{common_steps}
use Rattle.std.specs.Option.{option_eq}
use lib.Pointwise.{pointwise}
use Rattle.scale_info_types.specs.declared.ty.path.Path.{Path}
use Rattle.scale_info_types.specs.declared.ty.fields.Field.{Field}
use Rattle.scale_info_types.specs.declared.ty.variant.Variant.{Variant}
use Rattle.scale_info_types.specs.declared.ty.TypeParameter.{TypeParameter}
use Rattle.scale_info_types.specs.Shapes.{map_path, map_parameter, map_field, map_variant}

-- eq decides whether two values have one content
abbrev pub Decides : {X Y : Type 0} → (X → X → Bool) → (X → Y) → Type 0
Decides {X} eq content = (a b : X) → IsTrue (eq a b) ↔ (content a ≡ content b)

-- if p decides A and q decides B, then both together decide both
pub and_same :
    {A B : Type 0} (p q : Bool)
    → (IsTrue p ↔ A) → (IsTrue q ↔ B) → IsTrue (p && q) ↔ (A × B)
and_same true q f g = ((λ h. (f.0 refl, g.0 h)), (λ x. g.1 x.1))
and_same false q f g = ((λ h. cc), (λ x. f.1 x.0))

-- a fact by another one that it is as good as
pub through : {A B C : Type 0} → (A ↔ B) → (B → C) → (C → B) → A ↔ C
through h to from = ((λ a. to (h.0 a)), (λ c. h.1 (from c)))

-- if eq decides equality of readings, element by element it decides that of lists
pub same_list :
    {X Y : Type 0} (eq : X → X → Bool) (read : X → Y)
    → Decides eq read → Decides (pointwise eq) (map read)
same_list eq read law [] [] = ((λ _. refl), (λ _. refl))
same_list eq read law [] (y ∷ ys) = ((λ h. cc), (λ h. cc))
same_list eq read law (x ∷ xs) [] = ((λ h. cc), (λ h. cc))
same_list eq read law (x ∷ xs) (y ∷ ys) =
    through (and_same _ _ (law x y) (same_list eq read law xs ys)) (λ e. λ i. e.0 i ∷ e.1 i)
    (λ e. let first : read x ≡ read y = cc in let rest : map read xs ≡ map read ys = cc in (first, rest))

-- if eq decides equality of readings, so it does under an option
pub same_option :
    {X Y : Type 0} (eq : X → X → Bool) (read : X → Y)
    → Decides eq read → Decides (option_eq eq) (option_map read)
same_option eq read law None None = ((λ _. refl), (λ _. refl))
same_option eq read law None (Some y) = ((λ h. cc), (λ h. cc))
same_option eq read law (Some x) None = ((λ h. cc), (λ h. cc))
same_option eq read law (Some x) (Some y) =
    through (law x y) (λ e. ap Some e) (λ e. let same : read x ≡ read y = cc in same)

-- the comparison of numbers decides their equality
pub same_number : (m n : ℕ) → IsTrue (m == n) ↔ (m ≡ n)
same_number m n =
    ((λ h. grind (arith, common_steps, rules)), (λ h. grind (arith, common_steps, rules)))

module _ {F T S R : Type 0} (ty_eq : T → T → Bool) (text_eq : S → S → Bool) (reference : T → R) (text : S → List ℕ)
    (ty_law : Decides ty_eq reference) (text_law : Decides text_eq text) where
  -- the comparison of paths
  abbrev pub path_eq : Path F T S → Path F T S → Bool
  path_eq a b = pointwise text_eq a.segments b.segments

  -- the comparison decides equality of what paths read as
  pub same_path :
      (a b : Path F T S)
      → IsTrue (path_eq a b)
      ↔ (map_path {G = Unit {0}} reference text a ≡ map_path {G = Unit {0}} reference text b)
  same_path a b =
      through (same_list text_eq text text_law a.segments b.segments)
      (λ e. λ i. record { segments = e i; form = tt }) (λ e. ap (λ p. p.segments) e)

  -- the comparison of type parameters
  abbrev pub parameter_eq : TypeParameter F T S → TypeParameter F T S → Bool
  parameter_eq a b = text_eq a.name b.name && option_eq ty_eq a.ty b.ty

  -- the comparison decides equality of what parameters read as
  pub same_parameter :
      (a b : TypeParameter F T S)
      → IsTrue (parameter_eq a b)
      ↔ (map_parameter {G = Unit {0}} reference text a ≡ map_parameter {G = Unit {0}} reference text b)
  same_parameter a b =
      through (and_same _ _ (text_law a.name b.name) (same_option ty_eq reference ty_law a.ty b.ty))
      (λ e. λ i. record { name = e.0 i; ty = e.1 i })
      (λ e. (ap (λ p. p.name) e, ap (λ p. p.ty) e))

  -- the comparison of fields
  abbrev pub field_eq : Field F T S → Field F T S → Bool
  field_eq a b =
      option_eq text_eq a.name b.name && (ty_eq a.ty b.ty && (option_eq text_eq a.type_name b.type_name && pointwise text_eq a.docs b.docs))

  -- the comparison decides equality of what fields read as
  pub same_field :
      (a b : Field F T S)
      → IsTrue (field_eq a b)
      ↔ (map_field {G = Unit {0}} reference text a ≡ map_field {G = Unit {0}} reference text b)
  same_field a b =
      let names = same_option text_eq text text_law in
      through
      (and_same _ _ (names a.name b.name)
      (and_same _ _ (ty_law a.ty b.ty) (and_same _ _ (names a.type_name b.type_name) (same_list text_eq text text_law a.docs b.docs))))
      (λ e. λ i. record { name = e.0 i; ty = e.1.0 i; type_name = e.1.1.0 i; docs = e.1.1.1 i })
      (λ e. (ap (λ f. f.name) e, (ap (λ f. f.ty) e, (ap (λ f. f.type_name) e, ap (λ f. f.docs) e))))

  -- the comparison of variants
  abbrev pub variant_eq : Variant F T S → Variant F T S → Bool
  variant_eq a b =
      text_eq a.name b.name && (pointwise field_eq a.fields b.fields && (a.index == b.index && pointwise text_eq a.docs b.docs))

  -- the comparison decides equality of what variants read as
  pub same_variant :
      (a b : Variant F T S)
      → IsTrue (variant_eq a b)
      ↔ (map_variant {G = Unit {0}} reference text a ≡ map_variant {G = Unit {0}} reference text b)
  same_variant a b =
      through
      (and_same _ _ (text_law a.name b.name)
      (and_same _ _ (same_list field_eq (map_field {G = Unit {0}} reference text) same_field a.fields b.fields)
      (and_same _ _ (same_number a.index b.index) (same_list text_eq text text_law a.docs b.docs))))
      (λ e. λ i. record { name = e.0 i; fields = e.1.0 i; index = e.1.1.0 i; docs = e.1.1.1 i })
      (λ e. (ap (λ v. v.name) e, (ap (λ v. v.fields) e, (ap (λ v. v.index) e, ap (λ v. v.docs) e))))
