-- Equality of decoded values decides whether they are one value.
use Rattle.std.proofs.Common.{◌≡◌, ◌&&◌, ◌==◌, Bool, true, false, IsTrue, ℕ, List, [], ◌∷◌}
use Rattle.std.proofs.Common.{map, Option, None, Some, refl, ap, subst, ◌∙◌, int_eq, rules, arith}
use Rattle.std.proofs.lemmas.Grind.{common_steps}
use Rattle.std.specs.Option.{option_eq}
use lib.IntN.{ℤ}
use lib.Pointwise.{pointwise}
use mathlib.Core.Bool.{beq}
use Rattle.scale_info_value.specs.declared.value.Value.{Value}
use Rattle.scale_info_value.specs.declared.value.Value.TheOpen.{Value-F}
use Rattle.scale_info_value.specs.declared.value.Value.TheOpen as layer
use Rattle.scale_info_value.specs.declared.value.Value.TheViews.{out-Value, roll-Value, out-roll-Value}
use Rattle.scale_info_value.specs.declared.value.Value.TheViews.{roll-out-Value}
use Rattle.scale_info_value.specs.contracts.value.ValuePartialEq.TheImpl.Laws.{is, unfolded}
use Rattle.scale_info_value.specs.contracts.value.ValuePartialEq.TheImpl.{ghosts}
use Rattle.scale_info_value.proofs.ByLayers.{Known, lower, by_layers}

-- nothing else is equal to this value
abbrev Same : Value → Type 0
Same d = (e : Value) → IsTrue (ghosts.eq d e) → d ≡ e

both : (p q : Bool) → IsTrue (p && q) → IsTrue p × IsTrue q
both true q h = (refl, h)
both false q h = cc

same_truth : (a b : Bool) → IsTrue (beq a b) → a ≡ b
same_truth true true h = refl
same_truth true false h = cc
same_truth false true h = cc
same_truth false false h = refl

same_number : (m n : ℕ) → IsTrue (m == n) → m ≡ n
same_number m n h = grind (arith, common_steps, rules)

same_integer : (m n : ℤ) → IsTrue (int_eq m n) → m ≡ n
same_integer m n h = grind (arith, common_steps, rules)

same_text : (xs ys : List ℕ) → IsTrue (pointwise ◌==◌ xs ys) → xs ≡ ys
same_text [] [] h = refl
same_text [] (y ∷ ys) h = cc
same_text (x ∷ xs) [] h = cc
same_text (x ∷ xs) (y ∷ ys) h =
    let parts = both _ _ h in λ i. same_number x y parts.0 i ∷ same_text xs ys parts.1 i

same_name : (a b : Option (List ℕ)) → IsTrue (option_eq (pointwise ◌==◌) a b) → a ≡ b
same_name None None h = refl
same_name None (Some y) h = cc
same_name (Some x) None h = cc
same_name (Some x) (Some y) h = ap Some (same_text x y h)

same_list :
    {K X : Type 0} (f : K → X) (eq : X → X → Bool) → ((k : K) (x : X) → IsTrue (eq (f k) x) → f k ≡ x)
    → (ks : List K) (xs : List X) → IsTrue (pointwise eq (map f ks) xs) → map f ks ≡ xs
same_list f eq law [] [] h = refl
same_list f eq law [] (x ∷ xs) h = cc
same_list f eq law (k ∷ ks) [] h = cc
same_list f eq law (k ∷ ks) (x ∷ xs) h =
    let parts = both _ _ h in λ i. law k x parts.0 i ∷ same_list f eq law ks xs parts.1 i

abbrev Fields : Type 0 → Type 0
Fields X = List (Option (List ℕ) × X)

abbrev field_eq : Option (List ℕ) × Value → Option (List ℕ) × Value → Bool
field_eq a b = option_eq (pointwise ◌==◌) a.0 b.0 && ghosts.eq a.1 b.1

abbrev fields : Fields (Known Same) → Fields Value
fields known = map (λ field. (field.0, field.1.0)) known

same_fields :
    (ks : Fields (Known Same)) (xs : Fields Value) → IsTrue (pointwise field_eq (fields ks) xs)
    → fields ks ≡ xs
same_fields ks xs =
    same_list (λ (field : Option (List ℕ) × Known Same). (field.0, field.1.0)) field_eq
    (λ k x h. let parts = both _ _ h in λ i. (same_name k.0 x.0 parts.0 i, k.1.1 x.1 parts.1 i)) ks xs

-- layers of equal values are one layer
forward :
    (y : Value-F (Known Same)) (z : Value-F Value) (d e : Value) → out-Value d ≡ lower Same y → out-Value e ≡ z
    → IsTrue (unfolded d e) → lower Same y ≡ z
forward (layer.Bool a) (layer.Bool b) d e p q = rw (p, q) (λ h. ap layer.Bool (same_truth a b h))
forward (layer.Unsigned a) (layer.Unsigned b) d e p q =
    rw (p, q) (λ h. ap layer.Unsigned (same_number a b h))
forward (layer.Signed a) (layer.Signed b) d e p q =
    rw (p, q) (λ h. ap layer.Signed (same_integer a b h))
forward (layer.Text a) (layer.Text b) d e p q = rw (p, q) (λ h. ap layer.Text (same_text a b h))
forward (layer.List a) (layer.List b) d e p q =
    rw (p, q)
    (λ h. ap layer.List (same_list (λ (k : Known Same). k.0) ghosts.eq (λ k x. k.1 x) a b h))
forward (layer.Record a) (layer.Record b) d e p q =
    rw (p, q) (λ h. ap layer.Record (same_fields a b h))
forward (layer.Variant n i f) (layer.Variant m j g) d e p q =
    rw (p, q) (λ h. let parts = both _ _ h in let more = both _ _ parts.1 in
    λ r. layer.Variant
    (same_text n m parts.0 r) (same_number i j more.0 r) (same_fields f g more.1 r))
forward y z d e p q = rw (p, q) (λ h. cc)

-- equal values are one
pub one_value : (d e : Value) → IsTrue (ghosts.eq d e) → d ≡ e
one_value =
    by_layers Same (λ y e h.
    let d = roll-Value (lower Same y) in
    ap roll-Value (forward y (out-Value e) d e (out-roll-Value (lower Same y)) refl (subst IsTrue (is d e) h))
    ∙ roll-out-Value e)
