-- Variants that are taken back from the text.
use Rattle.std.proofs.Common.{◌≡◌, ℕ, ◌+◌, ◌≤◌, ◌==◌, Bool, true, false, List, [], ◌∷◌, map, find, cond}
use Rattle.std.proofs.Common.{Option, Some, None, option_map, refl, ap, sym, ◌∙◌, arith}
use Rattle.std.proofs.lemmas.Bool.{ltb-false, le-ltb}
use Rattle.std.proofs.lemmas.List.Sums.{sum_by-cons}
use Rattle.std.proofs.lemmas.Slice.Eq.{bytes_eq-Decides}
use Rattle.std.specs.List.{count_by}
use Rattle.std.specs.Prelude.{if◌then◌else◌, nat_lt, option_and_then}
use Rattle.std.specs.Str.{bytes_eq}
use Rattle.serde_json.specs.Data.{Data}
use Rattle.scale_info_types.specs.Portable.{Id, Text, Variant}
use Rattle.scale_info_types.specs.declared.ty.variant.Variant.{Variant as AnyVariant}
use Rattle.scale_info_types.specs.Shapes.{map_variant}
use Rattle.scale_info_value.specs.declared.value.Value.TheVariants as Values
use Rattle.scale_info_value_encode.proofs.NamedParts.{first_made}
use Rattle.scale_info_value_json.specs.Takers.{refused, mismatch, taken_map, if_found}
use Rattle.scale_info_value_json.specs.DefinitionTakers.{Takers, is_shared, chosen, variant_of, variant}
use Rattle.scale_info_table.specs.declared.portable.PortableRegistry.{PortableRegistry}
use Rattle.scale_info_value_json.specs.Takings.{part_within, variant_fields_within}
use Rattle.scale_info_value_json.specs.TreeParts.{index_and_fields, variant_in}

-- the first variant with an index stays the first where references stand for something else
pub first_with_index :
    {T : Type 0} (on : Id → T) (i : ℕ) (vs : List Variant)
    → find (λ v. v.index == i) (map (map_variant {G = Unit {0}} on (λ t. t)) vs)
    ≡ option_map (map_variant {G = Unit {0}} on (λ t. t)) (find (λ v. v.index == i) vs)
first_with_index {T} on i vs =
    first_made {X = Variant} {Y = AnyVariant (Unit {0}) T Text} (map_variant on (λ t. t)) (λ v. v.index == i) vs

-- as does the first with a name
pub first_with_name :
    {T : Type 0} (on : Id → T) (name : Text) (vs : List Variant)
    → find (λ v. bytes_eq v.name name) (map (map_variant {G = Unit {0}} on (λ t. t)) vs)
    ≡ option_map (map_variant {G = Unit {0}} on (λ t. t)) (find (λ v. bytes_eq v.name name) vs)
first_with_name {T} on name vs =
    first_made {X = Variant} {Y = AnyVariant (Unit {0}) T Text} (map_variant on (λ t. t)) (λ v. bytes_eq v.name name) vs

-- one where a test passes
abbrev one_if : Bool → ℕ
one_if t = cond t 1 0

-- how many more there are with one before
count_more : {X : Type 0} (p : X → Bool) (x : X) (xs : List X) → count_by p (x ∷ xs) ≡ one_if (p x) + count_by p xs
count_more p x xs = sum_by-cons (λ y. cond (p y) 1 0) x xs

-- there are as many where references stand for something else
pub shared_alike :
    {T : Type 0} (on : Id → T) (name : Text) (vs : List Variant)
    → is_shared (map (map_variant {G = Unit {0}} on (λ t. t)) vs) name ≡ is_shared vs name
shared_alike on name vs = ap (nat_lt 1) (count_alike vs)
  where
    count_alike :
        (vs : List Variant)
        → count_by (λ v. bytes_eq v.name name) (map (map_variant {G = Unit {0}} on (λ t. t)) vs)
        ≡ count_by (λ v. bytes_eq v.name name) vs
    count_alike [] = refl
    count_alike (v ∷ vs) =
        count_more (λ w. bytes_eq w.name name) (map_variant {G = Unit {0}} on (λ t. t) v)
        (map (map_variant {G = Unit {0}} on (λ t. t)) vs)
        ∙ ap (λ n. one_if (bytes_eq v.name name) + n) (count_alike vs)
        ∙ sym (count_more (λ w. bytes_eq w.name name) v vs)

-- where there is one with a name, it is counted
counted_once :
    (name : Text) (i : ℕ) (v : Variant) (vs : List Variant) → find (λ w. w.index == i) vs ≡ Some v
    → bytes_eq v.name name ≡ true → 1 ≤ count_by (λ w. bytes_eq w.name name) vs
counted_once name i v [] e same = cc
counted_once name i v (w ∷ vs) e same =
    by_index (w.index == i) e (λ f. counted_once name i v vs f same) (count_more (λ u. bytes_eq u.name name) w vs)
  where
    by_index : (here : Bool) → cond here (Some w) (find (λ u. u.index == i) vs) ≡ Some v
        → (find (λ u. u.index == i) vs ≡ Some v → 1 ≤ count_by (λ u. bytes_eq u.name name) vs)
        → count_by (λ u. bytes_eq u.name name) (w ∷ vs) ≡ one_if (bytes_eq w.name name) + count_by (λ u. bytes_eq u.name name) vs
        → 1 ≤ count_by (λ u. bytes_eq u.name name) (w ∷ vs)
    by_index true f later count =
        let is : w ≡ v = cc in
        let one : one_if (bytes_eq w.name name) ≡ 1 = ap (λ u. one_if (bytes_eq u.name name)) is ∙ ap one_if same in
        omega (arith, count, one)
    by_index false f later count = omega (arith, count, later f)

-- where only one has a name, few do
few_named : (name : Text) (vs : List Variant) → is_shared vs name ≡ false → count_by (λ u. bytes_eq u.name name) vs ≤ 1
few_named name vs e = ltb-false 1 (count_by (λ u. bytes_eq u.name name) vs) e

-- and where few do, the name is not shared
not_shared : (name : Text) (vs : List Variant) → count_by (λ u. bytes_eq u.name name) vs ≤ 1 → is_shared vs name ≡ false
not_shared name vs h = le-ltb 1 (count_by (λ u. bytes_eq u.name name) vs) h

-- The first variant with an index, whose name no other has, is the first with its name.
pub found_by_name :
    (name : Text) (i : ℕ) (v : Variant) (vs : List Variant) → find (λ w. w.index == i) vs ≡ Some v
    → bytes_eq v.name name ≡ true → is_shared vs name ≡ false → find (λ w. bytes_eq w.name name) vs ≡ Some v
found_by_name name i v [] e same alone = cc
found_by_name name i v (w ∷ vs) e same alone =
    by_tests (w.index == i) (bytes_eq w.name name) refl e (λ f h. found_by_name name i v vs f same h)
    (count_more (λ u. bytes_eq u.name name) w vs) (few_named name (w ∷ vs) alone)
  where
    by_tests :
        (here named : Bool) → bytes_eq w.name name ≡ named → cond here (Some w) (find (λ u. u.index == i) vs) ≡ Some v
        → (find (λ u. u.index == i) vs ≡ Some v → is_shared vs name ≡ false → find (λ u. bytes_eq u.name name) vs ≡ Some v)
        → count_by (λ u. bytes_eq u.name name) (w ∷ vs) ≡ one_if (bytes_eq w.name name) + count_by (λ u. bytes_eq u.name name) vs
        → count_by (λ u. bytes_eq u.name name) (w ∷ vs) ≤ 1
        → cond named (Some w) (find (λ u. bytes_eq u.name name) vs) ≡ Some v
    by_tests true true is f later count few = f
    by_tests true false is f later count few =
        let one : w ≡ v = cc in
        let other : bytes_eq w.name name ≡ true = ap (λ u. bytes_eq u.name name) one ∙ same in cc
    by_tests false true is f later count few =
        let one : one_if (bytes_eq w.name name) ≡ 1 = ap one_if is in
        let again = counted_once name i v vs f same in
        absurd (omega (arith, count, one, few, again))
    by_tests false false is f later count few =
        let none : one_if (bytes_eq w.name name) ≡ 0 = ap one_if is in
        later f (not_shared name vs (omega (arith, count, none, few)))

-- what is found passes the test
pub found_passes : {X : Type 0} (p : X → Bool) (x : X) (xs : List X) → find p xs ≡ Some x → p x ≡ true
found_passes p x [] e = cc
found_passes p x (y ∷ ys) e = by_test (p y) refl e (λ f. found_passes p x ys f)
  where
    by_test : (here : Bool) → p y ≡ here → cond here (Some y) (find p ys) ≡ Some x → (find p ys ≡ Some x → p x ≡ true) → p x ≡ true
    by_test true is f later = let one : y ≡ x = cc in ap p (sym one) ∙ is
    by_test false is f later = later f

-- where nothing is found, nothing is counted
none_counted : {X : Type 0} (p : X → Bool) (xs : List X) → find p xs ≡ None → count_by p xs ≡ 0
none_counted p [] e = refl
none_counted p (y ∷ ys) e = by_test (p y) e (λ f. none_counted p ys f) (count_more p y ys)
  where
    by_test : (here : Bool) → cond here (Some y) (find p ys) ≡ None → (find p ys ≡ None → count_by p ys ≡ 0)
        → count_by p (y ∷ ys) ≡ one_if here + count_by p ys → count_by p (y ∷ ys) ≡ 0
    by_test true f later count = cc
    by_test false f later count = omega (arith, count, later f)

-- a variant's index, and what stands for the fields
abbrev indexed : {F T : Type 0} → Option Data → AnyVariant F T Text → ℕ × Option Data
indexed content w = (w.index, content)

-- a name that no variant has is not shared
none_shared : (name : Text) (vs : List Variant) → find (λ w. bytes_eq w.name name) vs ≡ None → is_shared vs name ≡ false
none_shared name vs e = ap (nat_lt 1) (none_counted (λ w. bytes_eq w.name name) vs e)

-- where no variant has the name, none is meant
pub none_meant :
    (name : Text) (vs : List Variant) (content : Option Data) → find (λ w. bytes_eq w.name name) vs ≡ None
    → chosen vs name content ≡ None
none_meant name vs content e =
    ap (λ (t : Bool). if t then option_and_then index_and_fields content
    else option_map (indexed content) (find (λ w. bytes_eq w.name name) vs)) (none_shared name vs e)
    ∙ ap (option_map (indexed content)) e

-- where the name is shared, the index is in the content
pub shared_meant :
    (name : Text) (v : Variant) (vs : List Variant) (content : Option Data)
    → find (λ w. bytes_eq w.name name) vs ≡ Some v → is_shared vs v.name ≡ true
    → chosen vs name content ≡ option_and_then index_and_fields content
shared_meant name v vs content e shared =
    ap (λ (t : Bool). if t then option_and_then index_and_fields content
    else option_map (indexed content) (find (λ w. bytes_eq w.name name) vs))
    (ap (is_shared vs) (sym ((bytes_eq-Decides v.name name).0 (found_passes (λ w. bytes_eq w.name name) v vs e))) ∙ shared)

-- else the first with the name is meant
pub alone_meant :
    (name : Text) (v : Variant) (vs : List Variant) (content : Option Data)
    → find (λ w. bytes_eq w.name name) vs ≡ Some v → is_shared vs v.name ≡ false
    → chosen vs name content ≡ Some (v.index, content)
alone_meant name v vs content e alone =
    ap (λ (t : Bool). if t then option_and_then index_and_fields content
    else option_map (indexed content) (find (λ w. bytes_eq w.name name) vs))
    (ap (is_shared vs) (sym ((bytes_eq-Decides v.name name).0 (found_passes (λ w. bytes_eq w.name name) v vs e))) ∙ alone)
    ∙ ap (option_map (indexed content)) e

-- the variant that is meant is the same where references stand for something else
pub meant_alike :
    {T : Type 0} (on : Id → T) (name : Text) (vs : List Variant) (content : Option Data)
    → chosen (map (map_variant {G = Unit {0}} on (λ t. t)) vs) name content ≡ chosen vs name content
meant_alike {T} on name vs content =
    ap (λ (t : Bool). if t then option_and_then index_and_fields content
    else option_map (indexed content) (find (λ w. bytes_eq w.name name) (map (map_variant {G = Unit {0}} on (λ t. t)) vs)))
    (shared_alike on name vs)
    ∙ ap (λ (o : Option (ℕ × Option Data)). if is_shared vs name then option_and_then index_and_fields content else o)
    (ap (option_map (indexed content)) (first_with_name on name vs) ∙ twice (find (λ w. bytes_eq w.name name) vs))
  where
    twice : (o : Option Variant)
        → option_map (indexed content) (option_map (map_variant {G = Unit {0}} on (λ t. t)) o) ≡ option_map (indexed content) o
    twice None = refl
    twice (Some w) = refl

-- a tree of a variant is taken by the first variant with the index that is meant
pub variant_is :
    (on : Id → Takers) (vs : List Variant) (tree : Data) (name : Text) (under : Option Data) (index : ℕ) (content : Option Data)
    → Some (name, under) ≡ variant_in tree → Some (index, content) ≡ chosen vs name under
    → variant (map (map_variant {G = Unit {0}} on (λ t. t)) vs) tree
    ≡ variant_of name index content (option_map (map_variant {G = Unit {0}} on (λ t. t)) (find (λ w. w.index == index) vs))
variant_is on vs tree name under index content e f =
    let ws = map (map_variant {G = Unit {0}} on (λ t. t)) vs in
    ap (λ o. if_found o (λ n. if_found (chosen ws n.0 n.1) (λ c. variant_of n.0 c.0 c.1 (find (λ w. w.index == c.0) ws)))) (sym e)
    ∙ ap (λ o. if_found o (λ c. variant_of name c.0 c.1 (find (λ w. w.index == c.0) ws))) (meant_alike on name vs under ∙ sym f)
    ∙ ap (variant_of name index content) (first_with_index on index vs)

-- where none is meant, the tree is none of the enum
pub variant_unmeant :
    (on : Id → Takers) (vs : List Variant) (tree : Data) (name : Text) (under : Option Data)
    → Some (name, under) ≡ variant_in tree → None ≡ chosen vs name under
    → variant (map (map_variant {G = Unit {0}} on (λ t. t)) vs) tree ≡ refused mismatch
variant_unmeant on vs tree name under e f =
    let ws = map (map_variant {G = Unit {0}} on (λ t. t)) vs in
    ap (λ o. if_found o (λ n. if_found (chosen ws n.0 n.1) (λ c. variant_of n.0 c.0 c.1 (find (λ w. w.index == c.0) ws)))) (sym e)
    ∙ ap (λ o. if_found o (λ c. variant_of name c.0 c.1 (find (λ w. w.index == c.0) ws))) (meant_alike on name vs under ∙ sym f)

module _ (left : ℕ) (table : PortableRegistry) (vs : List Variant) (tree : Data) (name : Text) (under : Option Data)
    (index : ℕ) (content : Option Data) (e : Some (name, under) ≡ variant_in tree)
    (f : Some (index, content) ≡ chosen vs name under) where
  -- the tree, by the first variant with the index
  whole : (o : Option Variant) → find (λ w. w.index == index) vs ≡ o
      → variant (map (map_variant {G = Unit {0}} (part_within left table) (λ t. t)) vs) tree
      ≡ variant_of name index content (option_map (map_variant {G = Unit {0}} (part_within left table) (λ t. t)) o)
  whole o is =
      variant_is (part_within left table) vs tree name under index content e f
      ∙ ap (λ o. variant_of name index content (option_map (map_variant {G = Unit {0}} (part_within left table) (λ t. t)) o)) is

  -- no variant has the index
  pub variant_missing :
      find (λ w. w.index == index) vs ≡ None
      → variant (map (map_variant {G = Unit {0}} (part_within left table) (λ t. t)) vs) tree ≡ refused mismatch
  variant_missing is = whole None is

  -- the variant with the index has another name
  pub variant_misnamed :
      (v : Variant) → find (λ w. w.index == index) vs ≡ Some v → bytes_eq v.name name ≡ false
      → variant (map (map_variant {G = Unit {0}} (part_within left table) (λ t. t)) vs) tree ≡ refused mismatch
  variant_misnamed v is differs =
      whole (Some v) is
      ∙ ap (λ (t : Bool). if t
      then taken_map (λ values. Values.Variant v.name index values) (variant_fields_within left table v.fields content)
      else refused mismatch) differs

  -- the variant with the index has the name
  pub variant_named :
      (v : Variant) → find (λ w. w.index == index) vs ≡ Some v → bytes_eq v.name name ≡ true
      → variant (map (map_variant {G = Unit {0}} (part_within left table) (λ t. t)) vs) tree
      ≡ taken_map (λ values. Values.Variant v.name index values) (variant_fields_within left table v.fields content)
  variant_named v is same =
      whole (Some v) is
      ∙ ap (λ (t : Bool). if t
      then taken_map (λ values. Values.Variant v.name index values) (variant_fields_within left table v.fields content)
      else refused mismatch) same
