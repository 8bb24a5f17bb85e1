-- The parts of values.
use Rattle.std.proofs.Common.{◌≡◌, ℕ, ℤ, Bool, ◌<◌, arith, List, [], map, length, Option, Some, None, option_map, option_and_then, refl, ap, sym, ◌∙◌, slice_get}
use Rattle.std.proofs.lemmas.Grind.{common_steps}
use Rattle.std.proofs.lemmas.Option.{slice_get_past, slice_get-get_or, slice_get-map}
use Rattle.std.specs.Borrow.{Bor}
use Rattle.std.specs.Option.{option_copied}
use Rattle.std.specs.Slice.{IsItemAt}
use Rattle.scale_info_types.specs.Portable.{Text}
use Rattle.scale_info_value.specs.declared.value.Value.{Value, out-Value}
use Rattle.scale_info_value.specs.declared.value.Value.TheVariants as Values
use Rattle.scale_info_value.specs.declared.value.Value.TheVariants.{outs-Bool, outs-Unsigned, outs-Signed, outs-Text}
use Rattle.scale_info_value.specs.declared.value.Value.TheVariants.{outs-List, outs-Record, outs-Variant}
use Rattle.scale_info_value.specs.declared.value.Value.TheOpen.{Value-F}
use Rattle.scale_info_value.specs.declared.value.Value.TheOpen as whole
use Rattle.scale_info_value_borrowed.specs.declared.integers.Integers.{Integers}
use Rattle.scale_info_value_borrowed.specs.declared.borrowed.ValueRef.{ValueRef}
use Rattle.scale_info_value_borrowed.specs.declared.borrowed.ValueRef.TheVariants as borrowed
use Rattle.scale_info_value_borrowed.specs.declared.borrowed.ValueRef.TheVariants.{rolls-Bytes, rolls-Integers, rolls-List, rolls-Record}
use Rattle.scale_info_value_borrowed.specs.declared.borrowed.ValueRef.TheVariants.{rolls-Variant}
use Rattle.scale_info_value_borrowed.specs.declared.borrowed.ValueRef.TheOpen.{ValueRef-F}
use Rattle.scale_info_value_borrowed.specs.declared.borrowed.ValueRef.TheOpen as layer
use Rattle.scale_info_value_borrowed.specs.declared.borrowed.ValueRef.TheViews.{out-ValueRef, roll-ValueRef, roll-out-ValueRef}
use Rattle.scale_info_value_borrowed.specs.declared.borrowed.ValueRef.TheFolds.{fold-roll-ValueRef, map-ValueRef}
use Rattle.scale_info_value_borrowed.specs.IntegerLists.{integers_of}
use Rattle.scale_info_value_borrowed.specs.BorrowedValues.{owned_value, owned_step, field_of}
use Rattle.scale_info_value_borrowed.specs.ValueParts.{items_in, items_at, item_in, fields_in, fields_at, variant_in, variant_at}
use Rattle.scale_info_value_borrowed.proofs.Copies.{named_all, list_copied, record_copied}
use Rattle.scale_info_value_borrowed.proofs.Copies.{variant_copied}

-- a value by its outermost part
rolled : (v : ValueRef) (o : ValueRef-F ValueRef) → out-ValueRef v ≡ o → v ≡ roll-ValueRef o
rolled v o e = sym (roll-out-ValueRef v) ∙ ap roll-ValueRef e

-- what is seen of a copy, where it is the same at each kind of value
seen :
    {A : Type 0} (see : Value-F Value → A) (none : A) (v : ValueRef)
    → ((b : Bool) → see (whole.Bool b) ≡ none) → ((n : ℕ) → see (whole.Unsigned n) ≡ none)
    → ((n : ℤ) → see (whole.Signed n) ≡ none) → ((t : Text) → see (whole.Text t) ≡ none)
    → ((b : Bor (List ℕ)) → v ≡ borrowed.Bytes b → see (whole.List (map Values.Unsigned b.now)) ≡ none)
    → ((list : Integers) → v ≡ borrowed.Integers list → see (whole.List (integers_of list)) ≡ none)
    → ((vs : List ValueRef) → v ≡ borrowed.List vs → see (whole.List (map owned_value vs)) ≡ none)
    → ((fs : List (Option (Bor Text) × ValueRef)) → v ≡ borrowed.Record fs → see (whole.Record (map field_of fs)) ≡ none)
    → ((name : Bor Text) (index : ℕ) (fs : List (Option (Bor Text) × ValueRef)) → v ≡ borrowed.Variant name index fs
    → see (whole.Variant name.now index (map field_of fs)) ≡ none)
    → see (out-Value (owned_value v)) ≡ none
seen see none v truth unsigned signed text bytes integers list fields variant = by_kind (out-ValueRef v) refl
  where
    -- the value of an outermost part, copied
    copied : (o : ValueRef-F ValueRef) → out-ValueRef v ≡ o → out-Value (owned_value v) ≡ out-Value (owned_step (map-ValueRef ValueRef Value owned_value o))
    copied o e = ap out-Value (ap owned_value (rolled v o e) ∙ fold-roll-ValueRef Value owned_step o)

    by_kind : (o : ValueRef-F ValueRef) → out-ValueRef v ≡ o → see (out-Value (owned_value v)) ≡ none
    by_kind (layer.Bool b) e = ap see (copied (layer.Bool b) e ∙ outs-Bool b) ∙ truth b
    by_kind (layer.Unsigned n) e = ap see (copied (layer.Unsigned n) e ∙ outs-Unsigned n) ∙ unsigned n
    by_kind (layer.Signed n) e = ap see (copied (layer.Signed n) e ∙ outs-Signed n) ∙ signed n
    by_kind (layer.Text t) e = ap see (copied (layer.Text t) e ∙ outs-Text t.now) ∙ text t.now
    by_kind (layer.Bytes b) e =
        ap see (copied (layer.Bytes b) e ∙ outs-List (map Values.Unsigned b.now))
        ∙ bytes b (rolled v (layer.Bytes b) e ∙ rolls-Bytes b)
    by_kind (layer.Integers l) e =
        ap see (copied (layer.Integers l) e ∙ outs-List (integers_of l))
        ∙ integers l (rolled v (layer.Integers l) e ∙ rolls-Integers l)
    by_kind (layer.List vs) e =
        ap see (copied (layer.List vs) e ∙ outs-List (map owned_value vs))
        ∙ list vs (rolled v (layer.List vs) e ∙ rolls-List vs)
    by_kind (layer.Record fs) e =
        ap see (copied (layer.Record fs) e ∙ ap (λ gs. out-Value (Values.Record gs)) (named_all fs) ∙ outs-Record (map field_of fs))
        ∙ fields fs (rolled v (layer.Record fs) e ∙ rolls-Record fs)
    by_kind (layer.Variant name index fs) e =
        ap see (copied (layer.Variant name index fs) e ∙ ap (λ gs. out-Value (Values.Variant name.now index gs)) (named_all fs)
        ∙ outs-Variant name.now index (map field_of fs))
        ∙ variant name index fs (rolled v (layer.Variant name index fs) e ∙ rolls-Variant name index fs)

-- the items of a list
pub list_found : (v : ValueRef) (vs : List Value) → owned_value v ≡ Values.List vs → items_in (owned_value v) ≡ Some vs
list_found v vs e = ap items_in e ∙ ap items_at (outs-List vs)

-- how many they are
pub length_found :
    (v : ValueRef) (vs : List Value) (n : ℕ) → owned_value v ≡ Values.List vs → n ≡ length vs
    → Some n ≡ option_map length (items_in (owned_value v))
length_found v vs n e h = ap (λ m. Some m) h ∙ ap (λ o. option_map length o) (sym (list_found v vs e))

-- the item at an index
pub item_found :
    (v : ValueRef) (vs : List Value) (index : ℕ) → owned_value v ≡ Values.List vs → slice_get vs index ≡ item_in index (owned_value v)
item_found v vs index e = ap (λ o. option_and_then (λ l. slice_get l index) o) (sym (list_found v vs e))

-- other values have none
pub no_items :
    (v : ValueRef) → ((b : Bor (List ℕ)) → v ≡ borrowed.Bytes b → ⊥) → ((list : Integers) → v ≡ borrowed.Integers list → ⊥)
    → ((vs : List ValueRef) → v ≡ borrowed.List vs → ⊥) → items_in (owned_value v) ≡ None
no_items v bytes integers list =
    seen items_at None v (λ b. refl) (λ n. refl) (λ n. refl) (λ t. refl) (λ b e. absurd (bytes b e))
    (λ l e. absurd (integers l e)) (λ vs e. absurd (list vs e)) (λ fs e. refl) (λ name index fs e. refl)

-- the fields of a record
pub record_found :
    (v : ValueRef) (fs : List (Option (Bor Text) × ValueRef)) → v ≡ borrowed.Record fs → fields_in (owned_value v) ≡ map field_of fs
record_found v fs e = ap fields_in (ap owned_value e ∙ record_copied fs) ∙ ap fields_at (outs-Record (map field_of fs))

-- the fields of a variant
pub variant_fields :
    (v : ValueRef) (name : Bor Text) (index : ℕ) (fs : List (Option (Bor Text) × ValueRef))
    → v ≡ borrowed.Variant name index fs → fields_in (owned_value v) ≡ map field_of fs
variant_fields v name index fs e =
    ap fields_in (ap owned_value e ∙ variant_copied name index fs) ∙ ap fields_at (outs-Variant name.now index (map field_of fs))

-- other values have none
pub no_fields :
    (v : ValueRef) → ((fs : List (Option (Bor Text) × ValueRef)) → v ≡ borrowed.Record fs → ⊥)
    → ((name : Bor Text) (index : ℕ) (fs : List (Option (Bor Text) × ValueRef)) → v ≡ borrowed.Variant name index fs → ⊥)
    → fields_in (owned_value v) ≡ []
no_fields v record_of variant_of =
    seen fields_at [] v (λ b. refl) (λ n. refl) (λ n. refl) (λ t. refl) (λ b e. refl) (λ l e. refl) (λ vs e. refl)
    (λ fs e. absurd (record_of fs e)) (λ name index fs e. absurd (variant_of name index fs e))

-- the name of a variant
pub variant_found :
    (v : ValueRef) (name : Bor Text) (index : ℕ) (fs : List (Option (Bor Text) × ValueRef))
    → v ≡ borrowed.Variant name index fs → variant_in (owned_value v) ≡ Some name.now
variant_found v name index fs e =
    ap variant_in (ap owned_value e ∙ variant_copied name index fs) ∙ ap variant_at (outs-Variant name.now index (map field_of fs))

-- other values have none
pub no_variant :
    (v : ValueRef)
    → ((name : Bor Text) (index : ℕ) (fs : List (Option (Bor Text) × ValueRef)) → v ≡ borrowed.Variant name index fs → ⊥)
    → variant_in (owned_value v) ≡ None
no_variant v variant_of =
    seen variant_at None v (λ b. refl) (λ n. refl) (λ n. refl) (λ t. refl) (λ b e. refl) (λ l e. refl) (λ vs e. refl)
    (λ fs e. refl) (λ name index fs e. absurd (variant_of name index fs e))

-- what a slice has at an index is the item there
pub borrowed_item :
    {X : Type 0} (xs : List X) (i : ℕ) (r : Option (Bor X)) → IsItemAt xs i r → slice_get xs i ≡ option_copied r
borrowed_item xs i None h = slice_get_past xs i h.3
borrowed_item xs i (Some x) h =
    let inside : i < length xs = grind (arith, common_steps, h.0) in
    slice_get-get_or xs i x.now inside ∙ ap (λ y. Some y) (sym h.1)

-- what a list of values has at an index is its item there
pub listed_at :
    (v : ValueRef) (all items : List ValueRef) (index : ℕ) (r s : Option (Bor ValueRef))
    → v ≡ borrowed.List all → items ≡ all → IsItemAt items index r → r ≡ s
    → option_map owned_value (option_copied s) ≡ item_in index (owned_value v)
listed_at v all items index r s is whole item was =
    ap (λ o. option_map owned_value o)
    (sym (ap (λ l. slice_get l index) (sym whole) ∙ borrowed_item items index r item ∙ ap option_copied was))
    ∙ sym (slice_get-map owned_value all index)
    ∙ item_found v (map owned_value all) index (ap owned_value is ∙ list_copied all)
