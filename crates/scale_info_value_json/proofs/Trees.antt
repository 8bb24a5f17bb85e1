-- What the accessors of a tree give.
use Rattle.std.proofs.Common.{◌≡◌, ◌≢◌, ℕ, ◌==◌, List, [], ◌∷◌, length, map, Some, None, option_map, String, Global}
use Rattle.std.proofs.Common.{refl, ap, sym, ◌∙◌, arith, string_bytes}
use Rattle.std.specs.Prelude.{slice_get}
use Rattle.serde_json.specs.Data.{Data, object, Members, no_members, member}
use Rattle.serde_json.specs.Find.{as_object, as_array}
use Rattle.serde_json.specs.View.{view, items_view, members_view}
use Rattle.serde_json.specs.declared.value.Value.{Value as JsonValue}
use Rattle.serde_json.proofs.Views.{Entry, members_len-members_view}
use Rattle.scale_info_value_json.specs.TreeParts.{listed, items_in, has_members, variant_in}

-- the trees of an array are those of its items
listed_view : (vs : List JsonValue) → listed (items_view vs) ≡ map view vs
listed_view [] = refl
listed_view (v ∷ vs) = ap (λ trees. view v ∷ trees) (listed_view vs)

-- an array that was found has these items
pub items_found : (d : Data) (vs : List JsonValue) → Some (items_view vs) ≡ as_array d → Some (map view vs) ≡ items_in d
items_found d vs e = ap Some (sym (listed_view vs)) ∙ ap (option_map listed) e

-- a tree that is read as an object is the object
object_of : (d : Data) (ms : Members) → Some ms ≡ as_object d → d ≡ object ms
object_of (object ns) ms e = let same : ms ≡ ns = cc in ap object (sym same)
object_of _ ms e = absurd cc

-- an object that was found has as many members as its entries
pub members_found :
    (d : Data) (es : List Entry) (count : ℕ) → Some (members_view es) ≡ as_object d
    → (length es == count) ≡ has_members count d
members_found d es count e =
    ap (λ n. n == count) (sym (members_len-members_view es)) ∙ ap (has_members count) (sym (object_of d (members_view es) e))

-- an object with one member is the variant of its key
pub one_member :
    (d : Data) (es : List Entry) (k : String Global) (v : JsonValue)
    → Some (members_view es) ≡ as_object d → length es ≡ 1 → slice_get es 0 ≡ Some (k, v)
    → Some (string_bytes k, Some (view v)) ≡ variant_in d
one_member d [] k v m h e = absurd (omega arith)
one_member d (x ∷ y ∷ es) k v m h e = absurd (omega arith)
one_member d (x ∷ []) k v m h e =
    let same : x ≡ (k, v) = cc in
    ap (λ p. variant_in (object (member (string_bytes p.0) (view p.1) no_members))) (sym same)
    ∙ ap variant_in (sym (object_of d (members_view (x ∷ [])) m))

-- an object with another number of members is no variant
pub not_one_member :
    (d : Data) (es : List Entry) → Some (members_view es) ≡ as_object d → length es ≢ 1 → None ≡ variant_in d
not_one_member d [] m h = ap variant_in (sym (object_of d no_members m))
not_one_member d (x ∷ []) m h = absurd (h refl)
not_one_member d (x ∷ y ∷ es) m h = ap variant_in (sym (object_of d (members_view (x ∷ y ∷ es)) m))
