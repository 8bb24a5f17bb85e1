-- An object with one key.
use Rattle.std.proofs.Common.{◌≡◌, ◌≢◌, ℕ, List, [], ◌∷◌, length, Some, String, Global}
use Rattle.std.proofs.Common.{string_bytes, refl, sym, ◌∙◌, ap, subst, arith}
use Rattle.std.specs.Prelude.{slice_get}
use Rattle.serde_json.specs.Data.{Data, null, boolean, number, string, array, object, Members}
use Rattle.serde_json.specs.Data.{no_members, member}
use Rattle.serde_json.specs.Find.{as_object}
use Rattle.serde_json.specs.View.{view, members_view}
use Rattle.serde_json.specs.declared.value.Value.{Value}
use Rattle.serde_json.proofs.Views.{Entry}
use Rattle.std.specs.Prelude.{codes}
use Rattle.scale_info_types.specs.Portable as portable
use Rattle.scale_info_json_trees.specs.Meaning.{IsMeaningless}
use Rattle.scale_info_json_trees.specs.DefinitionTrees.{MeansBitSequence, MeansUnder, bit_sequence}

-- a tree that is read as an object is the object
pub object_of_members : (d : Data) (ms : Members) → Some ms ≡ as_object d → d ≡ object ms
object_of_members null ms e = absurd cc
object_of_members (boolean b) ms e = absurd cc
object_of_members (number n) ms e = absurd cc
object_of_members (string s) ms e = absurd cc
object_of_members (array ds) ms e = absurd cc
object_of_members (object ns) ms e = let same : ms ≡ ns = cc in ap object (sym same)

-- an object with one member is that member alone
pub single :
    (d : Data) (es : List Entry) (k : String Global) (v : Value)
    → Some (members_view es) ≡ as_object d → length es ≡ 1 → slice_get es 0 ≡ Some (k, v)
    → d ≡ object (member (string_bytes k) (view v) no_members)
single d [] k v m h e = absurd (omega arith)
single d (x ∷ y ∷ es) k v m h e = absurd (omega arith)
single d (x ∷ []) k v m h e =
    let same : x ≡ (k, v) = cc in
    object_of_members d (members_view (x ∷ [])) m ∙ ap (λ p. object (member (string_bytes p.0) (view p.1) no_members)) same

-- an object with another number of members has not one alone
pub not_single :
    (d : Data) (es : List Entry) → Some (members_view es) ≡ as_object d → length es ≢ 1
    → (k : List ℕ) (t : Data) → d ≡ object (member k t no_members) → ⊥
not_single d [] m h k t e = let f = sym (object_of_members d no_members m) ∙ e in cc
not_single d (x ∷ []) m h k t e = h refl
not_single d (x ∷ y ∷ es) m h k t e =
    let f = sym (object_of_members d (members_view (x ∷ y ∷ es)) m) ∙ e in cc

-- no definition stands under this key
pub no_bit_sequence :
    (k : List ℕ) (t : Data) → k ≡ codes "bitsequence" → IsMeaningless (MeansBitSequence t)
    → IsMeaningless (MeansUnder k t)
no_bit_sequence k t e n = record { none = λ v m. under t v n (subst (λ x. MeansUnder x t v) e m) }
  where
    under :
        (t : Data) (v : portable.TypeDef) → IsMeaningless (MeansBitSequence t)
        → MeansUnder (codes "bitsequence") t v → ⊥
    under t v n (bit_sequence m) = n.none _ m
