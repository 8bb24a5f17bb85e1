-- Values that borrow, copied part by part.
use Rattle.std.proofs.Common.{◌≡◌, ℕ, ℤ, Bool, List, [], ◌∷◌, map, Option, refl, ap, sym, ◌∙◌}
use Rattle.std.specs.Borrow.{Bor}
use Rattle.scale_info_types.specs.Portable.{Text}
use Rattle.scale_info_value.specs.declared.value.Value.{Value}
use Rattle.scale_info_value.specs.declared.value.Value.TheVariants as Values
use Rattle.scale_info_value_borrowed.specs.declared.integers.Integers.{Integers}
use Rattle.scale_info_value_borrowed.specs.declared.borrowed.ValueRef.{ValueRef}
use Rattle.scale_info_value_borrowed.specs.declared.borrowed.ValueRef.TheVariants as borrowed
use Rattle.scale_info_value_borrowed.specs.declared.borrowed.ValueRef.TheVariants.{rolls-Bool, rolls-Unsigned, rolls-Signed, rolls-Text}
use Rattle.scale_info_value_borrowed.specs.declared.borrowed.ValueRef.TheVariants.{rolls-Bytes, rolls-Integers}
use Rattle.scale_info_value_borrowed.specs.declared.borrowed.ValueRef.TheVariants.{rolls-List, rolls-Record, rolls-Variant}
use Rattle.scale_info_value_borrowed.specs.declared.borrowed.ValueRef.TheOpen as layer
use Rattle.scale_info_value_borrowed.specs.declared.borrowed.ValueRef.TheFolds.{fold-roll-ValueRef}
use Rattle.scale_info_value_borrowed.specs.IntegerLists.{integers_of}
use Rattle.scale_info_value_borrowed.specs.BorrowedValues.{named, owned_step, owned_value, field_of}

-- a truth value is one
pub bool_copied : (b : Bool) → owned_value (borrowed.Bool b) ≡ Values.Bool b
bool_copied b = ap owned_value (sym (rolls-Bool b)) ∙ fold-roll-ValueRef Value owned_step (layer.Bool b)

-- an integer without a sign is one
pub unsigned_copied : (n : ℕ) → owned_value (borrowed.Unsigned n) ≡ Values.Unsigned n
unsigned_copied n = ap owned_value (sym (rolls-Unsigned n)) ∙ fold-roll-ValueRef Value owned_step (layer.Unsigned n)

-- an integer with a sign is one
pub signed_copied : (n : ℤ) → owned_value (borrowed.Signed n) ≡ Values.Signed n
signed_copied n = ap owned_value (sym (rolls-Signed n)) ∙ fold-roll-ValueRef Value owned_step (layer.Signed n)

-- a text is its bytes
pub text_copied : (t : Bor Text) → owned_value (borrowed.Text t) ≡ Values.Text t.now
text_copied t = ap owned_value (sym (rolls-Text t)) ∙ fold-roll-ValueRef Value owned_step (layer.Text t)

-- bytes are the list of them
pub bytes_copied : (b : Bor (List ℕ)) → owned_value (borrowed.Bytes b) ≡ Values.List (map Values.Unsigned b.now)
bytes_copied b = ap owned_value (sym (rolls-Bytes b)) ∙ fold-roll-ValueRef Value owned_step (layer.Bytes b)

-- integers are the list of them
pub integers_copied : (list : Integers) → owned_value (borrowed.Integers list) ≡ Values.List (integers_of list)
integers_copied list = ap owned_value (sym (rolls-Integers list)) ∙ fold-roll-ValueRef Value owned_step (layer.Integers list)

-- a list is that of its items
pub list_copied : (vs : List ValueRef) → owned_value (borrowed.List vs) ≡ Values.List (map owned_value vs)
list_copied vs = ap owned_value (sym (rolls-List vs)) ∙ fold-roll-ValueRef Value owned_step (layer.List vs)

-- fields, first their values copied and then their names
pub named_all :
    (fs : List (Option (Bor Text) × ValueRef)) → map named (map (λ f. (f.0, owned_value f.1)) fs) ≡ map field_of fs
named_all [] = refl
named_all (f ∷ fs) = ap (λ gs. field_of f ∷ gs) (named_all fs)

-- a record is that of its fields
pub record_copied : (fs : List (Option (Bor Text) × ValueRef)) → owned_value (borrowed.Record fs) ≡ Values.Record (map field_of fs)
record_copied fs =
    ap owned_value (sym (rolls-Record fs)) ∙ fold-roll-ValueRef Value owned_step (layer.Record fs)
    ∙ ap (λ gs. Values.Record gs) (named_all fs)

-- a variant is that of its fields
pub variant_copied :
    (name : Bor Text) (index : ℕ) (fs : List (Option (Bor Text) × ValueRef))
    → owned_value (borrowed.Variant name index fs) ≡ Values.Variant name.now index (map field_of fs)
variant_copied name index fs =
    ap owned_value (sym (rolls-Variant name index fs)) ∙ fold-roll-ValueRef Value owned_step (layer.Variant name index fs)
    ∙ ap (λ gs. Values.Variant name.now index gs) (named_all fs)
