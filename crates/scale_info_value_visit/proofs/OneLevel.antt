-- What is read by the kind of a definition.
use Rattle.std.proofs.Common.{◌≡◌, ℕ, zero, suc, ◌-◌, ◌≤◌, Bool, true, false, List, [], ◌∷◌, Option, Some, None, ap, ◌∙◌, arith, refl}
use Rattle.scale_info_types.specs.Portable.{TypeDef, TypeDefCompact}
use Rattle.scale_info_types.specs.declared.ty.TypeDef.TheVariants as def
use Rattle.scale_info_table.specs.declared.portable.PortableRegistry.{PortableRegistry}
use Rattle.scale_info_value.specs.declared.value.Failure.{Failure}
use Rattle.scale_info_value.specs.Outcomes.{no_such_type, too_deep}
use Rattle.scale_info_value.specs.Readings.{compact_within}
use Rattle.scale_info_value.proofs.Texts.{bytes_whole}
use Rattle.scale_info_value_visit.specs.Events.{is_byte, list_events, bytes, unsigned}
use Rattle.scale_info_value_visit.specs.Reads.{Reader, shows, fails, with_value, barred, unless, items_read, list_read, kind_read, value_read}

-- where a level is left, a value is read by the kind of its definition
pub by_kind :
    (left : ℕ) (table : PortableRegistry) (d : TypeDef) (input : List ℕ) → 1 ≤ left
    → value_read left table (Some d) input ≡ kind_read (left - 1) table (value_read (left - 1) table) d input
unfolding value_read
by_kind zero table d input h = absurd (omega arith)
by_kind (suc left) table d input h =
    let e : left ≡ suc left - 1 = omega arith in
    ap (λ n. kind_read n table (value_read n table) d input) e

-- where it is this
pub by_this :
    (left : ℕ) (table : PortableRegistry) (d : TypeDef) (is : TypeDef) (input : List ℕ) → 1 ≤ left → d ≡ is
    → value_read left table (Some d) input ≡ kind_read (left - 1) table (value_read (left - 1) table) is input
by_this left table d is input h e =
    by_kind left table d input h ∙ ap (λ t. kind_read (left - 1) table (value_read (left - 1) table) t input) e

-- a compact integer
pub compact_by :
    (left : ℕ) (table : PortableRegistry) (d : TypeDef) (inner : TypeDefCompact) (input : List ℕ) → 1 ≤ left
    → d ≡ def.Compact inner
    → value_read left table (Some d) input
    ≡ with_value (compact_within left table inner.type_param.id input) (λ n rest. shows (unsigned n ∷ []) rest)
compact_by left table d inner input h e =
    let same : suc (left - 1) ≡ left = omega arith in
    by_this left table d (def.Compact inner) input h e
    ∙ ap (λ n. with_value (compact_within n table inner.type_param.id input) (λ n rest. shows (unsigned n ∷ []) rest)) same

-- where no level is left, a value is too deep
pub too_deep_read :
    (left : ℕ) (table : PortableRegistry) (type : Option TypeDef) (input : List ℕ) → left ≡ 0
    → value_read left table type input ≡ fails too_deep
unfolding value_read
too_deep_read zero table type input e = refl
too_deep_read (suc left) table type input e = absurd (omega arith)

-- a level that is left is no bar to a type that is known
pub free_of :
    (left : ℕ) (type : Option TypeDef) (d : TypeDef) → 1 ≤ left → type ≡ Some d → barred left type ≡ None
free_of zero type d h e = absurd (omega arith)
free_of (suc left) type d h e = ap (barred (suc left)) e

-- a type that is not known is one
pub barred_by :
    (left : ℕ) (type : Option TypeDef) → 1 ≤ left → type ≡ None → barred left type ≡ Some no_such_type
barred_by zero type h e = absurd (omega arith)
barred_by (suc left) type h e = ap (barred (suc left)) e

-- no level left is one
pub barred_end : (left : ℕ) (type : Option TypeDef) → left ≡ 0 → barred left type ≡ Some too_deep
barred_end zero type e = refl
barred_end (suc left) type e = absurd (omega arith)

-- a value that is barred fails with no event
pub barred_read :
    (left : ℕ) (table : PortableRegistry) (type : Option TypeDef) (input : List ℕ) (why : Failure)
    → barred left type ≡ Some why → value_read left table type input ≡ fails why
unfolding value_read
barred_read zero table type input why e = let same : too_deep ≡ why = cc in ap fails same
barred_read (suc left) table None input why e = let same : no_such_type ≡ why = cc in ap fails same
barred_read (suc left) table (Some d) input why e = cc

-- a list of items that are barred fails with no event
pub barred_list :
    (left : ℕ) (part : Option TypeDef → Reader) (type : Option TypeDef) (n : ℕ) (input : List ℕ) (why : Failure)
    → 1 ≤ n → barred left type ≡ Some why → list_read left part type n input ≡ fails why
barred_list left part type zero input why h e = absurd (omega arith)
barred_list left part type (suc n) input why h e =
    ap (λ o. unless o (items_read (is_byte type) (suc n) (part type) input)) e

-- a list of others is read by their definition
pub free_list :
    (left : ℕ) (part : Option TypeDef → Reader) (type : Option TypeDef) (d : TypeDef) (n : ℕ) (input : List ℕ)
    → type ≡ Some d → barred left type ≡ None
    → list_read left part type n input ≡ items_read (is_byte (Some d)) n (part (Some d)) input
free_list left part type d zero input is free = ap (λ t. items_read (is_byte t) zero (part t) input) is
free_list left part type d (suc n) input is free =
    ap (λ o. unless o (items_read (is_byte type) (suc n) (part type) input)) free
    ∙ ap (λ t. items_read (is_byte t) (suc n) (part t) input) is

-- a list of no items
pub empty_list :
    (b : Bool) (item : Reader) (input : List ℕ) → items_read b 0 item input ≡ shows (list_events b []) input
empty_list true item input = ap (λ o. with_value o (λ all rest. shows (bytes all ∷ []) rest)) (bytes_whole 0 input (omega arith))
empty_list false item input = refl
