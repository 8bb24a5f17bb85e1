use Rattle.std.proofs.Common.{ℕ, Bool, true, false, length, ◌/◌, ◌*◌, ◌+◌, ◌<◌, ◌≤◌, ◌≡◌, List, Some, sym, ap, ◌∙◌, arith, subst, take, drop, slice_get}
use Rattle.std.proofs.lemmas.List.FromFn.{length-map-range_with_len}
use Rattle.std.specs.Prelude.{if◌then◌else◌}
use Rattle.std.specs.Int.{byte_len, cast_signed, w128}
use Rattle.std.proofs.lemmas.Int.{to_z-of_z}
use Rattle.scale_info_value.specs.declared.value.Value.TheVariants as Values
use Rattle.scale_info_value.specs.IntegerDecoders.{little_endian}
use Rattle.scale_info_value_borrowed.specs.declared.integers.Integers.{Integers}
use Rattle.scale_info_value.specs.IntegerWidths.{width_of}
use Rattle.scale_info_value_borrowed.specs.IntegerLists.{item_at, integers_of}
use Rattle.scale_info_value_borrowed.proofs.InBytes.{bytes_fit, item_there}
use Rattle.scale_info_value_borrowed.proofs.integers.Integers.item.Goals as goal

-- an index below the number of items is below the number of widths
inside :
    (list : Integers) (i : ℕ) → i < length (integers_of list)
    → i < length list.bytes.now / byte_len (width_of list.width)
inside list i h =
    subst (λ m. i < m)
    (length-map-range_with_len (item_at list.width list.signed list.bytes.now) 0
    (length list.bytes.now / byte_len (width_of list.width))) h

-- so its bytes are there
fits :
    (list : Integers) (i w : ℕ) → i < length (integers_of list) → w ≡ byte_len (width_of list.width)
    → i * w + w ≤ length list.bytes.now
fits list i w h f =
    subst (λ v. i * v + v ≤ length list.bytes.now) (sym f)
    (bytes_fit (length list.bytes.now) (byte_len (width_of list.width)) i (inside list i h))

-- and they are the item
is_item :
    (list : Integers) (signed : Bool) (i w n : ℕ) (rest bytes : List ℕ) → list.signed ≡ signed
    → i < length (integers_of list)
    → w ≡ byte_len (width_of list.width) → rest ≡ drop (i * w) list.bytes.now → bytes ≡ take w rest
    → n ≡ little_endian bytes
    → slice_get (integers_of list) i
    ≡ Some (if signed then Values.Signed (cast_signed (width_of list.width) n) else Values.Unsigned n)
is_item list signed i w n rest bytes sign h e f g k =
    let count = length list.bytes.now / byte_len (width_of list.width) in
    let read : ℕ → ℕ = λ v. little_endian (take v (drop (i * v) list.bytes.now)) in
    let same : n ≡ read (byte_len (width_of list.width)) =
    k ∙ ap little_endian (g ∙ ap (λ b. take w b) f) ∙ ap read e in
    item_there (item_at list.width list.signed list.bytes.now) count i (inside list i h)
    ∙ (λ j. Some (if sign j then Values.Signed (cast_signed (width_of list.width) (sym same j)) else Values.Unsigned (sym same j)))

pub overflow_mul-index : goal.overflow_mul-index
overflow_mul-index c =
    let h = fits c.args.self.now c.args.index c.bytes-width.result c.requires c.bytes-width.ensures in
    omega (arith, h)

pub split_at-requires : goal.split_at-requires
split_at-requires c =
    let h = fits c.args.self.now c.args.index c.bytes-width.result c.requires c.bytes-width.ensures in
    omega (arith, h)

pub split_at-requires-2 : goal.split_at-requires-2
split_at-requires-2 c =
    let h = fits c.args.self.now c.args.index c.bytes-width.result c.requires c.bytes-width.ensures in
    omega (arith, h, c.split_at.ensures.back_len)

pub returns-then-self : goal.returns-then-self
returns-then-self c =
    is_item c.args.self.now true c.args.index c.bytes-width.result c.little_endian-integer.result c.split_at.result.1.now
    c.split_at-2.result.0.now c.if-self.true c.requires c.bytes-width.ensures c.split_at.ensures.back
    c.split_at-2.ensures.front c.little_endian-integer.ensures.integer
    ∙ ap (λ z. Some (Values.Signed z))
    (sym c.with_sign.ensures.integer ∙ sym (to_z-of_z w128 c.with_sign.result c.with_sign.ensures.range))

pub returns-else-self : goal.returns-else-self
returns-else-self c =
    is_item c.args.self.now false c.args.index c.bytes-width.result c.little_endian-integer.result c.split_at.result.1.now
    c.split_at-2.result.0.now c.if-self.false c.requires c.bytes-width.ensures c.split_at.ensures.back
    c.split_at-2.ensures.front c.little_endian-integer.ensures.integer
