use Rattle.std.proofs.Common.{Some, ap, sym, ◌∙◌, map, option_map, option_and_then, slice_get}
use Rattle.std.specs.Option.{option_copied}
use Rattle.std.proofs.lemmas.Option.{slice_get-map}
use Rattle.scale_info_value.specs.declared.value.Value.TheVariants as Values
use Rattle.scale_info_value_borrowed.specs.IntegerLists.{integers_of}
use Rattle.scale_info_value_borrowed.specs.BorrowedValues.{owned_value, value_of}
use Rattle.scale_info_value_borrowed.proofs.Copies.{bytes_copied, integers_copied, unsigned_copied}
use Rattle.scale_info_value_borrowed.proofs.Parts.{item_found, no_items, borrowed_item, listed_at}
use Rattle.scale_info_value_borrowed.proofs.borrowed.ValueRef.at.Goals as goal

pub returns-in_err-byte-in-Bytes : goal.returns-in_err-byte-in-Bytes
returns-in_err-byte-in-Bytes c =
    let all = c.in-Bytes.bytes.now in
    let past = borrowed_item all c.args.index c.get.result c.get.ensures.lookup ∙ ap option_copied c.in_err-byte-in-Bytes.was in
    ap (λ o. option_map value_of o) c.from_residual.ensures
    ∙ ap (λ o. option_map Values.Unsigned o) (sym past) ∙ sym (slice_get-map Values.Unsigned all c.args.index)
    ∙ item_found c.args.self.now (map Values.Unsigned all) c.args.index
    (ap owned_value c.in-Bytes.is ∙ bytes_copied c.in-Bytes.bytes)

pub returns-in_ok-byte-in-Bytes : goal.returns-in_ok-byte-in-Bytes
returns-in_ok-byte-in-Bytes c =
    let all = c.in-Bytes.bytes.now in
    let there = borrowed_item all c.args.index c.get.result c.get.ensures.lookup ∙ ap option_copied c.in_ok-byte-in-Bytes.was in
    ap (λ v. Some v) (unsigned_copied c.in_ok-byte-in-Bytes.byte.now)
    ∙ ap (λ o. option_map Values.Unsigned o) (sym there) ∙ sym (slice_get-map Values.Unsigned all c.args.index)
    ∙ item_found c.args.self.now (map Values.Unsigned all) c.args.index
    (ap owned_value c.in-Bytes.is ∙ bytes_copied c.in-Bytes.bytes)

pub returns-in_err-at-in-Integers : goal.returns-in_err-at-in-Integers
returns-in_err-at-in-Integers c =
    let list = c.in-Integers.integers in
    ap (λ o. option_map value_of o) c.from_residual-in_err-at-in-Integers.ensures ∙ c.in_err-at-in-Integers.ensures
    ∙ item_found c.args.self.now (integers_of list) c.args.index (ap owned_value c.in-Integers.is ∙ integers_copied list)

pub returns-in_ok-at-in-Integers : goal.returns-in_ok-at-in-Integers
returns-in_ok-at-in-Integers c =
    let list = c.in-Integers.integers in
    c.in_ok-at-in-Integers.ensures
    ∙ item_found c.args.self.now (integers_of list) c.args.index (ap owned_value c.in-Integers.is ∙ integers_copied list)

pub returns-in_err-get-in-List : goal.returns-in_err-get-in-List
returns-in_err-get-in-List c =
    ap (λ o. option_map value_of o) c.from_residual-in_err-get-in-List.ensures
    ∙ listed_at c.args.self.now c.in-List.items c.as_slice.result.now c.args.index c.get-in-List.result _ c.in-List.is
    c.as_slice.ensures c.get-in-List.ensures.lookup c.in_err-get-in-List.was

pub returns-in_ok-get-in-List : goal.returns-in_ok-get-in-List
returns-in_ok-get-in-List c =
    listed_at c.args.self.now c.in-List.items c.as_slice.result.now c.args.index c.get-in-List.result _ c.in-List.is
    c.as_slice.ensures c.get-in-List.ensures.lookup c.in_ok-get-in-List.was

pub returns-in_default : goal.returns-in_default
returns-in_default c =
    ap (λ o. option_and_then (λ vs. slice_get vs c.args.index) o)
    (sym (no_items c.args.self.now c.in_default.not-Bytes c.in_default.not-Integers c.in_default.not-List))
