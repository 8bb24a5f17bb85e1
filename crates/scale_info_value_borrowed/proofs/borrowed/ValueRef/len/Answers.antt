use Rattle.std.proofs.Common.{ap, sym, ◌∙◌, map, length, option_map}
use Rattle.std.proofs.lemmas.List.{length-map}
use Rattle.scale_info_value.specs.declared.value.Value.TheVariants as Values
use Rattle.scale_info_value_borrowed.specs.IntegerLists.{integers_of}
use Rattle.scale_info_value_borrowed.specs.BorrowedValues.{owned_value}
use Rattle.scale_info_value_borrowed.proofs.Copies.{bytes_copied, integers_copied, list_copied}
use Rattle.scale_info_value_borrowed.proofs.Parts.{length_found, no_items}
use Rattle.scale_info_value_borrowed.proofs.borrowed.ValueRef.len.Goals as goal

pub returns-in-Bytes : goal.returns-in-Bytes
returns-in-Bytes c =
    let all = c.in-Bytes.bytes.now in
    length_found c.args.self.now (map Values.Unsigned all) (length all)
    (ap owned_value c.in-Bytes.is ∙ bytes_copied c.in-Bytes.bytes) (sym (length-map all Values.Unsigned))

pub returns-in-Integers : goal.returns-in-Integers
returns-in-Integers c =
    let list = c.in-Integers.integers in
    length_found c.args.self.now (integers_of list) c.len.result (ap owned_value c.in-Integers.is ∙ integers_copied list)
    c.len.ensures

pub returns-in-List : goal.returns-in-List
returns-in-List c =
    let items = c.in-List.items in
    length_found c.args.self.now (map owned_value items) c.len-in-List.result (ap owned_value c.in-List.is ∙ list_copied items)
    (c.len-in-List.ensures ∙ sym (length-map items owned_value))

pub returns-in_default : goal.returns-in_default
returns-in_default c =
    ap (λ o. option_map length o)
    (sym (no_items c.args.self.now c.in_default.not-Bytes c.in_default.not-Integers c.in_default.not-List))
