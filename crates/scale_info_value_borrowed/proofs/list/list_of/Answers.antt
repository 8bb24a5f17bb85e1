use Rattle.std.proofs.Common.{Bool, ◌/◌, map, length, ap, sym, ◌∙◌}
use Rattle.std.specs.Int.{byte_len}
use Rattle.std.specs.List.{range_with_len}
use Rattle.scale_info_value.specs.declared.value.Value.TheVariants as Values
use Rattle.scale_info_value.specs.declared.integer.IntegerWidth.{IntegerWidth}
use Rattle.scale_info_value.specs.IntegerWidths.{width_of}
use Rattle.scale_info_value_borrowed.specs.IntegerLists.{item_at}
use Rattle.scale_info_value_borrowed.proofs.Copies.{bytes_copied}
use Rattle.scale_info_value_borrowed.proofs.InBytes.{bytes_are}
use Rattle.scale_info_value_borrowed.proofs.list.list_of.Goals as goal

pub returns-in-One : goal.returns-in-One
returns-in-One c =
    let all = c.args.integers.bytes.now in
    let items = λ (w : IntegerWidth) (signed : Bool).
    Values.List (map (item_at w signed all) (range_with_len 0 (length all / byte_len (width_of w)))) in
    bytes_copied c.args.integers.bytes
    ∙ ap (λ vs. Values.List vs) (sym (bytes_are all))
    ∙ (λ i. items (sym c.in-One.is i) (sym c.if-not-integers.true i))
