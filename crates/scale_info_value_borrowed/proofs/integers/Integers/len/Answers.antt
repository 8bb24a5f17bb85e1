use Rattle.std.proofs.Common.{length, ◌/◌, sym, ap, ◌∙◌}
use Rattle.std.specs.Int.{byte_len}
use Rattle.std.proofs.lemmas.List.FromFn.{length-map-range_with_len}
use Rattle.scale_info_value.specs.IntegerWidths.{width_of}
use Rattle.scale_info_value_borrowed.specs.IntegerLists.{item_at}
use Rattle.scale_info_value_borrowed.proofs.integers.Integers.len.Goals as goal

pub returns : goal.returns
returns c =
    let list = c.args.self.now in
    ap (λ w. length list.bytes.now / w) c.bytes.ensures
    ∙ sym (length-map-range_with_len (item_at list.width list.signed list.bytes.now) 0
    (length list.bytes.now / byte_len (width_of list.width)))
