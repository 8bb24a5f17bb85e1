use Rattle.std.proofs.Common.{◌≡◌, None, arith}
use Rattle.json.specs.Json.{after_end_array}
use Rattle.scale_info_json_text.proofs.Stops.{passed_syntax}
use Rattle.scale_info_json_text.proofs.Trees.{reads_shorter, items_start, items_next, items_stop, items_done}
use Rattle.scale_info_json_text.proofs.Lists.{no_trees, one_more_meant}
use Rattle.scale_info_json_text.proofs.list.read_items.Goals as goal

pub items-init : goal.items-init
items-init g c = items_start _ c.args.depth c.args.source.now.reader (no_trees g.T.JsonText.meant c.new.result c.new.ensures)

pub returns-in_err-found-clause-syntax : goal.returns-in_err-found-clause-syntax
returns-in_err-found-clause-syntax g c =
    let going : (after_end_array c.items.source.reader ≡ None) × (c.take_end_array.new.self ≡ c.items.source.reader) = grind arith in
    passed_syntax c.from_residual.result c.in_err-found.field-0.0 c.from_residual.ensures.1
    (λ e. items_stop c.args.depth c.args.source.now.reader c.items.source.reader c.items.invariant going.0 (rw going.1 at e))
    c.in_err-found.ensures.syntax

pub items-smaller : goal.items-smaller
items-smaller g c =
    let going : (after_end_array c.items.source.reader ≡ None) × (c.take_end_array.new.self ≡ c.items.source.reader) = grind arith in
    rw going.1 at (reads_shorter c.args.depth c.take_end_array.new.self c.read_value.new.source.reader c.in_ok-found.ensures.ok)

pub items-preserved : goal.items-preserved
items-preserved g c =
    let going : (after_end_array c.items.source.reader ≡ None) × (c.take_end_array.new.self ≡ c.items.source.reader) = grind arith in
    items_next c.args.depth c.args.source.now.reader c.items.source.reader c.read_value.new.source.reader c.items.invariant going.0 (rw going.1 at c.in_ok-found.ensures.ok)
    (λ ds d p q. one_more_meant g.T.JsonText.meant ds d c.items.values c.in_ok-found.found c.in_ok-values.values p q c.in_ok-values.ensures)

pub returns-clause-ok : goal.returns-clause-ok
returns-clause-ok g c = items_done c.args.depth c.args.source.now.reader c.items.source.reader c.take_end_array.new.self c.items.invariant (grind arith)
