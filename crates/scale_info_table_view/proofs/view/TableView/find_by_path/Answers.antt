use Rattle.std.proofs.Common.{rules, ◌≡◌, length, arith}
use Rattle.scale_info_segments.specs.TypePaths.{texts}
use Rattle.scale_info_table_view.proofs.PathsFound.{first_found, none_yet}
use Rattle.scale_info_table_view.proofs.Viewed.{not_past, view_few, view_long}
use Rattle.scale_info_table_view.proofs.view.TableView.find_by_path.Goals as goal

pub unreachable-requires : goal.unreachable-requires
unreachable-requires c =
    let long = view_long _ _ c.self.inside.table c.args.self.now c.self.view_is in
    let count : c.len-index-end.result ≡ length c.args.self.now.types = search rules in
    not_past c.args.self.now.types c.loop-index.index (omega arith) c.in_default.ensures.none

pub overflow_cast-result : goal.overflow_cast-result
overflow_cast-result c =
    let few = view_few _ _ c.self.inside.table c.args.self.now c.self.view_is in
    let count : c.len-index-end.result ≡ length c.self.inside.offsets.items = search rules in
    search rules

pub returns-then-has_path-clause-some : goal.returns-then-has_path-clause-some
returns-then-has_path-clause-some c =
    first_found c.args.self.now.types c.loop-index.index c.in-Some.bytes.now (texts c.args.path.now) c.has_path.result
    c.in-Some.ensures.some c.has_path.ensures c.if-has_path.true c.loop-index.invariant

pub loop-index-preserved : goal.loop-index-preserved
loop-index-preserved c =
    none_yet c.args.self.now.types c.loop-index.index c.in-Some.bytes.now (texts c.args.path.now) c.has_path.result
    c.in-Some.ensures.some c.has_path.ensures c.if-has_path.false c.loop-index.invariant

pub returns-clause-none : goal.returns-clause-none
returns-clause-none c = λ index entry inside found.
    let long = view_long _ _ c.self.inside.table c.args.self.now c.self.view_is in
    let count : c.len-index-end.result ≡ length c.args.self.now.types = search rules in
    c.loop-index.invariant index entry (omega arith) found
