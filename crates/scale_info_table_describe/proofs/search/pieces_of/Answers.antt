use Rattle.std.proofs.Common.{[], refl, rules}
use Rattle.scale_info_segments.proofs.TypePaths.{after_is_shorter, cut_all, cut_more}
use Rattle.scale_info_segments.proofs.TypePaths.{split_at_separator}
use Rattle.scale_info_table_describe.proofs.Searched.{pieces_are}
use Rattle.scale_info_table_describe.proofs.search.pieces_of.Goals as goal

pub pieces-preserved : goal.pieces-preserved
pieces-preserved c =
    let around =
    rw c.in-Some.is at (split_at_separator c.pieces.rest.now c.split_once.result c.split_once.ensures.cases) in (
      search rules,
      cut_more [] c.args.text.now c.pieces.rest.now _ _ c.pieces.all.items c.in-Some.before _
          c.pieces.invariant.1 around refl c.in_ok-push.ensures.items,
    )

pub pieces-smaller : goal.pieces-smaller
pieces-smaller c =
    let around =
    rw c.in-Some.is at (split_at_separator c.pieces.rest.now c.split_once.result c.split_once.ensures.cases) in
    after_is_shorter c.pieces.rest.now _ _ around

pub returns : goal.returns
returns c =
    let lacks =
    rw c.in_default.is at (split_at_separator c.pieces.rest.now c.split_once.result c.split_once.ensures.cases) in
    pieces_are c.args.text.now _
    (cut_all [] c.args.text.now c.pieces.rest.now c.pieces.all.items c.pieces.rest _
    c.pieces.invariant.1 lacks refl c.in_ok-push-2.ensures.items)
