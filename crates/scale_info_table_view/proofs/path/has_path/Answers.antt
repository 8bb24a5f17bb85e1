use Rattle.std.proofs.Common.{◌∙◌, ap, sym, length}
use Rattle.std.proofs.lemmas.Bool.{false≢true}
use Rattle.scale_info_table_view.proofs.ClosedEntries.{after_id, no_id}
use Rattle.scale_info_table_view.proofs.PathsFound.{as_long, no_segments, path_parts}
use Rattle.scale_info_table_view.proofs.path.has_path.Goals as goal

pub returns-in_default : goal.returns-in_default
returns-in_default c = λ entry rest whole.
    absurd (no_id c.args.bytes.now rest entry c.in_default.ensures.none whole)

pub returns-in_default-decode_compact : goal.returns-in_default-decode_compact
returns-in_default-decode_compact c = λ entry rest whole.
    let described =
    after_id c.in-Some.field-0-0 c.args.bytes.now c.in-Some.description.now rest entry c.in-Some.ensures.some whole in
    absurd (no_segments c.in-Some.description.now rest entry.ty c.in_default-decode_compact.ensures.none described.1)

pub returns-then-count-path : goal.returns-then-count-path
returns-then-count-path c = λ entry rest whole.
    let described =
    after_id c.in-Some.field-0-0 c.args.bytes.now c.in-Some.description.now rest entry c.in-Some.ensures.some whole in
    let parts =
    path_parts c.in-Some-decode_compact.count c.in-Some.description.now c.in-Some-decode_compact.segments.now rest entry.ty c.in-Some-decode_compact.ensures.some
    described.1 in (
      λ yes. absurd (false≢true yes),
      λ same. absurd (c.if-count-path.true (sym parts.0 ∙ ap length same ∙ as_long c.args.path.now)),
    )

pub returns : goal.returns
returns c = λ entry rest whole.
    let described =
    after_id c.in-Some.field-0-0 c.args.bytes.now c.in-Some.description.now rest entry c.in-Some.ensures.some whole in
    let parts =
    path_parts c.in-Some-decode_compact.count c.in-Some.description.now c.in-Some-decode_compact.segments.now rest entry.ty c.in-Some-decode_compact.ensures.some
    described.1 in
    c.has_segments.ensures entry.ty.path.segments parts.1.0 (parts.0 ∙ c.if-count-path.false) parts.1.1
