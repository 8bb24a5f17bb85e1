use Rattle.std.proofs.Common.{List, ℕ, subst}
use Rattle.std.proofs.lemmas.Result.{IfOk-weaker}
use Rattle.scale_info_segments.specs.TypePaths.{IsFirstInvalidIndex, text_pairs}
use Rattle.scale_info_segments.proofs.TypePaths.{declared_more, texts_same}
use Rattle.scale_info_segments.proofs.segments.declared_segments.Goals as goal

pub returns-clause-ok : goal.returns-clause-ok
returns-clause-ok c =
    let declared =
    declared_more
    (text_pairs c.args.pairs.now) c.args.ident.now c.args.module_path.now c.in_ok-segments.segments.items
    c.replacement.result c.push.new.self.items c.in_ok-segments.ensures c.replacement.ensures c.in_ok-push.ensures.items in
    IfOk-weaker c.path_segments.result _ _
    (λ path known. (declared.0, declared.1, texts_same _ _ _ known.0 declared.2, known.1))
    c.path_segments.ensures.ok

pub returns-clause-invalid : goal.returns-clause-invalid
returns-clause-invalid c =
    λ segment is.
    let declared =
    declared_more
    (text_pairs c.args.pairs.now) c.args.ident.now c.args.module_path.now c.in_ok-segments.segments.items
    c.replacement.result c.push.new.self.items c.in_ok-segments.ensures c.replacement.ensures c.in_ok-push.ensures.items in (
      declared.0,
      declared.1,
      subst (λ (all : List (List ℕ)). IsFirstInvalidIndex all segment) declared.2 (c.path_segments.ensures.invalid segment is),
    )
