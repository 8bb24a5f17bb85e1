use Rattle.std.proofs.Common.{◌≡◌, IsFalse, IsTrue, rules, subst}
use Rattle.std.proofs.lemmas.List.{take_all}
use Rattle.std.proofs.lemmas.List.Elements.{All-more}
use Rattle.std.specs.List.{All}
use Rattle.type_reader_run.proofs.Told.{unknown_path}
use Rattle.type_reader_run.specs.Differences.{IsInEither}
use Rattle.type_reader_run.proofs.diff.check_paths.Goals as goal

pub returns-then-not-is_in_either-clause-err : goal.returns-then-not-is_in_either-clause-err
returns-then-not-is_in_either-clause-err c =
    let off : IsFalse c.is_in_either.result = search rules in
    let none = c.is_in_either.ensures.none off in
    unknown_path c.args.old.now c.args.new.now c.args.paths.now c.loop-path.path-index
    c.path-item.result c.no_such_path.result c.loop-path-test.true c.path-item.is
    c.loop-path.invariant none.0 none.1 c.no_such_path.ensures.is

pub loop-path-preserved : goal.loop-path-preserved
loop-path-preserved c =
    let on : IsTrue c.is_in_either.result = search rules in
    All-more (IsInEither c.args.old.now c.args.new.now) c.args.paths.now c.loop-path.path-index
    c.path-item.result c.loop-path-test.true c.loop-path.invariant
    (subst (IsInEither c.args.old.now c.args.new.now) c.path-item.is (c.is_in_either.ensures.some on))

pub returns-clause-ok : goal.returns-clause-ok
returns-clause-ok c =
    subst (All (IsInEither c.args.old.now c.args.new.now))
    (take_all c.loop-path.path-index c.args.paths.now c.loop-path-test.false)
    c.loop-path.invariant
