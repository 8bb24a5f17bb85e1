use Rattle.std.proofs.Common.{◌≡◌, ◌≤◌, ◌∙◌, true, false, ap, arith, length, refl, rules, subst, sym}
use Rattle.std.proofs.lemmas.List.{drop_all}
use Rattle.type_reader_run.proofs.Told.{all_told, none_told, not_told, one_told}
use Rattle.type_reader_run.specs.Differences.{AreLinesOf, is_of}
use Rattle.std.specs.List.{filter}
use Rattle.type_reader_run.proofs.diff.lines_of.Goals as goal

pub loop-change-init : goal.loop-change-init
loop-change-init c = (refl, refl, search rules)

pub loop-change-preserved-then-not-is_of : goal.loop-change-preserved-then-not-is_of
loop-change-preserved-then-not-is_of c =
    let kept = c.loop-change.invariant in
    let off : c.is_of.result ≡ false = search rules in (
      kept.0,
      kept.1,
      not_told c.loop-change.change-index c.change-item.result c.loop-change-test.true
          c.change-item.is kept.2 (sym c.is_of.ensures ∙ off),
    )

pub loop-change-preserved : goal.loop-change-preserved
loop-change-preserved c =
    let kept = c.loop-change.invariant in
    let on : c.is_of.result ≡ true = search rules in (
      c.in_ok-append_change.ensures.old ∙ kept.0,
      c.in_ok-append_change.ensures.new ∙ kept.1,
      one_told c.loop-change.change-index c.change-item.result c.loop-change-test.true
          c.change-item.is kept.2 (sym c.is_of.ensures ∙ on)
          (rw (kept.0, kept.1) at c.in_ok-append_change.ensures.ok),
    )

pub returns : goal.returns
returns c =
    let changes = c.args.changes.now in
    let past : length changes ≤ c.loop-change.change-index = omega arith in
    subst (AreLinesOf c.args.old.now c.args.new.now (filter (is_of c.args.paths.now) changes))
    (ap (λ v. v.items) (sym c.into_bytes.ensures.value))
    (all_told (drop_all c.loop-change.change-index changes past) c.loop-change.invariant.2)
