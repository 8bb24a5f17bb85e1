use Rattle.std.proofs.Common.{rules}
use Rattle.std.proofs.lemmas.Str.{IsUtf8-from_ascii}
use Rattle.scale_info_bytes.proofs.Ascii.{after_ascii}
use Rattle.scale_info_bytes.proofs.utf8.after_ascii.Goals as goal

pub returns-then-leading-lt16-clause-utf8 : goal.returns-then-leading-lt16-clause-utf8
returns-then-leading-lt16-clause-utf8 c = λ u.
    c.loop-rest.invariant.1
    (after_ascii c.loop-rest.rest.now _ c.leading_ascii-leading.ensures.ascii u)

pub loop-rest-preserved : goal.loop-rest-preserved
loop-rest-preserved c = (
  search rules,
  λ u.
      c.loop-rest.invariant.1
      (after_ascii c.loop-rest.rest.now _ c.leading_ascii-leading.ensures.ascii u),
)

pub returns-then-is_ascii_in_two-clause-utf8 : goal.returns-then-is_ascii_in_two-clause-utf8
returns-then-is_ascii_in_two-clause-utf8 c = λ _.
    c.loop-rest.invariant.1
    (IsUtf8-from_ascii c.loop-rest.rest.now (c.is_ascii_in_two.ensures c.if-is_ascii_in_two.true))

pub returns-clause-utf8 : goal.returns-clause-utf8
returns-clause-utf8 c = λ u.
    c.loop-rest.invariant.1
    (after_ascii c.loop-rest.rest.now _ c.leading_ascii.ensures.ascii u)
