use Rattle.std.proofs.Common.{◌∙◌, ◌<◌, ◌*◌, length, arith, subst}
use Rattle.std.specs.Int.{byte_len}
use Rattle.scale_info_value.specs.IntegerWidths.{width_of, integer_of}
use Rattle.scale_info_value.specs.ValueDefinitions.{primitive}
use Rattle.scale_info_value.proofs.InOrder.{alike, done_more, done_all}
use Rattle.scale_info_value.proofs.Integers.{integer_read, values_missing, still_there}
use Rattle.scale_info_value.proofs.list.integers.Goals as goal

pub returns-then-input-count-clause-err : goal.returns-then-input-count-clause-err
returns-then-input-count-clause-err c =
    alike c.args.count c.args.input.now c.requires
    ∙ values_missing (integer_of c.args.form c.args.signed) c.args.count (byte_len (width_of c.args.form))
    c.args.input.now
    (subst (λ w. length c.args.input.now < c.args.count * w) c.bytes-width.ensures c.if-input-count.true)

pub loop-preserved : goal.loop-preserved
loop-preserved c =
    let width = c.bytes-width.result in
    let rest = c.loop.rest.now in
    let read =
    c.requires rest
    ∙ integer_read c.args.form c.args.signed width rest c.number.result c.split_at.result.0.now
    c.split_at.result.1.now (omega arith) c.bytes-width.ensures c.number.ensures c.split_at.ensures.front
    c.split_at.ensures.back in
    record {
      done =
          rw c.push_reserved.ensures.items
          (done_more c.args.count (primitive c.args.kind.now) c.args.input.now c.loop.counter c.loop.values.items rest
          c.number.result c.split_at.result.1.now c.loop-test.true c.loop.invariant.done read);
      there =
          still_there c.args.count c.loop.counter width (length rest) (length c.split_at.result.1.now)
          c.loop-test.true c.loop.invariant.there c.split_at.ensures.back_len;
      long = omega arith;
      room = omega arith;
    }

pub returns-clause-ok : goal.returns-clause-ok
returns-clause-ok c =
    rw c.from.ensures
    (done_all c.args.count (primitive c.args.kind.now) c.args.input.now c.loop.counter c.loop.values.items
    c.loop.rest.now c.loop-test.false c.loop.invariant.done)
