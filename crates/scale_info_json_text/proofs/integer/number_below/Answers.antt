use Rattle.std.proofs.Common.{◌∷◌, sym, ap, subst, arith}
use Rattle.json.specs.Token as spec
use Rattle.json.specs.Reads.{token_of}
use Rattle.scale_info_json_trees.specs.Meaning.{MeansNumber}
use Rattle.scale_info_json_text.specs.Readings.{HasNoTree}
use Rattle.scale_info_json_text.proofs.Stops.{passed_syntax}
use Rattle.scale_info_json_text.proofs.Trees.{none_begins}
use Rattle.scale_info_json_text.proofs.Leaves.{number_read, number_above, number_other, number_kind, kind_of, not_kind}
use Rattle.scale_info_json_text.proofs.integer.number_below.Goals as goal

pub returns-in_err-number-clause-syntax : goal.returns-in_err-number-clause-syntax
returns-in_err-number-clause-syntax c =
    passed_syntax c.from_residual.result c.in_err-number.field-0.0 c.from_residual.ensures.1
    (λ e. subst (λ k. HasNoTree c.args.depth (token_of k ∷ c.args.reader.now)) (sym c.in-Number.is) (none_begins c.args.depth (spec.number c.in-Number.text.now) c.args.reader.now e))
    c.in_err-number.ensures.syntax

pub returns-in-Some-clause-ok : goal.returns-in-Some-clause-ok
returns-in-Some-clause-ok c =
    number_read c.args.limit c.args.depth c.args.token c.in-Number.text c.args.reader.now c.in-Number.is c.in-Some.number (rw c.in-Some.is at c.in_ok-number.ensures.ok) c.if-number-limit.true

pub returns-in_default-2-clause-ok : goal.returns-in_default-2-clause-ok
returns-in_default-2-clause-ok c =
    number_above c.args.limit c.args.depth c.args.token c.in-Number.text c.args.reader.now c.in-Number.is c.in-Some.number (rw c.in-Some.is at c.in_ok-number.ensures.ok) (λ b. omega (arith, b, c.if-number-limit.false))

pub returns-in_default-2-2-clause-ok : goal.returns-in_default-2-2-clause-ok
returns-in_default-2-2-clause-ok c =
    number_other c.args.limit c.args.depth c.args.token c.in-Number.text c.args.reader.now c.in-Number.is (rw c.in_default-2.is at c.in_ok-number.ensures.ok)

pub returns-clause-ok : goal.returns-clause-ok
returns-clause-ok c =
    not_kind c.args.depth c.args.token c.args.reader.now c.pass_rest.new.reader (MeansNumber c.args.limit) number_kind
    (λ tree v m. ap kind_of m.is) (λ b. c.in_default.not-Number b.0 b.1) c.in_ok-pass_rest.ensures.ok
