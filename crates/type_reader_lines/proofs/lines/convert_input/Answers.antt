use Rattle.std.proofs.Common.{◌==◌, ◌≡◌, [], false, inr, refl, rules, subst, sym}
use Rattle.std.proofs.KnownBytes.{Consumes-nil}
use Rattle.std.proofs.lemmas.List.Elements.{All-nil}
use Rattle.std.proofs.lemmas.Result.{err_from_is_err_and}
use Rattle.type_reader_io.specs.Inputs.{IsWithoutFeed}
use Rattle.type_reader_lines.proofs.Steps.{all_after, none_written, part_read, read_then}
use Rattle.type_reader_lines.proofs.Steps.{stopped_after, stopped_reading, stops_kept}
use Rattle.type_reader_lines.proofs.lines.convert_input.Goals as goal

pub loop-init : goal.loop-init
loop-init g c = (
  subst IsWithoutFeed (sym c.new-line.ensures.items) (All-nil (λ byte. (byte == 10) ≡ false)),
  part_read [] (Consumes-nil (g.S.Read.remaining c.args.second.now)) c.new-line.ensures.items
      none_written refl refl refl,
)

pub returns-in_err-convert_piece-clause-err : goal.returns-in_err-convert_piece-clause-err
returns-in_err-convert_piece-clause-err g c =
    let p = err_from_is_err_and c.from_residual.result c.from_residual.ensures.1 in
    rw (p.1, p.2) (stopped_after c.loop.invariant.1 c.in_err-convert_piece.ensures.err)

pub returns-then-not-branch-clause-ok : goal.returns-then-not-branch-clause-ok
returns-then-not-branch-clause-ok g c =
    all_after c.loop.invariant.1 (c.in_ok-convert_piece.ensures.end (search rules))

pub loop-preserved : goal.loop-preserved
loop-preserved g c = (
  c.in_ok-convert_piece.ensures.without (search rules),
  read_then c.loop.invariant.1 (c.in_ok-convert_piece.ensures.more (search rules)),
)

pub returns-clause-err : goal.returns-clause-err
returns-clause-err g c =
    stopped_after c.loop.invariant.1 (stopped_reading (stops_kept refl (inr refl) refl))
