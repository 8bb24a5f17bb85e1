use Rattle.std.proofs.Common.{◌≡◌, ◌∷◌, ◌∙◌, [], ap, refl, rules, subst, sym}
use Rattle.std.proofs.KnownBytes.{Consumes-nil}
use Rattle.std.proofs.lemmas.Result.{err_from_is_err_and}
use Rattle.std.specs.Str.Lines.{lines, strip_carriage_return}
use Rattle.type_reader_io.proofs.Lines.{last_line}
use Rattle.type_reader_lines.proofs.Steps.{converts_none, empty_list, end_read, none_written}
use Rattle.type_reader_lines.proofs.Steps.{line_read, part_read, read_then, some_list, stopped_after}
use Rattle.type_reader_lines.proofs.Steps.{stopped_reading, stops_at_write, stops_kept}
use Rattle.type_reader_lines.specs.Pieces.{IsPiece}
use Rattle.type_reader_lines.proofs.lines.convert_piece.Goals as goal

pub returns-in_err-more-clause-err : goal.returns-in_err-more-clause-err
returns-in_err-more-clause-err g c =
    let p = err_from_is_err_and c.from_residual.result c.from_residual.ensures.1 in
    rw (p.1, p.2) (stopped_reading (stops_kept refl c.in_err-more.ensures.err refl))

pub returns-in_err-convert_line-in-Line-clause-err :
    goal.returns-in_err-convert_line-in-Line-clause-err
returns-in_err-convert_line-in-Line-clause-err g c =
    let p =
    err_from_is_err_and c.from_residual-in_err-convert_line-in-Line.result
    c.from_residual-in_err-convert_line-in-Line.ensures.1 in
    rw (p.1, p.2) (stopped_reading c.in_err-convert_line-in-Line.ensures.err)

pub returns-in_err-write_beyond-in-Part-clause-err :
    goal.returns-in_err-write_beyond-in-Part-clause-err
returns-in_err-write_beyond-in-Part-clause-err g c =
    let p =
    err_from_is_err_and c.from_residual-in_err-write_beyond-in-Part.result
    c.from_residual-in_err-write_beyond-in-Part.ensures.1 in
    rw (p.1, p.2)
    (stopped_reading
    (stops_at_write refl c.in_err-write_beyond-in-Part.ensures.err
    c.in_err-write_beyond-in-Part.ensures.error refl))

pub returns-in_ok-write_beyond-in-Part-clause-more :
    goal.returns-in_ok-write_beyond-in-Part-clause-more
returns-in_ok-write_beyond-in-Part-clause-more g c is =
    let read =
    subst
    (λ p. IsPiece p (g.S.Read.remaining c.args.second.now)
    (g.S.Read.remaining c.read_piece.new.second) c.args.line.now.items
    c.read_piece.new.line.items)
    c.in-Part.is c.in_ok-more.ensures.ok in
    part_read read.0 read.1 read.2 c.in_ok-write_beyond-in-Part.ensures.ok refl refl refl

pub returns-then-is_empty-clause-end : goal.returns-then-is_empty-clause-end
returns-then-is_empty-clause-end g c is =
    let read =
    subst
    (λ p. IsPiece p (g.S.Read.remaining c.args.second.now)
    (g.S.Read.remaining c.read_piece.new.second) c.args.line.now.items
    c.read_piece.new.line.items)
    c.in-End.is c.in_ok-more.ensures.ok in
    let none : c.read_piece.new.line.items ≡ [] =
    empty_list c.read_piece.new.line.items (search rules) in
    end_read read.0 read.1 read.2 (sym (ap lines none)) (converts_none none_written refl refl refl)

pub returns-in_err-convert_line-in-End-clause-err :
    goal.returns-in_err-convert_line-in-End-clause-err
returns-in_err-convert_line-in-End-clause-err g c =
    let p =
    err_from_is_err_and c.from_residual-in_err-convert_line-in-End.result
    c.from_residual-in_err-convert_line-in-End.ensures.1 in
    rw (p.1, p.2) (stopped_reading c.in_err-convert_line-in-End.ensures.err)

pub returns-in_err-write_beyond-in-Line-clause-err :
    goal.returns-in_err-write_beyond-in-Line-clause-err
returns-in_err-write_beyond-in-Line-clause-err g c =
    let read =
    subst
    (λ p. IsPiece p (g.S.Read.remaining c.args.second.now)
    (g.S.Read.remaining c.read_piece.new.second) c.args.line.now.items
    c.read_piece.new.line.items)
    c.in-Line.is c.in_ok-more.ensures.ok in
    let so_far =
    line_read read.0 read.1 read.2 c.in_ok-more.ensures.without
    (c.without_return.ensures ∙ ap strip_carriage_return c.deref.ensures.value)
    c.in_ok-convert_line-in-Line.ensures.ok in
    let p =
    err_from_is_err_and c.from_residual-in_err-write_beyond-in-Line.result
    c.from_residual-in_err-write_beyond-in-Line.ensures.1 in
    rw (p.1, p.2)
    (stopped_after so_far
    (stopped_reading
    (stops_at_write refl c.in_err-write_beyond-in-Line.ensures.err
    c.in_err-write_beyond-in-Line.ensures.error refl)))

pub returns-in_ok-write_beyond-in-Line-clause-more :
    goal.returns-in_ok-write_beyond-in-Line-clause-more
returns-in_ok-write_beyond-in-Line-clause-more g c is =
    let read =
    subst
    (λ p. IsPiece p (g.S.Read.remaining c.args.second.now)
    (g.S.Read.remaining c.read_piece.new.second) c.args.line.now.items
    c.read_piece.new.line.items)
    c.in-Line.is c.in_ok-more.ensures.ok in
    let so_far =
    line_read read.0 read.1 read.2 c.in_ok-more.ensures.without
    (c.without_return.ensures ∙ ap strip_carriage_return c.deref.ensures.value)
    c.in_ok-convert_line-in-Line.ensures.ok in
    read_then so_far
    (part_read [] (Consumes-nil (g.S.Read.remaining c.read_piece.new.second))
    c.clear.ensures.items c.in_ok-write_beyond-in-Line.ensures.ok refl refl refl)

pub returns-in_ok-convert_line-in-End-clause-end :
    goal.returns-in_ok-convert_line-in-End-clause-end
returns-in_ok-convert_line-in-End-clause-end g c is =
    let read =
    subst
    (λ p. IsPiece p (g.S.Read.remaining c.args.second.now)
    (g.S.Read.remaining c.read_piece.new.second) c.args.line.now.items
    c.read_piece.new.line.items)
    c.in-End.is c.in_ok-more.ensures.ok in
    let line = c.read_piece.new.line.items in
    end_read read.0 read.1 read.2
    (ap (λ l. l ∷ []) c.deref-in-End.ensures.value
    ∙ sym (last_line line (some_list line (search rules)) c.in_ok-more.ensures.without))
    c.in_ok-convert_line-in-End.ensures.ok
