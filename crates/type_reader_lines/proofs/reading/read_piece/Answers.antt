use Rattle.std.proofs.Common.{◌≡◌, ◌≤◌, ◌+◌, ◌++◌, ◌∙◌, ◌∷◌, [], ap, append_assoc, arith, length}
use Rattle.std.proofs.Common.{length-append, subst, sym, take}
use Rattle.std.proofs.BufReadLemmas.{Consumes_shown}
use Rattle.std.proofs.Math.Seq.{take-append_seam}
use Rattle.std.specs.Io.BufRead.{FillKeeps}
use Rattle.std.specs.Io.KnownBytes.{Consumes}
use Rattle.type_reader_lines.proofs.reading.read_piece.Goals as goal

pub returns-clause-ok : goal.returns-clause-ok
returns-clause-ok g c =
    let piece = c.in-Ok.piece.now in
    let end = c.in-Some.end.now in
    let rest = c.in-Some.rest.now in
    let parts : piece ≡ (end ++ 10 ∷ []) ++ rest =
    c.in-Some.ensures.some.1 ∙ sym (append_assoc end (10 ∷ []) rest) in
    let count : length (end ++ 10 ∷ []) ≡ length end + 1 = length-append end (10 ∷ []) in
    let within : length end + 1 ≤ length piece =
    omega (arith, ap length parts, count, length-append (end ++ 10 ∷ []) rest) in
    let filled = subst (FillKeeps _ _ _) c.in-Ok.is c.fill_buf.follows.holds-at-none in
    let moved =
    Consumes_shown _ _ _ _ piece (length end + 1) within c.in-Ok.ensures.front
    c.in-Ok.ensures.end filled.0 filled.1 c.consume-2.ensures.bytes in
    let taken : take (length end + 1) piece ≡ end ++ 10 ∷ [] =
    ap (λ n. take n piece) (sym count) ∙ ap (take (length (end ++ 10 ∷ []))) parts
    ∙ take-append_seam (end ++ 10 ∷ []) rest in (
      end,
      subst (Consumes _ _) taken moved.0,
      c.in_ok-extend_from_slice-2.ensures.items,
    )
