use Rattle.std.proofs.Common.{◌∷◌, [], ◌++◌, ◌+◌, ◌∙◌, map, take, drop, length, refl, ap, sym, slice_index_or}
use Rattle.std.proofs.lemmas.List.{append-nil}
use Rattle.scale_info_value_visit.specs.Events.{begin_list, end_list, unsigned}
use Rattle.scale_info_value_visit.proofs.Bytes.{one_byte, all_bytes, bytes_split}
use Rattle.scale_info_value_visit.proofs.Visiting.{appended, passed_on}
use Rattle.scale_info_value_visit.proofs.visitor.ValueVisitor.bytes_one_by_one.Goals as goal

pub loop-byte-preserved : goal.loop-byte-preserved
loop-byte-preserved g c =
    appended g.met.Self.ValueVisitor.visited_append (one_byte c.args.all.now c.loop-byte.byte-index c.loop-byte-test.true)
    c.loop-byte.invariant c.in_ok-unsigned.ensures.ok

pub returns-clause-ok : goal.returns-clause-ok
returns-clause-ok g c =
    appended g.met.Self.ValueVisitor.visited_append (all_bytes c.args.all.now c.loop-byte.byte-index c.loop-byte-test.false)
    c.loop-byte.invariant c.in_ok-end_list.ensures.ok

pub returns-in_err-begin_list-clause-err : goal.returns-in_err-begin_list-clause-err
returns-in_err-begin_list-clause-err g c =
    passed_on c.from_residual.result c.in_err-begin_list.field-0.0 _ c.from_residual.ensures.1 (record {
      shown = begin_list (length c.args.all.now) ∷ [];
      stopped = c.in_err-begin_list.ensures.err;
      first = record { rest = map unsigned c.args.all.now ++ end_list ∷ []; parts = refl };
    })

pub returns-in_err-unsigned-clause-err : goal.returns-in_err-unsigned-clause-err
returns-in_err-unsigned-clause-err g c =
    let all = c.args.all.now in
    let at = c.loop-byte.byte-index in
    passed_on c.from_residual-in_err-unsigned.result c.in_err-unsigned.field-0.0 _ c.from_residual-in_err-unsigned.ensures.1 (record {
      shown = (begin_list (length all) ∷ map unsigned (take at all)) ++ unsigned (slice_index_or all at 0) ∷ [];
      stopped =
          g.met.Self.ValueVisitor.stopped_later _ _ c.args.self.now c.loop-byte.self c.in_err-unsigned.field-0.0 c.unsigned.new.self
          c.loop-byte.invariant c.in_err-unsigned.ensures.err;
      first = record {
        rest = map unsigned (drop (at + 1) all) ++ end_list ∷ [];
        parts =
            bytes_split all (at + 1)
            ∙ ap (λ es. es ++ (map unsigned (drop (at + 1) all) ++ end_list ∷ [])) (sym (one_byte all at c.loop-byte-test.true));
      };
    })

pub returns-in_err-end_list-clause-err : goal.returns-in_err-end_list-clause-err
returns-in_err-end_list-clause-err g c =
    let all = c.args.all.now in
    let at = c.loop-byte.byte-index in
    passed_on c.from_residual-in_err-end_list.result c.in_err-end_list.field-0.0 _ c.from_residual-in_err-end_list.ensures.1 (record {
      shown = (begin_list (length all) ∷ map unsigned (take at all)) ++ end_list ∷ [];
      stopped =
          g.met.Self.ValueVisitor.stopped_later _ _ c.args.self.now c.loop-byte.self c.in_err-end_list.field-0.0 c.end_list.new.self
          c.loop-byte.invariant c.in_err-end_list.ensures.err;
      first = record {
        rest = [];
        parts = sym (all_bytes all at c.loop-byte-test.false) ∙ sym (append-nil _);
      };
    })
