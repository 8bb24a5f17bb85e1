use Rattle.std.proofs.Common.{List, ℕ, [], ◌≡◌, ◌++◌, ◌≢◌, ◌==◌, false, ◌∙◌, length, sym, subst, ap}
use Rattle.std.proofs.Common.{append-nil}
use Rattle.scale_info_bytes.specs.Parts.{EncodesList}
use Rattle.scale_info_grammar.specs.Ty.{EncodesPortableType}
use Rattle.scale_info_passes.specs.Pieces.{HasSomePrefix}
use Rattle.type_table_run.specs.OneTable.{IsOneTable}
use Rattle.type_table_run.proofs.Rests.{is_empty}
use Rattle.type_table_run.proofs.table.check_table.Goals as goal

-- a table after which nothing comes is the whole input
is_table : (a r : List ℕ) → r ≡ [] → HasSomePrefix (EncodesList EncodesPortableType) a r → IsOneTable a
is_table a r e p = record {
  types = p.value;
  encodes = subst (λ t. EncodesList EncodesPortableType p.value t) (sym (p.prefix.parts ∙ ap (λ t. p.prefix.encoding ++ t) e ∙ append-nil p.prefix.encoding)) p.prefix.encodes;
}

is_not_empty : (r : List ℕ) → false ≡ (length r == 0) → r ≢ []
is_not_empty r e h = let bad : false ≡ (length {A = ℕ} [] == 0) = subst (λ t. false ≡ (length t == 0)) h e in cc

pub returns-then-is_empty-clause-ok : goal.returns-then-is_empty-clause-ok
returns-then-is_empty-clause-ok c = is_table c.args.input.now c.in-Some.rest.now (is_empty c.in-Some.rest.now c.if-is_empty.ensures) c.in-Some.ensures.some

pub returns-else-is_empty-clause-err : goal.returns-else-is_empty-clause-err
returns-else-is_empty-clause-err c =
    let found = c.in-Some.ensures.some in
    record {
      types = found.value;
      rest = c.in-Some.rest.now;
      prefix = record { encoding = found.prefix.encoding; encodes = found.prefix.encodes; parts = found.prefix.parts };
      more = is_not_empty c.in-Some.rest.now c.if-is_empty.ensures;
    }

pub returns-in-None-clause-err : goal.returns-in-None-clause-err
returns-in-None-clause-err c = record { none = λ v rest p. c.in-None.ensures.none.none v rest (record { encoding = p.encoding; encodes = p.encodes; parts = p.parts }) }
