-- Nothing comes after a table.
use Rattle.std.proofs.Common.{List, ℕ, [], ◌≡◌, ◌++◌, ◌==◌, true, ◌∙◌, length, sym, subst, ap}
use Rattle.std.proofs.Common.{append-nil}
use Rattle.std.proofs.lemmas.Bool.{eqb-true}
use Rattle.std.proofs.lemmas.List.{nil_from_length}
use Rattle.scale_info_grammar.specs.Ty.{EncodesTypes}
use Rattle.type_table_run.specs.Outputs.{BeginsWithJson, IsJsonOf}

-- a rest without bytes is no rest
pub is_empty : (r : List ℕ) → true ≡ (length r == 0) → r ≡ []
is_empty r e = nil_from_length r (eqb-true (length r) 0 (sym e))

-- the line of a table after which nothing comes is that of the whole input
pub whole_json :
    (a r line : List ℕ) → r ≡ [] → BeginsWithJson a r line → IsJsonOf a line
whole_json a r line e p = record {
  types = p.types;
  encodes =
      subst (λ t. EncodesTypes p.types t)
      (sym
      (p.read.parts ∙ ap (λ t. p.read.encoding ++ t) e ∙ append-nil p.read.encoding))
      p.read.encodes;
  text = p.text;
}
