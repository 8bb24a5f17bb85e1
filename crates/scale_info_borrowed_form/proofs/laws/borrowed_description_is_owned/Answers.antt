use Rattle.scale_info_bytes.proofs.Steps.{same_prefix}
use Rattle.scale_info_grammar.specs.TyLaws.{description_law}
use Rattle.scale_info_borrowed_form.proofs.laws.borrowed_description_is_owned.Goals as goal

pub returns-clause-decoded : goal.returns-clause-decoded
returns-clause-decoded c = λ input rest ty there none. none.none ty rest there

pub returns-clause-same : goal.returns-clause-same
returns-clause-same c = λ input rest other_rest borrowed owned first second.
    same_prefix description_law borrowed owned input rest other_rest first second
