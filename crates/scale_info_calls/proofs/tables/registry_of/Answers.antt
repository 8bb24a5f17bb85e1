use Rattle.std.proofs.Common.{ℕ, List, subst}
use Rattle.scale_info_bytes.specs.Encodings.{HasNoPrefix, IfMalformed}
use Rattle.scale_info_grammar.specs.Ty.{EncodesTypes}
use Rattle.scale_info_table.specs.TableEncoding.{EncodesRegistry}
use Rattle.scale_info_calls.proofs.tables.registry_of.Goals as goal

-- bytes that begin with no table begin with no list of entries
no_types : (input : List ℕ) → HasNoPrefix EncodesRegistry input → HasNoPrefix EncodesTypes input
no_types input without =
    record { none = λ types rest p. without.none (record { types = types }) rest p }

pub returns-in-Err-Malformed-clause-err : goal.returns-in-Err-Malformed-clause-err
returns-in-Err-Malformed-clause-err c =
    no_types c.args.input.now
    (subst (IfMalformed (HasNoPrefix EncodesRegistry c.args.input.now)) c.in-Err-Malformed.field-0-is
    c.in-Err-Malformed.ensures.malformed)
