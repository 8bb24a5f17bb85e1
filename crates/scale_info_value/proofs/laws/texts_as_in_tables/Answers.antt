use Rattle.scale_info_value.proofs.Texts.{encoded, nothing_else}
use Rattle.scale_info_value.proofs.laws.texts_as_in_tables.Goals as goal

pub returns-clause-encodings : goal.returns-clause-encodings
returns-clause-encodings c = encoded

pub returns-clause-nothing_else : goal.returns-clause-nothing_else
returns-clause-nothing_else c = nothing_else
