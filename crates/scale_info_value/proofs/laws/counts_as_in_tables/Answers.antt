use Rattle.scale_info_value.proofs.Counts.{encoded}
use Rattle.scale_info_value.proofs.Decoded.{counted}
use Rattle.scale_info_value.proofs.laws.counts_as_in_tables.Goals as goal

pub returns-clause-encodings : goal.returns-clause-encodings
returns-clause-encodings c = encoded

pub returns-clause-nothing_else : goal.returns-clause-nothing_else
returns-clause-nothing_else c input rest n = counted input rest n
