use Rattle.scale_info_numberings.proofs.Tables.{table_exists, one_table}
use Rattle.scale_info_numberings.proofs.laws.one_table.Goals as goal

pub returns-clause-some : goal.returns-clause-some
returns-clause-some g c = table_exists

pub returns-clause-one : goal.returns-clause-one
returns-clause-one g c = λ S R L T U x t u. one_table S L x.1.order.distinct T U t u
