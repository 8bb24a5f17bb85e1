use Rattle.scale_info_grammar.proofs.WithoutMaps.{entries_stay}
use Rattle.scale_info_table.proofs.laws.tables.old_texts_stay.Goals as goal

pub returns : goal.returns
returns c = λ table bytes. entries_stay table.types bytes
