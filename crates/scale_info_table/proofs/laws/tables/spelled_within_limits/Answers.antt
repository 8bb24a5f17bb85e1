use Rattle.scale_info_grammar.proofs.Limits.{has_entries}
use Rattle.scale_info_table.proofs.laws.tables.spelled_within_limits.Goals as goal

pub returns : goal.returns
returns c =
    λ table within. let entries = has_entries table.types within in (entries.bytes, entries.encodes)
