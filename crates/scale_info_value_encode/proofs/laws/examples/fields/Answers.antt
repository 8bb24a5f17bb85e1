use Rattle.std.proofs.Common.{rules}
use Rattle.scale_info_value_encode.specs.Writings.{value_within, compact_within}
use Rattle.scale_info_value_encode.proofs.ValueKinds.{outs}
use Rattle.scale_info_value_encode.proofs.laws.examples.fields.Goals as goal

pub returns : goal.returns
unfolding value_within compact_within
returns c = search (rules, outs)
