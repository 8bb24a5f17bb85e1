use Rattle.std.proofs.Common.{rules}
use Rattle.std.specs.Str.{is_utf8, chars}
use Rattle.std.specs.Char.{encode_utf8}
use Rattle.scale_info_value_encode.specs.Writings.{value_within}
use Rattle.scale_info_value_encode.proofs.ValueKinds.{outs}
use Rattle.scale_info_value_encode.proofs.laws.examples.texts.Goals as goal

pub returns : goal.returns
unfolding value_within is_utf8 chars encode_utf8
returns c = search (rules, outs)
