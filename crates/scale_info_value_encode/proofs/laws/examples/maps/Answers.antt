use Rattle.std.proofs.Common.{refl}
use Rattle.scale_info_value_encode.specs.Writings.{value_within, compact_within}
use Rattle.scale_info_value_encode.proofs.ValueKinds.{outs}
use Rattle.scale_info_value_encode.proofs.laws.examples.maps.Goals as goal

pub returns : goal.returns
unfolding value_within compact_within
returns c = record {
  one = simp outs refl;
  deepest = simp outs refl;
  deeper = simp outs refl;
  no_pair = simp outs refl;
  empty = simp outs refl;
  nested = simp outs refl;
  nested_mismatch = simp outs refl;
}
