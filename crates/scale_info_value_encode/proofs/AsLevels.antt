-- Writings are levels.
use Rattle.std.proofs.Common.{refl}
use Rattle.scale_info_value.specs.declared.value.Value.{Value}
use Rattle.scale_info_value.proofs.Levels.{Levels}
use Rattle.scale_info_value_encode.specs.Writers.{Writer, refused, too_deep}
use Rattle.scale_info_value_encode.specs.DefinitionWriters.{Writers, value_by, compact_by}
use Rattle.scale_info_value_encode.specs.Writings.{missing, value_within, compact_within}

unfoldable pub writings : Levels (Writer Value) (Writer Value) Writers
unfolding value_within compact_within
writings = record {
  deep = λ value. refused too_deep;
  none = missing;
  by = value_by;
  compact_deep = λ value. refused too_deep;
  compact_none = missing;
  compact_by = compact_by;
  part = λ table r value inner compact. record { value = value; inner = inner; compact = compact };
  value = value_within;
  compact = compact_within;
  compact_end = λ table id. refl;
  compact_level = λ left table id. refl;
  value_end = λ table id. refl;
  value_last = λ table id. refl;
  value_level = λ left table id. refl;
}
