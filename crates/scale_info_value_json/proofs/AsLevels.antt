-- Takings are levels.
use Rattle.std.proofs.Common.{refl}
use Rattle.scale_info_value.specs.declared.value.Value.{Value}
use Rattle.scale_info_value.proofs.Levels.{Levels}
use Rattle.scale_info_value_visit.specs.Events.{definition_at, is_byte}
use Rattle.scale_info_value_json.specs.Takers.{Taker, refused, too_deep}
use Rattle.scale_info_value_json.specs.DefinitionTakers.{Takers, value_by, compact_by}
use Rattle.scale_info_value_json.specs.Takings.{missing, value_within, compact_within}

unfoldable pub takings : Levels (Taker Value) (Taker Value) Takers
unfolding value_within compact_within
takings = record {
  deep = λ tree. refused too_deep;
  none = missing;
  by = value_by;
  compact_deep = λ tree. refused too_deep;
  compact_none = missing;
  compact_by = compact_by;
  part = λ table r value inner compact. record {
    value = value;
    inner = inner;
    compact = compact;
    is_byte = is_byte (definition_at table r);
  };
  value = value_within;
  compact = compact_within;
  compact_end = λ table id. refl;
  compact_level = λ left table id. refl;
  value_end = λ table id. refl;
  value_last = λ table id. refl;
  value_level = λ left table id. refl;
}
