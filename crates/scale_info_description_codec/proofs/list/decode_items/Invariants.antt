use Rattle.std.proofs.Common.{length, map, ◌≡◌}
use Rattle.scale_info_bytes.specs.Encodings.{HasPrefix}
use Rattle.scale_info_bytes.specs.Parts.{EncodesItems}
use Rattle.scale_info_description_codec.proofs.list.decode_items.Given as goal

abbrev pub invariant-loop : goal.invariant-loop
invariant-loop g l = record {
  count : length l.values ≡ l.counter;
  read : HasPrefix (EncodesItems g.T.Part.encodes (map (g.T.Part.portable g.F.IdForm.id_of) l.values)) l.input l.rest;
}
