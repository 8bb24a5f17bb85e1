use Rattle.std.proofs.Common.{map, take}
use Rattle.scale_info_bytes.specs.Encodings.{AppendsEncoding}
use Rattle.scale_info_bytes.specs.Parts.{EncodesItems}
use Rattle.scale_info_references.specs.Conversions.{symbol}
use Rattle.scale_info_description_codec.proofs.list.encode_items.Given as goal

abbrev pub invariant-loop-item : goal.invariant-loop-item
invariant-loop-item g l =
    AppendsEncoding
    (EncodesItems g.T.Part.encodes (map (g.T.Part.portable (λ ty. symbol (g.N.GivesIds.id_of l.ids ty))) (take l.item-index l.items)))
    l.fn.out.items l.out.items
