use Rattle.scale_info_description_codec.proofs.leaf.CompactU32DecodePart.decode_part.Goals as goal

pub returns-in-None-clause-malformed : goal.returns-in-None-clause-malformed
returns-in-None-clause-malformed g c = record {
  none = λ v rest p. c.in-None.ensures.none.none v.0 rest p;
}
