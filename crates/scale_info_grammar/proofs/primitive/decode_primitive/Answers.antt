use Rattle.std.proofs.Common.{◌∷◌, [], arith, refl}
use Rattle.scale_info_bytes.proofs.Index.{begins}
use Rattle.scale_info_grammar.proofs.primitive.decode_primitive.Goals as goal

pub returns-in-Some-clause-some : goal.returns-in-Some-clause-some
returns-in-Some-clause-some c = record {
  encoding = _ ∷ [];
  encodes = record { byte = _; stands_for = c.in-Some.ensures.some; is = refl };
  parts = (begins _ c.args.input.now (omega arith) refl).is;
}
