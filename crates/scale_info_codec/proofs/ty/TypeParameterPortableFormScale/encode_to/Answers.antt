use Rattle.scale_info_codec.proofs.Own.{own_parameter}
use Rattle.scale_info_codec.proofs.ty.TypeParameterPortableFormScale.encode_to.Goals as goal

pub returns-clause-ok : goal.returns-clause-ok
returns-clause-ok c = rw (own_parameter c.args.self.now) at c.append_part.ensures.ok

pub returns-clause-too_long : goal.returns-clause-too_long
returns-clause-too_long c = rw (own_parameter c.args.self.now) at c.append_part.ensures.too_long
