use Rattle.scale_info_codec.proofs.Own.{own_definition}
use Rattle.scale_info_codec.proofs.ty.TypeDefPortableFormScale.encode_to.Goals as goal

pub returns-clause-ok : goal.returns-clause-ok
returns-clause-ok c = rw (own_definition c.args.self.now) at c.append_part.ensures.ok

pub returns-clause-too_long : goal.returns-clause-too_long
returns-clause-too_long c = rw (own_definition c.args.self.now) at c.append_part.ensures.too_long
