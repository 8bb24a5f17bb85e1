use Rattle.std.proofs.lemmas.Bool.{false≢true}
use Rattle.scale_info_identities.specs.contracts.type_id.TypeIdPartialEq.TheImpl.{ghosts as equals}
use Rattle.scale_info_catalogue.proofs.Interning.{known_by, new_by}
use Rattle.scale_info_catalogue.proofs.discovery.interned.Goals as goal

pub returns-in-Ok-clause-new : goal.returns-in-Ok-clause-new
returns-in-Ok-clause-new c is_new =
    let made = c.in-Ok.ensures in
    let new =
    new_by equals.eq c.args.identities.now c.args.id.now c.in-Ok.is_new
    (λ known. (made.known known.0 known.1).1.0) is_new in
    (new, (made.new new).2, (made.new new).1)

pub returns-in-Ok-clause-known : goal.returns-in-Ok-clause-known
returns-in-Ok-clause-known c is_known =
    let found =
    known_by equals.eq c.args.identities.now c.args.id.now c.in-Ok.is_new
    (λ new. (c.in-Ok.ensures.new new).0) is_known in
    (found, (c.in-Ok.ensures.known found.0 found.1).2)

pub returns-in-Err-Memory-clause-unknown : goal.returns-in-Err-Memory-clause-unknown
returns-in-Err-Memory-clause-unknown c known =
    false≢true (c.in-Err-Memory.ensures.known known.0 known.1).0
