use Rattle.std.proofs.Common.{◌≡◌, ◌∙◌, length, drop, ap, sym, subst, arith, Some}
use Rattle.std.proofs.Math.Seq.{drop-append_seam}
use Rattle.std.proofs.lemmas.List.{length-append}
use Rattle.scale_info_identities.specs.TypeIds.{term_of}
use Rattle.scale_info_catalogue.specs.Catalogues.{described}
use Rattle.scale_info_catalogue.specs.Discoveries.{stacked, AreFound}
use Rattle.scale_info_registry.proofs.Registered.{is_registration, paired_length}
use Rattle.scale_info_registry.proofs.registry.register_in.Goals as goal

pub describe-requires : goal.describe-requires
describe-requires c =
    let (more, is, all) = c.in_ok-found.ensures.found in
    let long = ap (λ xs. length xs) is ∙ length-append c.args.identities.now more in
    let same = paired_length (λ id d. described c.args.catalogue.now (term_of id) ≡ Some d.now) more c.in_ok-found.found.items all in
    let before = c.requires in
    record { fits = omega (arith, long, same, before) }

pub returns-clause-ok : goal.returns-clause-ok
returns-clause-ok c =
    let (more, is, all) = c.in_ok-found.ensures.found in
    let ids = c.discover.new.identities in
    let rest : drop (length c.args.types.now.items) ids ≡ more =
    ap (λ n. drop n ids) c.requires
    ∙ (ap (λ xs. drop (length c.args.identities.now) xs) is ∙ drop-append_seam c.args.identities.now more) in
    let found : AreFound c.args.catalogue.now (drop (length c.args.types.now.items) ids) c.in_ok-found.found.items =
    subst (λ xs. AreFound c.args.catalogue.now xs c.in_ok-found.found.items) (sym rest) all in
    is_registration c.args.catalogue.now c.args.identities.now ids (stacked c.args.pending.items) c.args.types.now.items c.describe.new.types.items
    c.requires c.in_ok-describe.ensures.long c.in_ok-found.ensures.kept c.in_ok-describe.ensures.kept c.in_ok-found.ensures.ok (c.in_ok-describe.ensures.entries c.args.catalogue.now found)
