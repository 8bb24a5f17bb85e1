use Rattle.std.proofs.Common.{rules, ap, refl, sym, Ok, Some, ◌∙◌, ◌≡◌}
use Rattle.std.proofs.lemmas.Bool.{true≢false}
use Rattle.scale_info_catalogue.proofs.Catalogues.{described_by_term, nothing_there, one_more}
use Rattle.scale_info_catalogue.proofs.Catalogues.{other_there, same_there}
use Rattle.scale_info_catalogue.specs.Catalogues.{HasOther, contents_of}
use Rattle.scale_info_identities.specs.TypeIds.{term_of}
use Rattle.scale_info_types.specs.MetaDescriptions.{meta_content}
use Rattle.scale_info_catalogue.proofs.catalogue.Catalogue.add_described.Goals as goal

pub returns-in_default-clause-known : goal.returns-in_default-clause-known
returns-in_default-clause-known c =
    let nothing =
    nothing_there c.args.self.now c.args.identity c.args.description c.in_default.ensures.absent in
    ((λ is. search rules), (λ there. absurd (nothing.0 there)))

pub returns-in_default-clause-conflict : goal.returns-in_default-clause-conflict
returns-in_default-clause-conflict c =
    let nothing =
    nothing_there c.args.self.now c.args.identity c.args.description c.in_default.ensures.absent in
    ((λ is. search rules), (λ other. absurd (nothing.1 other)))

pub returns-in_default-clause-memory : goal.returns-in_default-clause-memory
returns-in_default-clause-memory c _ =
    sym (described_by_term c.args.self.now c.args.identity) ∙ c.in_default.ensures.absent

pub returns-in_default-found-clause-new : goal.returns-in_default-found-clause-new
returns-in_default-found-clause-new c _ =
    let new = c.in-Ok.ensures.new (ap Ok c.in_default-found.is) in
    one_more c.args.self.now
    (record { entries = c.insert_or_compare.new.entries; alloc = c.args.self.now.alloc })
    c.args.identity c.args.description
    (sym (described_by_term c.args.self.now c.args.identity) ∙ new.0) new.1 new.2

pub returns-in_default-found-clause-known : goal.returns-in_default-found-clause-known
returns-in_default-found-clause-known c =
    let new = c.in-Ok.ensures.new (ap Ok c.in_default-found.is) in
    let nothing = nothing_there c.args.self.now c.args.identity c.args.description new.0 in
    ((λ is. search rules), (λ there. absurd (nothing.0 there)))

pub returns-in_default-found-clause-conflict : goal.returns-in_default-found-clause-conflict
returns-in_default-found-clause-conflict c =
    let new = c.in-Ok.ensures.new (ap Ok c.in_default-found.is) in
    let nothing = nothing_there c.args.self.now c.args.identity c.args.description new.0 in
    ((λ is. search rules), (λ other. absurd (nothing.1 other)))

-- the same description is there
same-there :
    (c : goal.Then-same)
    → (contents_of c.args.self.now (term_of c.args.identity) ≡ Some (meta_content c.args.description))
    × (HasOther c.args.self.now (term_of c.args.identity) (meta_content c.args.description) → ⊥)
same-there c =
    let found = c.in-Ok.ensures.same c.in-Some.same (ap Ok c.in-Some.is) in
    same_there c.args.self.now c.args.identity c.args.description found.0 found.1
    ((c.equal_contents.ensures found.0 c.args.description).0 (found.2 ∙ c.if-same.true))

pub returns-then-same-clause-known : goal.returns-then-same-clause-known
returns-then-same-clause-known c = ((λ is. (same-there c).0), (λ is. refl))

pub returns-then-same-clause-conflict : goal.returns-then-same-clause-conflict
returns-then-same-clause-conflict c =
    ((λ is. search rules), (λ other. absurd ((same-there c).1 other)))

-- another description is there
other-there :
    (c : goal.Else-same)
    → (contents_of c.args.self.now (term_of c.args.identity) ≡ Some (meta_content c.args.description) → ⊥)
    × HasOther c.args.self.now (term_of c.args.identity) (meta_content c.args.description)
other-there c =
    let found = c.in-Ok.ensures.same c.in-Some.same (ap Ok c.in-Some.is) in
    let apart : meta_content found.0 ≡ meta_content c.args.description → ⊥ =
    λ same. true≢false
    (sym ((c.equal_contents.ensures found.0 c.args.description).1 same) ∙ (found.2 ∙ c.if-same.false)) in
    other_there c.args.self.now c.args.identity c.args.description found.0 found.1 apart

pub returns-else-same-clause-known : goal.returns-else-same-clause-known
returns-else-same-clause-known c = ((λ is. search rules), (λ is. absurd ((other-there c).0 is)))

pub returns-else-same-clause-conflict : goal.returns-else-same-clause-conflict
returns-else-same-clause-conflict c = ((λ is. (other-there c).1), (λ is. search rules))
