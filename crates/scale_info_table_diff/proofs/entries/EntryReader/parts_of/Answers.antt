use Rattle.std.proofs.Common.{rules, ◌≡◌, ◌<◌, ℕ, All, List, length, subst}
use Rattle.scale_info_grammar.specs.Ty.{EncodesDescription}
use Rattle.scale_info_passes.specs.Visits.{AppendsReferences, AppendsRenumbered, renumbered}
use Rattle.scale_info_types.specs.References.{references}
use Rattle.scale_info_types.specs.Shapes.{map_description}
use Rattle.scale_info_table_diff.proofs.EntriesOf.{parts_at}
use Rattle.scale_info_table_diff.proofs.entries.EntryReader.parts_of.Goals as goal

pub returns : goal.returns
returns c =
    let zeros = c.args.self.now.zeros.items in
    let ids = c.in-Some-gathered.references.items in
    let count : c.len.result ≡ length zeros = search rules in
    let description = c.in-Some.description.now in
    parts_at c.args.self.now.table.now zeros c.args.id
    description _ _ ids c.renumber.new.out.items c.in-Some.ensures.some c.args.self.now.zero
    (subst (λ (old : List ℕ). AppendsReferences EncodesDescription references description c.in-Some-gathered.field-0-1.now old ids)
    c.new.ensures.items (rw c.in-Some-gathered.is at c.in_ok-gathered.ensures.some))
    (subst (λ n. All (λ id. id < n) ids) count
    (subst (λ (is : List ℕ). All (λ id. id < c.len.result) is) c.deref.ensures.value
    (c.are_below.ensures c.if-not-are_below.false)))
    (subst (λ (old : List ℕ). AppendsRenumbered EncodesDescription (λ f v. map_description f (λ text. text) v)
    (renumbered zeros) description c.in_ok-renumber.field-0.now old c.renumber.new.out.items) c.new-contents.ensures.items
    (subst (λ (ns : List ℕ). AppendsRenumbered EncodesDescription (λ f v. map_description f (λ text. text) v)
    (renumbered ns) description c.in_ok-renumber.field-0.now c.new-contents.result.items c.renumber.new.out.items) c.deref-2.ensures.value
    c.in_ok-renumber.ensures.ok))
