use Rattle.std.proofs.Common.{rules}
use Rattle.std.proofs.Common.{refl, ap, ◌∙◌, slice_get}
use Rattle.scale_info_table.proofs.portable.builder.PortableRegistryBuilder.next_type_id.Goals as goal

pub returns-clause-distinct : goal.returns-clause-distinct
returns-clause-distinct c = λ i j ty at_i at_j.
    c.elements.ensures.distinct i j ty ty (ap (λ types. slice_get types i) c.self.view_is ∙ at_i)
    (ap (λ types. slice_get types j) c.self.view_is ∙ at_j) ((c.equal_portable.ensures.description ty ty).1 refl)

pub returns-clause-length : goal.returns-clause-length
returns-clause-length c = search rules
