use Rattle.scale_info_table.proofs.Renumbered.{field_read}
use Rattle.scale_info_references.specs.Conversions.{number_of, symbol}
use Rattle.scale_info_table.proofs.renumbering.FieldPortableFormRenumber.renumber.Goals as goal

pub returns : goal.returns
returns c =
    field_read (λ r. symbol (number_of c.args.numbers.now r)) c.args.self.now c.renumbered_id-self.result
    c.renumbered_id-self.ensures
