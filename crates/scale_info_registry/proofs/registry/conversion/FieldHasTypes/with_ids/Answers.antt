use Rattle.scale_info_registry.proofs.registry.conversion.FieldHasTypes.with_ids.Goals as goal

pub returns : goal.returns
returns c = λ i.
    record {
      name = c.in_ok-optional_copy.ensures i;
      ty = record { id = c.id.ensures i; marker = record {} };
      type_name = c.in_ok-optional_copy-2.ensures i;
      docs = c.in_ok-copied_texts.ensures i;
    }
