use Rattle.scale_info_types.specs.declared.ty.TypeDef.TheVariants as def
use Rattle.scale_info_laws.proofs.equalities.equal_definition_parts.Goals as goal

pub returns : goal.returns
returns g c = let equal = c.equal_definitions.ensures in record {
  composites = λ a b. equal (def.Composite a) (def.Composite b);
  enums = λ a b. equal (def.Variant a) (def.Variant b);
  sequences = λ a b. equal (def.Sequence a) (def.Sequence b);
  arrays = λ a b. equal (def.Array a) (def.Array b);
  tuples = λ a b. equal (def.Tuple a) (def.Tuple b);
  compacts = λ a b. equal (def.Compact a) (def.Compact b);
  bit_sequences = λ a b. equal (def.BitSequence a) (def.BitSequence b);
  maps = λ a b. equal (def.Map a) (def.Map b);
}
