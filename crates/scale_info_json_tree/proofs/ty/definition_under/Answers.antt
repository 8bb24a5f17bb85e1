use Rattle.scale_info_json_tree.proofs.Errors.{passed_shape}
use Rattle.scale_info_json_tree.proofs.Single.{no_bit_sequence}
use Rattle.scale_info_json_tree.proofs.ty.definition_under.Goals as goal

pub returns-in_err-from_json-in-bitsequence-clause-shape : goal.returns-in_err-from_json-in-bitsequence-clause-shape
returns-in_err-from_json-in-bitsequence-clause-shape c = passed_shape c.from_residual-in_err-from_json-in-bitsequence.result c.in_err-from_json-in-bitsequence.field-0.0 c.from_residual-in_err-from_json-in-bitsequence.ensures.1 (no_bit_sequence c.args.key.now _ c.in-bitsequence.is) c.in_err-from_json-in-bitsequence.ensures.shape
