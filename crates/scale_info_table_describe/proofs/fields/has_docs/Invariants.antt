use Rattle.std.proofs.Common.{◌≡◌, drop}
use Rattle.scale_info_table_describe.specs.TypeDeclarations.{has_docs}
use Rattle.scale_info_table_describe.proofs.fields.has_docs.Given as goal

abbrev pub invariant-loop-field : goal.invariant-loop-field
invariant-loop-field l = has_docs l.fields ≡ has_docs (drop l.field-index l.fields)
