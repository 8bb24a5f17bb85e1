use Rattle.std.proofs.Common.{◌≡◌, ◌++◌, drop, string_bytes}
use Rattle.scale_info_table_describe.specs.TypeDeclarations.{documentation}
use Rattle.scale_info_table_describe.proofs.describe.append_documentation.Given as goal

abbrev pub invariant-loop-line : goal.invariant-loop-line
invariant-loop-line l =
    string_bytes l.out ++ documentation l.blanks (drop l.line-index l.docs)
    ≡ string_bytes l.initial.out ++ documentation l.blanks l.docs
