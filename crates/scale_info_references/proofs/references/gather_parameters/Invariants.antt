use Rattle.std.proofs.Common.{take}
use Rattle.scale_info_types.specs.References.{parameter_references}
use Rattle.scale_info_references.specs.Gathered.{AddsReferences}
use Rattle.scale_info_references.proofs.references.gather_parameters.Given as goal

abbrev pub invariant-loop-param : goal.invariant-loop-param
invariant-loop-param g l =
    AddsReferences l.fn.found.items (parameter_references (take l.param-index l.params)) l.found.items
