-- Errors of a line.
use Rattle.type_reader_io.specs.declared.error.LineError.{LineError}
use Rattle.type_reader_io.specs.declared.error.LineError.TheVariants as errors
use Rattle.type_reader_io.specs.declared.error.ValueFault.{ValueFault}

-- P of the fault, if the error is one; an allocation may fail
abbrev pub IfFault : (P : ValueFault → Type 0) → LineError → Type 0
IfFault P (errors.Fault fault) = P fault
IfFault P errors.Memory = Unit {0}
