-- The filled prefix of the input is what the reader has lost.
use Rattle.std.proofs.Common.{◌≤◌, vec_len, vec_items, take}
use Rattle.std.specs.Io.KnownBytes.{Consumes}
use Rattle.type_table_io.proofs.reading.read_to_end.Given as goal

abbrev pub invariant-loop : goal.invariant-loop
invariant-loop g l = record {
  within : l.filled ≤ vec_len l.input;
  lost : Consumes (g.R.Read.remaining l.initial.reader) (g.R.Read.remaining l.reader) (take l.filled (vec_items l.input));
}
