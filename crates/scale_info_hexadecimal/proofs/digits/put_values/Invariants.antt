use Rattle.scale_info_hexadecimal.proofs.DigitValues.{Values}
use Rattle.scale_info_hexadecimal.proofs.digits.put_values.Given as goal

abbrev pub invariant-digits : goal.invariant-digits
invariant-digits l = Values l.digits l.values l.index l.greatest
