use Rattle.std.proofs.Common.{◌++◌, decimal}
use Rattle.build_manifest.proofs.FieldLemmas.{HasCome}
use Rattle.build_manifest.proofs.fields.read_digits.Given as goal

abbrev pub invariant-digits : goal.invariant-digits
invariant-digits l = HasCome (decimal l.first ++ l.text) l.text l.i l.value
