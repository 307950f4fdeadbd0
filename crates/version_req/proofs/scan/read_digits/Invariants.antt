use Rattle.std.proofs.Common.{◌≡◌, drop}
use Rattle.version_req.specs.Reading.{digits_of}
use Rattle.version_req.proofs.scan.read_digits.Given as goal

abbrev pub invariant-digits : goal.invariant-digits
invariant-digits l = digits_of l.first l.text ≡ digits_of l.value (drop l.i l.text)
