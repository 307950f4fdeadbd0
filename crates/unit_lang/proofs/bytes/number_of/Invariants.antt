use Rattle.std.proofs.Common.{◌≡◌, ◌≤◌, drop}
use Rattle.unit_lang.specs.Lexing.{number_of, number_after}
use Rattle.unit_lang.specs.Lines.{greatest}
use Rattle.unit_lang.proofs.bytes.number_of.Given as goal

abbrev pub invariant-loop-digit : goal.invariant-loop-digit
invariant-loop-digit l = (number_after l.value (drop l.digit-index l.digits) ≡ number_of l.digits) × (l.value ≤ greatest)
