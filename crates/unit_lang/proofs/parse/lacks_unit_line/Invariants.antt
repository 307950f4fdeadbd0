use Rattle.std.proofs.Common.{option_map}
use Rattle.unit_lang.specs.Faults.{IsUnitless}
use Rattle.unit_lang.specs.Lexing.{lines_after, rest_size}
use Rattle.unit_lang.specs.Spells.{lines_of}
use Rattle.unit_lang.proofs.parse.lacks_unit_line.Given as goal

-- no line is a `unit` line where none of the rest is
abbrev pub invariant-loop-rest : goal.invariant-loop-rest
invariant-loop-rest l = record {
  on : IsUnitless (lines_of l.text) → IsUnitless (lines_after (option_map (λ r. r.now) l.rest));
  back : IsUnitless (lines_after (option_map (λ r. r.now) l.rest)) → IsUnitless (lines_of l.text);
}

abbrev pub decreases-loop-rest : goal.decreases-loop-rest
decreases-loop-rest l = rest_size (option_map (λ r. r.now) l.rest)
