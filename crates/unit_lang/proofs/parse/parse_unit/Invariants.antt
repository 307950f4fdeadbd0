use Rattle.std.proofs.Common.{◌+◌, ◌≤◌, option_map}
use Rattle.unit_lang.specs.Lexing.{lines_after, rest_size}
use Rattle.unit_lang.proofs.FileLemmas.{Sought}
use Rattle.unit_lang.proofs.parse.parse_unit.Given as goal

-- the lines so far are blank
abbrev pub invariant-loop-rest : goal.invariant-loop-rest
invariant-loop-rest l = record {
  sought : Sought l.text l.number (lines_after (option_map (λ r. r.now) l.rest));
  room : l.number + rest_size (option_map (λ r. r.now) l.rest) ≤ 1048578;
}

abbrev pub decreases-loop-rest : goal.decreases-loop-rest
decreases-loop-rest l = rest_size (option_map (λ r. r.now) l.rest)
