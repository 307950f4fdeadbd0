use Rattle.std.proofs.Common.{◌+◌, ◌≤◌, option_map}
use Rattle.unit_lang.specs.Lexing.{lines_after, rest_size}
use Rattle.unit_lang.proofs.FileLemmas.{Heard}
use Rattle.unit_lang.proofs.parse.body.Given as goal

-- what the lines so far say
abbrev pub invariant-loop-rest : goal.invariant-loop-rest
invariant-loop-rest l = record {
  heard : Heard l.first (lines_after (option_map (λ r. r.now) l.text)) l.number (lines_after (option_map (λ r. r.now) l.rest)) l.said;
  room : l.number + rest_size (option_map (λ r. r.now) l.rest) ≤ 4294967295;
}

abbrev pub decreases-loop-rest : goal.decreases-loop-rest
decreases-loop-rest l = rest_size (option_map (λ r. r.now) l.rest)
