use Rattle.std.proofs.Common.{◌≡◌, ◌++◌, drop, map, flat_map}
use Rattle.build_plan.specs.Said.{diverged_said, line_of}
use Rattle.build_plan.proofs.said.say_diverged.Given as goal

abbrev pub invariant-loop-line : goal.invariant-loop-line
invariant-loop-line l = l.text.items ++ flat_map (line_of l.before) (map diverged_said (drop l.line-index l.lines)) ≡ l.fn.text.items ++ flat_map (line_of l.before) (map diverged_said l.lines)
