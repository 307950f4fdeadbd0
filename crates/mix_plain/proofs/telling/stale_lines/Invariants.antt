use Rattle.std.proofs.Common.{◌≡◌, ◌++◌, drop, flat_map}
use Rattle.mix_plain.specs.Texts.{stale_line}
use Rattle.mix_plain.proofs.telling.stale_lines.Given as goal

abbrev pub invariant-loop-place : goal.invariant-loop-place
invariant-loop-place l = l.text.items ++ flat_map (stale_line l.jobs) (drop l.place-index l.report) ≡ flat_map (stale_line l.jobs) l.report
