use Rattle.std.proofs.Common.{◌≡◌, ◌≤◌, ◌++◌, drop, map}
use Rattle.std.specs.List.{slice_range}
use Rattle.build_manifest.specs.Diagnostics.{lines_of}
use Rattle.build_manifest.proofs.DiagnosticsLemmas.{glue}
use Rattle.build_manifest.proofs.diagnostics.lines_of.Given as goal

abbrev pub invariant-loop-at : goal.invariant-loop-at
invariant-loop-at l = record {
  low : l.start ≤ l.at;
  made : map (λ line. line.now) l.lines.items ++ glue (slice_range l.text l.start l.at) (lines_of (drop l.at l.text)) ≡ lines_of l.text;
}
