use Rattle.std.proofs.Common.{◌≡◌, ◌++◌, true, drop}
use Rattle.mix_report.specs.Report.{shown_after}
use Rattle.mix_report.proofs.reporting.push_bytes_shown.Given as goal

abbrev pub invariant-loop-byte : goal.invariant-loop-byte
invariant-loop-byte l = l.text.items ++ shown_after l.begins (drop l.byte-index l.shown) ≡ l.fn.text.items ++ shown_after true l.shown
