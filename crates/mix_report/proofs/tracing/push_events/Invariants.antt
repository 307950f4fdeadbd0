use Rattle.std.proofs.Common.{◌≡◌, ◌++◌, drop}
use Rattle.mix_report.specs.Trace.{trace}
use Rattle.mix_report.proofs.tracing.push_events.Given as goal

abbrev pub invariant-loop-event : goal.invariant-loop-event
invariant-loop-event l = l.text.items ++ trace l.jobs (drop l.event-index l.history) ≡ l.fn.text.items ++ trace l.jobs l.history
