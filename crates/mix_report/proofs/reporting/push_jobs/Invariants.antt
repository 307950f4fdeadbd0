use Rattle.std.proofs.Common.{◌≡◌, ◌++◌, drop}
use Rattle.mix_report.specs.Report.{jobs_text}
use Rattle.mix_report.proofs.reporting.push_jobs.Given as goal

abbrev pub invariant-loop-place : goal.invariant-loop-place
invariant-loop-place l = l.text.items ++ jobs_text l.jobs (drop l.place l.jobs) (drop l.place l.fates) ≡ l.fn.text.items ++ jobs_text l.jobs l.jobs l.fates
