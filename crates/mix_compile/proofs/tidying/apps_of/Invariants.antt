use Rattle.std.proofs.Common.{◌≡◌, ◌++◌, drop, map}
use Rattle.mix_compile.proofs.tidying.apps_of.Given as goal

abbrev pub invariant-loop-job : goal.invariant-loop-job
invariant-loop-job l = map (λ app. app.now) l.apps.items ++ map (λ job. job.app) (drop l.job-index l.jobs) ≡ map (λ job. job.app) l.jobs
