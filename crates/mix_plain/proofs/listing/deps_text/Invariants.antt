use Rattle.std.proofs.Common.{◌≡◌, ◌++◌, drop, flat_map}
use Rattle.mix_plain.specs.Texts.{dep_line}
use Rattle.mix_plain.proofs.listing.deps_text.Given as goal

abbrev pub invariant-loop-job : goal.invariant-loop-job
invariant-loop-job l = l.text.items ++ flat_map dep_line (drop l.job-index l.jobs) ≡ flat_map dep_line l.jobs
