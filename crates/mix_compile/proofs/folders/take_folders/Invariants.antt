use Rattle.std.proofs.Common.{◌≡◌, ◌≤◌, length, map, vec_len, vec_capacity}
use Rattle.mix_compile.proofs.TakeLemmas.{Taking}
use Rattle.mix_compile.proofs.folders.take_folders.Given as goal

abbrev pub invariant-loop-job : goal.invariant-loop-job
invariant-loop-job g l = record {
  taking : Taking l.plan l.job-index (g.S.Store.known l.fn.store) (g.S.Store.known l.store) (map g.S.F.Folder.known l.folders.items);
  jobs : l.jobs ≡ l.plan.jobs;
  many : vec_len l.folders ≡ l.job-index;
  room : length l.jobs ≤ vec_capacity l.folders;
}
