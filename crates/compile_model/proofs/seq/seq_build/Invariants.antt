use Rattle.std.proofs.Common.{◌≡◌, take, vec_len}
use Rattle.compile_model.specs.Calls.{after_calls, calls_of}
use Rattle.compile_model.specs.Seq.{seq}
use Rattle.compile_model.proofs.seq.seq_build.Given as goal

abbrev pub invariant-loop-place : goal.invariant-loop-place
invariant-loop-place g l = record {
  so_far : l.fates.items ≡ seq g.C.Meaning.compile_of (take l.place l.job-items);
  length : vec_len l.fates ≡ l.place;
  deaths : g.C.Compiler.deaths l.compiler ≡ g.C.Compiler.deaths l.fn.compiler;
  calls : g.C.Compiler.calls l.compiler
      ≡ after_calls (g.C.Compiler.calls l.fn.compiler) (calls_of g.C.Meaning.compile_of (take l.place l.job-items));
  jobs : l.job-items ≡ l.plan.jobs;
}
