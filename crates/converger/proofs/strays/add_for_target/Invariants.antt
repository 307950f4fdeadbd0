use Rattle.std.proofs.Common.{◌≡◌, ◌↔◌, ℕ, length, IsTrue}
use Rattle.converger.specs.Strays.{is_marked, IsStray}
use Rattle.converger.proofs.EnvLemmas.{IsTried}
use Rattle.converger.proofs.strays.add_for_target.Given as goal

abbrev pub invariant-loop-env : goal.invariant-loop-env
invariant-loop-env l = record {
  long : length l.strays.items ≡ length l.fn.strays.items;
  marks : (q : ℕ) → IsTrue (is_marked l.strays.items q) ↔
      IsTried l.fn.strays.items (λ env other. IsStray l.rows.rows env l.target other) l.envs l.env-index q;
}
