use Rattle.std.proofs.Common.{◌≡◌, ◌↔◌, ℕ, false, length, replicate, IsTrue}
use Rattle.converger.specs.Strays.{is_marked, IsStrayFor}
use Rattle.converger.proofs.EnvLemmas.{IsTried}
use Rattle.converger.proofs.strays.strays.Given as goal

abbrev pub invariant-loop-target : goal.invariant-loop-target
invariant-loop-target l = record {
  long : length l.strays.items ≡ length l.rows.rows;
  marks : (q : ℕ) → IsTrue (is_marked l.strays.items q) ↔
      IsTried (replicate (length l.rows.rows) false) (λ target other. IsStrayFor l.rows.rows target other) l.target-items l.target-index q;
}
