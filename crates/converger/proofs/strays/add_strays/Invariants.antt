use Rattle.std.proofs.Common.{◌≡◌, ◌↔◌, ◌⊎◌, ℕ, ◌<◌, length, IsTrue}
use Rattle.converger.specs.Strays.{is_marked, IsStray}
use Rattle.converger.proofs.strays.add_strays.Given as goal

abbrev pub invariant-loop-other : goal.invariant-loop-other
invariant-loop-other l = record {
  long : length l.strays.items ≡ length l.fn.strays.items;
  marks : (q : ℕ) → IsTrue (is_marked l.strays.items q) ↔
      (IsTrue (is_marked l.fn.strays.items q) ⊎ ((q < l.other) × IsStray l.web.rows.now.rows l.env l.web.target.now q));
}
