use Rattle.std.proofs.Common.{ℕ, ◌<◌, get_or}
use Rattle.hex_registry.specs.Breaches.{IsAgainst}
use Rattle.hex_registry.specs.Picks.{Picked}
use Rattle.hex_registry.specs.declared.unmet.By.{By}
use Rattle.hex_registry.proofs.unmet.first_unmet.Given as goal

abbrev pub invariant-loop-picked : goal.invariant-loop-picked
invariant-loop-picked l = (k : ℕ) (d : Picked) → k < l.picked-index → (by : By) → IsAgainst l.registry l.wants l.pick (get_or l.picked-items k d) by → ⊥
