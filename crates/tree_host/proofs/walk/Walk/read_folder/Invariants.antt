use Rattle.std.proofs.Common.{◌≡◌}
use Rattle.tree_host.proofs.walk.Walk.read_folder.Given as goal

abbrev pub invariant-loop-entry : goal.invariant-loop-entry
invariant-loop-entry g l =
    (goal.iterator-loop-entry g).can_next l.entry-iterator ×
    (goal.iterator-loop-entry g).is_finite l.entry-iterator ×
    (l.self ≡ l.initial.self)
