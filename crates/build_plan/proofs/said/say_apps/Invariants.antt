use Rattle.std.proofs.Common.{◌≡◌, ◌++◌, drop, flat_map}
use Rattle.build_plan.specs.Said.{after_space}
use Rattle.build_plan.proofs.said.say_apps.Given as goal

abbrev pub invariant-loop-app : goal.invariant-loop-app
invariant-loop-app l = l.text.items ++ flat_map after_space (drop l.app-index l.apps) ≡ l.fn.text.items ++ flat_map after_space l.apps
