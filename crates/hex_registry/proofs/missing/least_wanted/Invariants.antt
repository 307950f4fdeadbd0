use Rattle.std.proofs.Common.{◌≡◌, None, drop, option_copied}
use Rattle.hex_registry.specs.Missing.{least_with, missing_wants}
use Rattle.hex_registry.proofs.missing.least_wanted.Given as goal

abbrev pub invariant-loop-want : goal.invariant-loop-want
invariant-loop-want l = least_with (option_copied l.least) (missing_wants l.pick (drop l.want-index l.wants)) ≡ least_with None (missing_wants l.pick l.wants)
