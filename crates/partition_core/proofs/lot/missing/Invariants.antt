use Rattle.std.proofs.Common.{◌≡◌, drop}
use Rattle.partition_core.specs.State.{first_open}
use Rattle.partition_core.specs.Lots.{fates_of}
use Rattle.partition_core.proofs.lot.missing.Given as goal

abbrev pub invariant-loop-need : goal.invariant-loop-need
invariant-loop-need l = first_open (fates_of l.lots) (drop l.need-index l.needs) ≡ first_open (fates_of l.lots) l.needs
