use Rattle.std.proofs.Common.{drop}
use Rattle.partition_core.specs.Lots.{state_of}
use Rattle.partition_core.specs.Agendas.{IsOutlook}
use Rattle.partition_core.proofs.outlook.Outlook.look_at_all.Given as goal

abbrev pub invariant-loop-place : goal.invariant-loop-place
invariant-loop-place l = IsOutlook l.plan.jobs (state_of l.lots l.standings) (drop l.place-index l.places) l.self
