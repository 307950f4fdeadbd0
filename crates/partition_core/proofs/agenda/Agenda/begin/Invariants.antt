use Rattle.std.proofs.Common.{◌≡◌, ℕ, ◌<◌, Some, slice_get}
use Rattle.partition_core.specs.Lots.{fates_of, state_of}
use Rattle.partition_core.specs.Agendas.{HasFronts, offers}
use Rattle.partition_core.proofs.agenda.Agenda.begin.Given as goal

abbrev pub invariant-loop-place : goal.invariant-loop-place
invariant-loop-place l = record {
  fronts : HasFronts l.plan.jobs (fates_of l.lots) l.outlook;
  right : (place : ℕ) → place < l.place → slice_get l.outlook.offering place ≡ Some (offers l.plan.jobs (state_of l.lots l.standings) place);
}
