use Rattle.std.proofs.Common.{◌≡◌, None, drop}
use Rattle.staleness.specs.Matching.{needs_match}
use Rattle.partition_core.specs.State.{first_open, outcomes_now}
use Rattle.partition_core.specs.Lots.{fates_of}
use Rattle.partition_core.proofs.lot.matches_needs.Given as goal

abbrev pub invariant-loop-index : goal.invariant-loop-index
invariant-loop-index l = record {
  built : first_open (fates_of l.lots) (drop l.index l.needs) ≡ None;
  so_far : needs_match l.mark.needs l.index (outcomes_now (fates_of l.lots) (drop l.index l.needs)) ≡ needs_match l.mark.needs 0
      (outcomes_now (fates_of l.lots) l.needs);
}
