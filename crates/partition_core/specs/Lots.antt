-- What the core keeps of each place.
use Rattle.std.specs.Prelude.{List, length, map, Option, Some, None, option_map}
use Rattle.compile_model.specs.declared.job.Plan.{Plan}
use Rattle.compile_model.specs.declared.outcome.Fate.{Fate}
use Rattle.compile_model.specs.Seq.{built_outcome}
use Rattle.staleness.specs.declared.kept.Kept.{Kept}
use Rattle.partition_core.specs.declared.lot.Lot.{Lot}
use Rattle.partition_core.specs.declared.lot.Lot.TheVariants.{Open, Reused, Settled}
use Rattle.partition_core.specs.declared.event.Standing.{Standing}
use Rattle.partition_core.specs.State.{Opening, State}

abbrev pub fate_of : Lot → Option Fate
fate_of (Open kept) = None
fate_of (Reused mark fate) = Some fate
fate_of (Settled kept fate) = Some fate

-- what was kept of the place when the build began
abbrev pub kept_of : Lot → Option Kept
kept_of (Open kept) = kept
kept_of (Reused mark fate) = option_map (λ outcome. record { mark = mark; outcome = outcome }) (built_outcome fate)
kept_of (Settled kept fate) = kept

abbrev pub fates_of : List Lot → List (Option Fate)
fates_of lots = map fate_of lots

abbrev pub kepts_of : List Lot → List (Option Kept)
kepts_of lots = map kept_of lots

abbrev pub opening_of : Plan → List Lot → List Standing → Opening
opening_of plan lots standings = record { plan = plan; kept = kepts_of lots; partitions = length standings }

abbrev pub state_of : List Lot → List Standing → State
state_of lots standings = record { fates = fates_of lots; standings = standings }
