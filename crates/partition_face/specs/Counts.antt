-- What partitions and their makers count.
use Rattle.std.specs.Prelude.{◌≡◌, ℕ, ◌+◌, ◌-◌, ◌^◌, ◌<◌, max, min, List, [], ◌∷◌}
use Rattle.partition_face.specs.declared.counts.Counts.{Counts}

-- nothing counted
abbrev pub fresh : Counts
fresh = record { runs = 0; deaths = 0 }

-- it hasn't died, and may make one run more
pub record CanRun (counts : Counts) : Type 0 where
  pub lives : counts.deaths ≡ 0
  pub few : counts.runs < 2 ^ 63

-- a count that stands still at its last value, and never falls
abbrev pub raised_by : ℕ → ℕ → ℕ
raised_by more count = max count (min (count + more) (2 ^ 64 - 1))

-- two counts together
abbrev pub both : Counts → Counts → Counts
both counts more = record { runs = raised_by more.runs counts.runs; deaths = raised_by more.deaths counts.deaths }

-- all runs of these, and all deaths
abbrev pub runs_of : List Counts → ℕ
runs_of [] = 0
runs_of (counts ∷ more) = counts.runs + runs_of more

abbrev pub deaths_of : List Counts → ℕ
deaths_of [] = 0
deaths_of (counts ∷ more) = counts.deaths + deaths_of more
