-- The state of a build by several partitions.
use Rattle.std.specs.Prelude.{ℕ, ◌-◌, Bool, false, List, [], ◌∷◌, length, replicate, Option, Some, None, option_and_then, slice_get, filter_map, is_some, if◌then◌else◌, ◌==◌}
use Rattle.std.specs.List.{list_any}
use Rattle.compile_model.specs.declared.job.Job.{Job}
use Rattle.compile_model.specs.declared.job.Plan.{Plan}
use Rattle.compile_model.specs.declared.outcome.Outcome.{Outcome}
use Rattle.compile_model.specs.declared.outcome.Fate.{Fate}
use Rattle.compile_model.specs.Seq.{built_outcome}
use Rattle.staleness.specs.declared.kept.Kept.{Kept}
use Rattle.staleness.specs.Matching.{matches}
use Rattle.partition_core.specs.declared.event.Standing.{Standing}
use Rattle.partition_core.specs.declared.event.Standing.TheVariants.{Idle, Runs, Ended}

-- what a build begins with
pub record Opening : Type 0 where
  pub plan : Plan
  pub kept : List (Option Kept)
  pub partitions : ℕ

-- what became of each place, if it has a fate, and what each partition does
pub record State : Type 0 where
  pub fates : List (Option Fate)
  pub standings : List Standing

abbrev pub start_of : Opening → State
start_of o = record { fates = replicate (length o.plan.jobs) None; standings = replicate o.partitions Idle }

-- the value at a place of a list of options
abbrev pub at : {X : Type 0} → List (Option X) → ℕ → Option X
at xs place = option_and_then (λ x. x) (slice_get xs place)

-- the outcome of a place that is built
abbrev pub built_at : List (Option Fate) → ℕ → Option Outcome
built_at fates place = option_and_then built_outcome (at fates place)

-- the first of these that isn't built
abbrev pub first_open : List (Option Fate) → List ℕ → Option ℕ
first_open fates [] = None
first_open fates (need ∷ needs) = if is_some (built_at fates need) then first_open fates needs else Some need

abbrev pub outcomes_now : List (Option Fate) → List ℕ → List Outcome
outcomes_now fates needs = filter_map (built_at fates) needs

abbrev pub needs_of : Option Job → List ℕ
needs_of None = []
needs_of (Some job) = job.needs

abbrev pub needs_at : Opening → ℕ → List ℕ
needs_at o place = needs_of (slice_get o.plan.jobs place)

-- the first need of a place that isn't built
abbrev pub missing : Opening → State → ℕ → Option ℕ
missing o s place = first_open s.fates (needs_at o place)

-- the kept mark is that of the job with these outcomes
abbrev pub kept_matches : Option Kept → Option Job → List Outcome → Bool
kept_matches None job outcomes = false
kept_matches (Some kept) None outcomes = false
kept_matches (Some kept) (Some job) outcomes = matches kept.mark job outcomes

-- the mark that is kept of the place is that of its input
abbrev pub stands : Opening → State → ℕ → Bool
stands o s place = kept_matches (at o.kept place) (slice_get o.plan.jobs place) (outcomes_now s.fates (needs_at o place))

-- what the partition of this number does; they are numbered from 1
abbrev pub standing : List Standing → ℕ → Option Standing
standing standings by = if by == 0 then None else slice_get standings (by - 1)

abbrev pub is_run : ℕ → Standing → Bool
is_run place Idle = false
is_run place (Runs other) = other == place
is_run place Ended = false

-- some partition runs the place
abbrev pub is_running : List Standing → ℕ → Bool
is_running standings place = list_any (is_run place) standings
