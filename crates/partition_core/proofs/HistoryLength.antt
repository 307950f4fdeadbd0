-- How many events a legal history has at most.
use Rattle.std.proofs.Common.{◌≡◌, ℕ, ◌-◌, ◌+◌, ◌*◌, ◌≤◌, List, [], ◌∷◌, length, Option, Some, None, option_map, slice_get, slice_set, sum_by, sym, ◌∙◌, ap, arith}
use Rattle.std.proofs.lemmas.Option.{slice_get_within, get_or_from_slice_get}
use Rattle.std.proofs.lemmas.List.Folds.{sum_by-replicate}
use Rattle.std.proofs.lemmas.List.Sums.{sum_by-set}
use Rattle.compile_model.specs.declared.outcome.Fate.{Fate}
use Rattle.compile_model.specs.declared.outcome.Fate.TheVariants.{Built, Failed, Skipped}
use Rattle.staleness.specs.declared.kept.Kept.{Kept}
use Rattle.partition_core.specs.declared.event.Event.{Event}
use Rattle.partition_core.specs.declared.event.Event.TheVariants.{Keep, Start, Finish, Fail, Skip, Back}
use Rattle.partition_core.specs.declared.event.Standing.{Standing}
use Rattle.partition_core.specs.declared.event.Standing.TheVariants.{Idle, Runs, Ended}
use Rattle.partition_core.specs.State.{Opening, State, start_of, at, needs_at, outcomes_now, standing}
use Rattle.partition_core.specs.Steps.{IsLegal, Holds, after, settle, stand}
use Rattle.partition_core.specs.Histories.{AreLegal, Legal, after_all}
use Rattle.partition_core.proofs.Places.{standing_get, kept_parts}
use Rattle.partition_core.proofs.Tidy.{Tidy, tidy_step, tidy_start}

abbrev weight : Standing → ℕ
weight Idle = 2
weight (Runs place) = 1
weight Ended = 0

abbrev open_weight : Option Fate → ℕ
open_weight None = 2
open_weight (Some fate) = 0

-- how many events may still come at most
abbrev left : State → ℕ
left s = sum_by open_weight s.fates + sum_by weight s.standings

pub sum_set : {X : Type 0} (f : X → ℕ) (xs : List X) (i : ℕ) (x y : X) → slice_get xs i ≡ Some y → sum_by f (slice_set xs i x) + f y ≡ sum_by f xs + f x
sum_set {X} f xs i x y e =
    ap (λ (z : X). sum_by f (slice_set xs i x) + f z) (sym (get_or_from_slice_get xs i y y e)) ∙ sum_by-set f xs i x y (slice_get_within xs i y e)

settle_left : (s : State) (place : ℕ) (fate : Fate) → slice_get s.fates place ≡ Some None → left (settle s place (Some fate)) + 2 ≡ left s
settle_left s place fate is = omega (arith, sum_set open_weight s.fates place (Some fate) None is)

stand_left : (s : State) (by : ℕ) (now was : Standing) → standing s.standings by ≡ Some was → left (stand s by now) + weight was ≡ left s + weight now
stand_left s by now was is = omega (arith, sum_set weight s.standings (by - 1) now was (standing_get s.standings by was is))

ran_left : (s : State) (place by : ℕ) (fate : Fate) → Tidy s → Holds s place by → left (stand (settle s place (Some fate)) by Idle) + 1 ≤ left s
ran_left s place by fate tidy holds =
    let a = settle_left s place fate (tidy.open_place (by - 1) place (standing_get s.standings by (Runs place) holds)) in
    let b = stand_left (settle s place (Some fate)) by Idle (Runs place) holds in
    omega (arith, a, b)

step_left : (o : Opening) (s : State) → Tidy s → (event : Event) → IsLegal o s event → left (after o s event) + 1 ≤ left s
step_left o s tidy (Keep place by) legal =
    let parts = kept_parts (at o.kept place) (slice_get o.plan.jobs place) (outcomes_now s.fates (needs_at o place)) legal.2 in
    let fate : option_map (λ (kept : Kept). Built kept.outcome) (at o.kept place) ≡ Some (Built parts.0.outcome) =
    ap (option_map (λ (kept : Kept). Built kept.outcome)) parts.2 in
    let a = settle_left s place (Built parts.0.outcome) legal.0.open_place in
    omega (arith, a, ap (λ (f : Option Fate). left (settle s place f)) fate)
step_left o s tidy (Start place by) legal = omega (arith, stand_left s by (Runs place) Idle legal.0.idle)
step_left o s tidy (Finish place by outcome) legal = ran_left s place by (Built outcome) tidy legal.0
step_left o s tidy (Fail place by outcome) legal = ran_left s place by (Failed outcome) tidy legal.0
step_left o s tidy (Skip place need by) legal = omega (arith, settle_left s place (Skipped need) legal.0.open_place)
step_left o s tidy (Back place by cause) legal = omega (arith, stand_left s by Ended (Runs place) legal)

all_left : (o : Opening) (s : State) (events : List Event) → Tidy s → AreLegal o s events → length events + left (after_all o s events) ≤ left s
all_left o s [] tidy legal = omega arith
all_left o s (event ∷ events) tidy legal =
    omega (arith, all_left o (after o s event) events (tidy_step o s tidy event legal.0) legal.1, step_left o s tidy event legal.0)

pub bounded : (o : Opening) (events : List Event) → Legal o events → length events ≤ 2 * (length o.plan.jobs + o.partitions)
bounded o events legal =
    omega (
      arith,
      all_left o (start_of o) events (tidy_start o) legal,
      sum_by-replicate open_weight (length o.plan.jobs) None,
      sum_by-replicate weight
          o.partitions Idle,
    )
