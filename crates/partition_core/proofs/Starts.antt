-- How often places are started at most.
use Rattle.std.proofs.Common.{◌≡◌, ℕ, suc, ◌-◌, ◌+◌, ◌<◌, ◌≤◌, ◌⊎◌, inl, inr, Bool, true, false, not, ◌&&◌, ◌||◌, cond, List, [], ◌∷◌, length, count_by, Option, Some, None, is_some, is_none, option_map, slice_get, slice_set, refl, sym, ◌∙◌, ap, arith}
use Rattle.std.specs.List.{list_any}
use Rattle.std.specs.Option.{option_and_then}
use Rattle.std.proofs.lemmas.Option.{slice_get_within}
use Rattle.std.proofs.lemmas.List.Sums.{sum_by-cons}
use Rattle.std.proofs.lemmas.Bool.{or_cases, or_left, or_right, and_parts, and_from, cases_eq, not_from_false, eqb-true}
use Rattle.compile_model.specs.declared.outcome.Outcome.{Outcome}
use Rattle.compile_model.specs.declared.outcome.Fate.{Fate}
use Rattle.compile_model.specs.declared.outcome.Fate.TheVariants.{Built, Failed, Skipped}
use Rattle.compile_model.specs.Content.{Content}
use Rattle.compile_model.specs.Planned.{ArePlanned}
use Rattle.compile_model.specs.Seq.{seq, first_unbuilt, outcomes_of}
use Rattle.staleness.specs.declared.kept.Kept.{Kept}
use Rattle.partition_core.specs.declared.event.Event.{Event}
use Rattle.partition_core.specs.declared.event.Event.TheVariants.{Keep, Start, Finish, Fail, Skip, Back}
use Rattle.partition_core.specs.declared.event.Standing.{Standing}
use Rattle.partition_core.specs.declared.event.Standing.TheVariants.{Idle, Runs, Ended}
use Rattle.partition_core.specs.State.{Opening, State, start_of, at, needs_at, missing, kept_matches, stands, outcomes_now, is_run, is_running}
use Rattle.partition_core.specs.Steps.{IsLegal, IsFree, Holds, after, settle, stand}
use Rattle.partition_core.specs.Histories.{AreLegal, AreFaithful, Legal, Faithful, Sound, after_all, replay}
use Rattle.partition_core.specs.Counts.{is_start, is_back, count_below, is_compiled}
use Rattle.partition_core.proofs.CountsBelow.{count_le, count_lt, count_less}
use Rattle.partition_core.proofs.Places.{set_same, set_other, standing_get, kept_parts}
use Rattle.partition_core.proofs.Needs.{all_built, all_outcomes}
use Rattle.partition_core.proofs.Tidy.{Tidy, runs_somewhere, tidy_step, tidy_start}
use Rattle.partition_core.proofs.Confluent.{Sane, sane_step, sane_start}

-- the place has a fate, or is running
abbrev touched : State → ℕ → Bool
touched s place = is_some (at s.fates place) || is_running s.standings place

some_at : (found : Option (Option Fate)) → is_some (option_and_then (λ (v : Option Fate). v) found) ≡ true → (v : Option Fate) × (found ≡ Some v)
some_at None e = cc
some_at (Some v) e = (v, refl)

some_set : (fates : List (Option Fate)) (place : ℕ) (fate : Fate) (p : ℕ) → is_some (at fates p) ≡ true →
    is_some (at (slice_set fates place (Some fate)) p) ≡ true
some_set fates place fate p e =
    elim (cases_eq p place) [
      | inl same ↦
          let was = some_at (slice_get fates p) e in
          let now : slice_get (slice_set fates place (Some fate)) p ≡ Some (Some fate) =
          ap (slice_get (slice_set fates place (Some fate))) same ∙ set_same fates place (Some fate) was.0 (ap (slice_get fates) (sym same) ∙ was.1) in
          ap (λ (v : Option (Option Fate)). is_some (option_and_then (λ (w : Option Fate). w) v)) now
      | inr other ↦ ap (λ (v : Option (Option Fate)). is_some (option_and_then (λ (w : Option Fate). w) v)) (set_other fates place p (Some fate) other) ∙ e
    ]

run_is : (place : ℕ) (now : Standing) → is_run place now ≡ true → now ≡ Runs place
run_is place Idle e = cc
run_is place (Runs p) e = ap Runs (eqb-true p place e)
run_is place Ended e = cc

-- what is running is run by a partition
running_at : (standings : List Standing) (place : ℕ) → is_running standings place ≡ true → (i : ℕ) × (slice_get standings i ≡ Some (Runs place))
running_at [] place e = cc
running_at (x ∷ xs) place e = by_head (running_at xs place) (or_cases (is_run place x) (list_any (is_run place) xs) e)
  where
    by_head : (is_running xs place ≡ true → (i : ℕ) × (slice_get xs i ≡ Some (Runs place))) →
        ((is_run place x ≡ true) ⊎ (list_any (is_run place) xs ≡ true)) → (i : ℕ) × (slice_get (x ∷ xs) i ≡ Some (Runs place))
    by_head rest (inl here) = (0, ap Some (run_is place x here))
    by_head rest (inr later) = let r = rest later in (suc r.0, r.1)

-- a place that another partition runs stays running
running_set : (standings : List Standing) (k : ℕ) (now : Standing) (place p : ℕ) → slice_get standings k ≡ Some (Runs place) → (p ≡ place → ⊥) →
    is_running standings p ≡ true → is_running (slice_set standings k now) p ≡ true
running_set standings k now place p own other e =
    let r = running_at standings p e in
    runs_somewhere (slice_set standings k now) r.0 p (set_other standings k r.0 now (λ same. other (same_place same r.1)) ∙ r.1)
  where
    same_place : {i : ℕ} → i ≡ k → slice_get standings i ≡ Some (Runs p) → p ≡ place
    same_place same is = let a = ap (slice_get standings) same in let b : Some (Runs p) ≡ Some (Runs place) = sym is ∙ a ∙ own in cc

-- a place that an idle partition runs from now on
running_more : (standings : List Standing) (k place p : ℕ) → slice_get standings k ≡ Some Idle → is_running standings p ≡ true →
    is_running (slice_set standings k (Runs place)) p ≡ true
running_more standings k place p idle e =
    let r = running_at standings p e in
    runs_somewhere (slice_set standings k (Runs place)) r.0 p (set_other standings k r.0 (Runs place) (λ same. is_idle same r.1) ∙ r.1)
  where
    is_idle : {i : ℕ} → i ≡ k → slice_get standings i ≡ Some (Runs p) → ⊥
    is_idle same is = let a = ap (slice_get standings) same in let b : Some (Runs p) ≡ Some Idle = sym is ∙ a ∙ idle in cc

-- the places that are compiled and have been touched
abbrev charged : (Content → Outcome) → Opening → State → ℕ → Bool
charged compile o s place = is_compiled compile o place && touched s place

abbrev charge : (Content → Outcome) → Opening → State → ℕ
charge compile o s = count_below (charged compile o s) (length o.plan.jobs)

still : (a b c : Bool) → (b ≡ true → c ≡ true) → (a && b) ≡ true → (a && c) ≡ true
still a b c h e = let parts = and_parts a b e in and_from a c parts.0 (h parts.1)

touched_by : (s t : State) (p : ℕ) → (is_some (at s.fates p) ≡ true → touched t p ≡ true) → (is_running s.standings p ≡ true → touched t p ≡ true) →
    touched s p ≡ true → touched t p ≡ true
touched_by s t p fate run e = elim (or_cases (is_some (at s.fates p)) (is_running s.standings p) e) [ inl a ↦ fate a | inr b ↦ run b ]

-- a place that gets a fate
touched_settled : (s : State) (place : ℕ) (fate : Fate) (p : ℕ) → touched s p ≡ true → touched (settle s place (Some fate)) p ≡ true
touched_settled s place fate p e =
    touched_by s (settle s place (Some fate)) p
    (λ a. or_left (is_some (at (slice_set s.fates place (Some fate)) p)) (is_running s.standings p) (some_set s.fates place fate p a))
    (λ b. or_right (is_some (at (slice_set s.fates place (Some fate)) p)) (is_running s.standings p) b) e

charge_settled : (compile : Content → Outcome) (o : Opening) (s : State) (place : ℕ) (fate : Fate) →
    charge compile o s ≤ charge compile o (settle s place (Some fate))
charge_settled compile o s place fate =
    count_le (charged compile o s) (charged compile o (settle s place (Some fate))) (length o.plan.jobs)
    (λ p below e. still (is_compiled compile o p) (touched s p) (touched (settle s place (Some fate)) p) (touched_settled s place fate p) e)

ended_run : (s : State) (place by : ℕ) (fate : Fate) → Holds s place by → (v : Option Fate) → slice_get s.fates place ≡ Some v → (p : ℕ) →
    ((p ≡ place) ⊎ (p ≡ place → ⊥)) → is_running s.standings p ≡ true → touched (stand (settle s place (Some fate)) by Idle) p ≡ true
ended_run s place by fate holds v there p (inl same) e =
    let now : slice_get (slice_set s.fates place (Some fate)) p ≡ Some (Some fate) =
    ap (slice_get (slice_set s.fates place (Some fate))) same ∙ set_same s.fates place (Some fate) v there in
    or_left (is_some (at (slice_set s.fates place (Some fate)) p)) (is_running (slice_set s.standings (by - 1) Idle) p)
    (ap (λ (w : Option (Option Fate)). is_some (option_and_then (λ (x : Option Fate). x) w)) now)
ended_run s place by fate holds v there p (inr other) e =
    or_right (is_some (at (slice_set s.fates place (Some fate)) p)) (is_running (slice_set s.standings (by - 1) Idle) p)
    (running_set s.standings (by - 1) Idle place p (standing_get s.standings by (Runs place) holds) other e)

touched_ended : (s : State) (place by : ℕ) (fate : Fate) → Holds s place by → (v : Option Fate) → slice_get s.fates place ≡ Some v → (p : ℕ) →
    touched s p ≡ true → touched (stand (settle s place (Some fate)) by Idle) p ≡ true
touched_ended s place by fate holds v there p e =
    touched_by s (stand (settle s place (Some fate)) by Idle) p
    (λ a. or_left (is_some (at (slice_set s.fates place (Some fate)) p)) (is_running (slice_set s.standings (by - 1) Idle) p) (some_set s.fates place fate p a))
    (ended_run s place by fate holds v there p (cases_eq p place)) e

-- a place that was compiled
charge_ended : (compile : Content → Outcome) (o : Opening) (s : State) (place by : ℕ) (fate : Fate) → Holds s place by →
    slice_get s.fates place ≡ Some None → charge compile o s ≤ charge compile o (stand (settle s place (Some fate)) by Idle)
charge_ended compile o s place by fate holds there =
    count_le (charged compile o s) (charged compile o (stand (settle s place (Some fate)) by Idle)) (length o.plan.jobs)
    (λ p below e. still (is_compiled compile o p) (touched s p) (touched (stand (settle s place (Some fate)) by Idle) p)
    (touched_ended s place by fate holds None there p) e)

-- a place that starts
touched_started : (s : State) (place by : ℕ) → IsFree s place by → (p : ℕ) → touched s p ≡ true → touched (stand s by (Runs place)) p ≡ true
touched_started s place by free p e =
    touched_by s (stand s by (Runs place)) p
    (λ a. or_left (is_some (at s.fates p)) (is_running (slice_set s.standings (by - 1) (Runs place)) p) a)
    (λ b. or_right (is_some (at s.fates p)) (is_running (slice_set s.standings (by - 1) (Runs place)) p)
    (running_more s.standings (by - 1) place p (standing_get s.standings by Idle free.idle) b)) e

untouched : (s : State) (place by : ℕ) → IsFree s place by → touched s place ≡ false
untouched s place by free =
    ap (λ (v : Option (Option Fate)). is_some (option_and_then (λ (w : Option Fate). w) v) || is_running s.standings place) free.open_place ∙ free.not_running

started : (s : State) (place by : ℕ) → IsFree s place by → touched (stand s by (Runs place)) place ≡ true
started s place by free =
    or_right (is_some (at s.fates place)) (is_running (slice_set s.standings (by - 1) (Runs place)) place)
    (runs_somewhere (slice_set s.standings (by - 1) (Runs place)) (by - 1) place
    (set_same s.standings (by - 1) (Runs place) Idle (standing_get s.standings by Idle free.idle)))

and_false : (a b : Bool) → b ≡ false → (a && b) ≡ false
and_false true b e = e
and_false false b e = refl

-- a place that starts is one that is compiled
start_compiled : (compile : Content → Outcome) (o : Opening) (s : State) → Sane compile o s → (place : ℕ) → missing o s place ≡ None →
    stands o s place ≡ false → is_compiled compile o place ≡ true
start_compiled compile o s sane place none stood =
    let all = seq compile o.plan.jobs in
    let first = all_built s.fates all sane.agrees (needs_at o place) none in
    let outs = all_outcomes s.fates all sane.agrees (needs_at o place) none in
    and_from (is_none (first_unbuilt all (needs_at o place)))
    (not (kept_matches (at o.kept place) (slice_get o.plan.jobs place) (outcomes_of all (needs_at o place))))
    (ap is_none first)
    (not_from_false (kept_matches (at o.kept place) (slice_get o.plan.jobs place) (outcomes_of all (needs_at o place)))
    (ap (kept_matches (at o.kept place) (slice_get o.plan.jobs place)) (sym outs) ∙ stood))

charge_started : (compile : Content → Outcome) (o : Opening) (s : State) → Sane compile o s → (place by : ℕ) → IsFree s place by →
    missing o s place ≡ None → stands o s place ≡ false → charge compile o s + 1 ≤ charge compile o (stand s by (Runs place))
charge_started compile o s sane place by free none stood =
    let inside : place < length o.plan.jobs = (let h = slice_get_within s.fates place None free.open_place in let e = sane.places in omega arith) in
    count_lt (charged compile o s) (charged compile o (stand s by (Runs place))) (length o.plan.jobs) place
    (λ p below e. still (is_compiled compile o p) (touched s p) (touched (stand s by (Runs place)) p) (touched_started s place by free p) e)
    inside
    (and_false (is_compiled compile o place) (touched s place) (untouched s place by free))
    (and_from (is_compiled compile o place) (touched (stand s by (Runs place)) place) (start_compiled compile o s sane place none stood)
    (started s place by free))

-- a place that is given back
touched_back : (s : State) (place by : ℕ) → Holds s place by → (p : ℕ) → (p ≡ place → ⊥) → touched s p ≡ true → touched (stand s by Ended) p ≡ true
touched_back s place by holds p other e =
    touched_by s (stand s by Ended) p
    (λ a. or_left (is_some (at s.fates p)) (is_running (slice_set s.standings (by - 1) Ended) p) a)
    (λ b. or_right (is_some (at s.fates p)) (is_running (slice_set s.standings (by - 1) Ended) p)
    (running_set s.standings (by - 1) Ended place p (standing_get s.standings by (Runs place) holds) other b)) e

charge_back : (compile : Content → Outcome) (o : Opening) (s : State) (place by : ℕ) → Holds s place by →
    charge compile o s ≤ charge compile o (stand s by Ended) + 1
charge_back compile o s place by holds =
    count_less (charged compile o s) (charged compile o (stand s by Ended)) (length o.plan.jobs) place
    (λ p below other e. still (is_compiled compile o p) (touched s p) (touched (stand s by Ended) p) (touched_back s place by holds p other) e)

-- a start charges one place more, and only what is given back charges one less
charge_step : (compile : Content → Outcome) (o : Opening) (s : State) → Sane compile o s → Tidy s → (event : Event) → IsLegal o s event →
    cond (is_start event) 1 0 + charge compile o s ≤ charge compile o (after o s event) + cond (is_back event) 1 0
charge_step compile o s sane tidy (Keep place by) legal =
    let parts = kept_parts (at o.kept place) (slice_get o.plan.jobs place) (outcomes_now s.fates (needs_at o place)) legal.2 in
    let fate : option_map (λ (kept : Kept). Built kept.outcome) (at o.kept place) ≡ Some (Built parts.0.outcome) =
    ap (option_map (λ (kept : Kept). Built kept.outcome)) parts.2 in
    omega (arith, charge_settled compile o s place (Built parts.0.outcome), ap (λ (f : Option Fate). charge compile o (settle s place f)) fate)
charge_step compile o s sane tidy (Start place by) legal = omega (arith, charge_started compile o s sane place by legal.0 legal.1 legal.2)
charge_step compile o s sane tidy (Finish place by outcome) legal =
    omega (arith, charge_ended compile o s place by (Built outcome) legal.0 (tidy.open_place (by - 1) place (standing_get s.standings by (Runs place) legal.0)))
charge_step compile o s sane tidy (Fail place by outcome) legal =
    omega (
      arith,
      charge_ended compile o s place by (Failed outcome) legal.0
          (tidy.open_place (by - 1) place (standing_get s.standings by (Runs place) legal.0)),
    )
charge_step compile o s sane tidy (Skip place need by) legal = omega (arith, charge_settled compile o s place (Skipped need))
charge_step compile o s sane tidy (Back place by cause) legal = omega (arith, charge_back compile o s place by legal)

pub count_first : (test : Event → Bool) (event : Event) (events : List Event) → count_by test (event ∷ events) ≡ cond (test event) 1 0 + count_by test events
count_first test event events = sum_by-cons (λ (e : Event). cond (test e) 1 0) event events

charge_all : (compile : Content → Outcome) (o : Opening) → ArePlanned o.plan.jobs → Sound compile o → (s : State) (events : List Event) →
    Sane compile o s → Tidy s → AreLegal o s events → AreFaithful compile o s events →
    count_by is_start events + charge compile o s ≤ charge compile o (after_all o s events) + count_by is_back events
charge_all compile o planned sound s [] sane tidy legal faithful = omega arith
charge_all compile o planned sound s (event ∷ events) sane tidy legal faithful =
    let rest = charge_all compile o planned sound (after o s event) events (sane_step compile o s planned sound sane event legal.0 faithful.0)
    (tidy_step o s tidy event legal.0) legal.1 faithful.1 in
    omega (arith, rest, charge_step compile o s sane tidy event legal.0, count_first is_start event events, count_first is_back event events)

-- starts are at most the places that are compiled, and as many more as places were given back
pub few_starts : (compile : Content → Outcome) (o : Opening) (events : List Event) → ArePlanned o.plan.jobs → Sound compile o → Legal o events →
    Faithful compile o events → count_by is_start events ≤ count_below (is_compiled compile o) (length o.plan.jobs) + count_by is_back events
few_starts compile o events planned sound legal faithful =
    omega (
      arith,
      charge_all compile o planned sound (start_of o) events (sane_start compile o) (tidy_start o) legal faithful,
      count_le (charged compile o (replay o events)) (is_compiled compile o) (length o.plan.jobs)
          (λ p below e. (and_parts (is_compiled compile o p) (touched (replay o events) p) e).0),
    )
