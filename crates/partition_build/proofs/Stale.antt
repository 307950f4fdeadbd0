-- Each place that is compiled is started, and once more for each time that it is given back.
use Rattle.std.proofs.Common.{◌≡◌, ℕ, zero, suc, ◌-◌, ◌+◌, ◌≤◌, Bool, true, false, cond, List, [], ◌∷◌, length, replicate, count_by, Option, Some, None, is_some, option_map, slice_get, slice_set, refl, sym, ◌∙◌, ap, subst, arith}
use Rattle.std.proofs.lemmas.Bool.{and_from, and_parts}
use Rattle.std.proofs.lemmas.List.Sums.{sum_by-cons}
use Rattle.compile_model.specs.declared.outcome.Outcome.{Outcome}
use Rattle.compile_model.specs.declared.outcome.Fate.{Fate}
use Rattle.compile_model.specs.declared.outcome.Fate.TheVariants.{Built, Failed, Skipped}
use Rattle.compile_model.specs.Content.{Content}
use Rattle.compile_model.specs.Planned.{ArePlanned}
use Rattle.compile_model.specs.Seq.{seq}
use Rattle.staleness.specs.declared.kept.Kept.{Kept}
use Rattle.partition_core.specs.declared.event.Event.{Event}
use Rattle.partition_core.specs.declared.event.Event.TheVariants.{Keep, Start, Finish, Fail, Skip, Back}
use Rattle.partition_core.specs.declared.event.Standing.{Standing}
use Rattle.partition_core.specs.declared.event.Standing.TheVariants.{Idle, Runs, Ended}
use Rattle.partition_core.specs.State.{Opening, State, at, start_of}
use Rattle.partition_core.specs.Steps.{IsLegal, after}
use Rattle.partition_core.specs.Histories.{Agrees, AreLegal, Faithful, Legal, Sound, after_all, replay}
use Rattle.partition_core.specs.Counts.{count_below, is_back, is_compiled, is_start}
use Rattle.partition_core.proofs.Confluent.{confluent}
use Rattle.partition_core.proofs.CountsBelow.{count_le}
use Rattle.partition_core.proofs.Places.{standing_get}
use Rattle.partition_core.proofs.Starts.{count_first, few_starts}
use Rattle.partition_core.proofs.Tidy.{Tidy, tidy_start, tidy_step}
use Rattle.partition_board.proofs.Growing.{grows_all}
use Rattle.partition_crew.specs.declared.one.One.{One}
use Rattle.partition_crew.specs.Build.{HaveFates}
use Rattle.partition_crew.specs.Station.{is_covered}
use Rattle.partition_crew.proofs.Beginning.{at_none, count_none}
use Rattle.partition_crew.proofs.Covering.{covered_no_more, covered_one_more, kept_uncompiled, skipped_uncompiled}
use Rattle.partition_build.specs.Built.{AreStartsOf, HasBegun}
use Rattle.partition_build.specs.Built.HasBegun.{begun, unbegun}

-- ---- partitions that run

abbrev is_busy : Standing → Bool
is_busy Idle = false
is_busy (Runs place) = true
is_busy Ended = false

busy_first : (one : Standing) (more : List Standing) → count_by is_busy (one ∷ more) ≡ cond (is_busy one) 1 0 + count_by is_busy more
busy_first one more = sum_by-cons (λ (s : Standing). cond (is_busy s) 1 0) one more

busy_set : (standings : List Standing) (i : ℕ) (was now : Standing) → slice_get standings i ≡ Some was
    → count_by is_busy (slice_set standings i now) + cond (is_busy was) 1 0 ≡ count_by is_busy standings + cond (is_busy now) 1 0
busy_set [] i was now is = cc
busy_set (one ∷ more) zero was now is =
    let same : one ≡ was = cc in
    let alike : ◌≡◌ {A = ℕ} (cond (is_busy one) 1 0) (cond (is_busy was) 1 0) = ap (λ (s : Standing). cond (is_busy s) 1 0) same in
    omega (arith, busy_first one more, busy_first now more, alike)
busy_set (one ∷ more) (suc i) was now is = omega (arith, busy_first one more, busy_first one (slice_set more i now), busy_set more i was now is)

none_busy : (n : ℕ) → count_by is_busy (replicate n Idle) ≡ 0
none_busy zero = refl
none_busy (suc n) = omega (arith, busy_first Idle (replicate n Idle), none_busy n)

-- ---- compiled places that have their fates

module _ (compile : Content → Outcome) (o : Opening) where
  abbrev covered : State → ℕ
  covered s = count_below (is_covered compile o s.fates) (length o.plan.jobs)

  abbrev busy : State → ℕ
  busy s = count_by is_busy s.standings

  step : (s : State) (event : Event) → Agrees s.fates (seq compile o.plan.jobs) → IsLegal o s event
      → covered (after o s event) + busy (after o s event) + cond (is_back event) 1 0 ≤ covered s + busy s + cond (is_start event) 1 0
  step s (Keep place by) agrees legal =
      omega (
        arith,
        covered_no_more compile o s.fates place (option_map (λ (k : Kept). Built k.outcome) (at o.kept place))
            (kept_uncompiled compile o s place agrees legal.1 legal.2),
      )
  step s (Start place by) agrees legal = omega (arith, busy_set s.standings (by - 1) Idle (Runs place) (standing_get s.standings by Idle legal.0.idle))
  step s (Finish place by outcome) agrees legal =
      omega (
        arith,
        covered_one_more compile o s.fates place (Some (Built outcome)),
        busy_set s.standings (by - 1) (Runs place) Idle (standing_get s.standings by (Runs place) legal.0),
      )
  step s (Fail place by outcome) agrees legal =
      omega (
        arith,
        covered_one_more compile o s.fates place (Some (Failed outcome)),
        busy_set s.standings (by - 1) (Runs place) Idle (standing_get s.standings by (Runs place) legal.0),
      )
  step s (Skip place need by) agrees legal =
      omega (arith, covered_no_more compile o s.fates place (Some (Skipped need)) (skipped_uncompiled compile o s place need agrees legal.1 legal.2))
  step s (Back place by cause) agrees legal =
      omega (arith, busy_set s.standings (by - 1) (Runs place) Ended (standing_get s.standings by (Runs place) legal))

  steps : (s : State) (events : List Event) → Tidy s → AreLegal o s events → Agrees (after_all o s events).fates (seq compile o.plan.jobs)
      → covered (after_all o s events) + busy (after_all o s events) + count_by is_back events ≤ covered s + busy s + count_by is_start events
  steps s [] tidy legal agrees = omega arith
  steps s (event ∷ events) tidy legal agrees =
      let before : Agrees s.fates (seq compile o.plan.jobs) = λ place fate is. agrees place fate (grows_all o s (event ∷ events) tidy legal place fate is) in
      omega (
        arith,
        step s event before legal.0,
        steps (after o s event) events (tidy_step o s tidy event legal.0) legal.1 agrees,
        count_first is_back event events,
        count_first is_start event events,
      )

  first_covered : covered (start_of o) ≡ 0
  first_covered = count_none (is_covered compile o (replicate (length o.plan.jobs) None)) (length o.plan.jobs) (λ p e.
      let some : is_some (at {X = Fate} (replicate (length o.plan.jobs) None) p) ≡ true =
      (and_parts (is_compiled compile o p) (is_some (at (replicate (length o.plan.jobs) None) p)) e).1 in
      let clash : false ≡ true = ap is_some (sym (at_none (length o.plan.jobs) p)) ∙ some in cc)

  all_started : (events : List Event) → Legal o events → Agrees (replay o events).fates (seq compile o.plan.jobs)
      → HaveFates (length o.plan.jobs) (replay o events).fates
      → count_below (is_compiled compile o) (length o.plan.jobs) + count_by is_back events ≤ count_by is_start events
  all_started events legal agrees have =
      let enough = count_le (is_compiled compile o) (is_covered compile o (replay o events).fates) (length o.plan.jobs)
      (λ p below e. and_from (is_compiled compile o p) (is_some (at (replay o events).fates p)) e (have p below)) in
      omega (arith, enough, steps (start_of o) events (tidy_start o) legal agrees, first_covered, none_busy o.partitions)

  -- a plan without a place, of which nothing was begun
  none_compiled : (places : ℕ) (fates : List (Option Fate)) → fates ≡ [] → HaveFates places fates → count_below (is_compiled compile o) places ≡ 0
  none_compiled zero fates none have = refl
  none_compiled (suc places) fates none have =
      let clash : false ≡ true = ap (λ (all : List (Option Fate)). is_some (at all 0)) (sym none) ∙ have 0 (omega arith) in cc

  pub starts_are : (one : One) → ArePlanned o.plan.jobs → Sound compile o → Legal o one.history.items → Faithful compile o one.history.items
      → HasBegun o one → (one.fault ≡ None → HaveFates (length o.plan.jobs) one.fates.items) → AreStartsOf compile o one
  starts_are one planned sound legal faithful (begun fates) settled =
      let few = few_starts compile o one.history.items planned sound legal faithful in
      record {
        most = few;
        all = λ none.
            let have = subst (HaveFates (length o.plan.jobs)) fates (settled none) in
            omega (arith, few, all_started one.history.items legal (confluent compile o one.history.items planned sound legal faithful) have);
      }
  starts_are one planned sound legal faithful (unbegun fates history) settled =
      let few = few_starts compile o one.history.items planned sound legal faithful in
      record {
        most = few;
        all = λ none.
            let starts : count_by is_start one.history.items ≡ 0 = ap (count_by is_start) history in
            let backs : count_by is_back one.history.items ≡ 0 = ap (count_by is_back) history in
            omega (arith, starts, backs, none_compiled (length o.plan.jobs) one.fates.items fates (settled none));
      }
