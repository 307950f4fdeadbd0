-- Histories of one partition, which ends where it gives a place back.
use Rattle.std.proofs.Common.{◌≡◌, ℕ, ◌+◌, ◌-◌, ◌≤◌, ◌<◌, Bool, true, false, cond, List, [], ◌∷◌, length, count_by, Option, Some, None, slice_get, slice_set, refl, sym, ◌∙◌, ap, subst, arith}
use Rattle.std.proofs.lemmas.List.{length-replicate, length-set}
use Rattle.std.proofs.lemmas.Option.{slice_get_within}
use Rattle.compile_model.specs.declared.outcome.Outcome.{Outcome}
use Rattle.compile_model.specs.Content.{Content}
use Rattle.compile_model.specs.Planned.{ArePlanned}
use Rattle.partition_core.specs.declared.event.Event.{Event}
use Rattle.partition_core.specs.declared.event.Event.TheVariants.{Keep, Start, Finish, Fail, Skip, Back}
use Rattle.partition_core.specs.declared.event.BackCause.{BackCause}
use Rattle.partition_core.specs.declared.event.BackCause.TheVariants as back
use Rattle.partition_core.specs.declared.event.Standing.{Standing}
use Rattle.partition_core.specs.declared.event.Standing.TheVariants.{Idle, Runs, Ended}
use Rattle.partition_core.specs.Counts.{count_below, is_back, is_compiled, is_start}
use Rattle.partition_core.specs.Histories.{AreFaithful, AreLegal, Faithful, IsFaithful, Legal, Sound}
use Rattle.partition_core.specs.State.{Opening, State, standing, start_of}
use Rattle.partition_core.specs.Steps.{IsLegal, after, stand}
use Rattle.partition_core.proofs.Places.{set_same, standing_get}
use Rattle.partition_core.proofs.Starts.{count_first, few_starts}
use Rattle.partition_crew.specs.Build.{is_death}
use Rattle.partition_crew.proofs.Tallying.{count_fewer}

-- each partition has ended
abbrev AreOver : State → Type 0
AreOver s = (by : ℕ) (now : Standing) → standing s.standings by ≡ Some now → now ≡ Ended

idle_over : (s : State) (by : ℕ) → AreOver s → standing s.standings by ≡ Some Idle → ⊥
idle_over s by over is = let clash : Idle ≡ Ended = over by Idle is in cc

runs_over : (s : State) (by place : ℕ) → AreOver s → standing s.standings by ≡ Some (Runs place) → ⊥
runs_over s by place over is = let clash : Runs place ≡ Ended = over by (Runs place) is in cc

-- nothing happens then
none_over : (o : Opening) (s : State) (event : Event) → AreOver s → IsLegal o s event → ⊥
none_over o s (Keep place by) over legal = idle_over s by over legal.0.idle
none_over o s (Start place by) over legal = idle_over s by over legal.0.idle
none_over o s (Finish place by outcome) over legal = runs_over s by place over legal.0
none_over o s (Fail place by outcome) over legal = runs_over s by place over legal.0
none_over o s (Skip place need by) over legal = idle_over s by over legal.0.idle
none_over o s (Back place by cause) over legal = runs_over s by place over legal

over_then : (s : State) (place by : ℕ) → length s.standings ≡ 1 → standing s.standings by ≡ Some (Runs place) → AreOver (stand s by Ended)
over_then s place by long holds b now is =
    let there : slice_get s.standings (by - 1) ≡ Some (Runs place) = standing_get s.standings by (Runs place) holds in
    let set : slice_get (slice_set s.standings (by - 1) Ended) (by - 1) ≡ Some Ended = set_same s.standings (by - 1) Ended (Runs place) there in
    let now_there : slice_get (slice_set s.standings (by - 1) Ended) (b - 1) ≡ Some now = standing_get (slice_set s.standings (by - 1) Ended) b now is in
    let first : by - 1 < length s.standings = slice_get_within s.standings (by - 1) (Runs place) there in
    let second : b - 1 < length (slice_set s.standings (by - 1) Ended) = slice_get_within (slice_set s.standings (by - 1) Ended) (b - 1) now now_there in
    let same : b - 1 ≡ by - 1 = omega (arith, first, second, long, length-set s.standings (by - 1) Ended) in
    let e : Some now ≡ Some Ended = sym now_there ∙ ap (slice_get (slice_set s.standings (by - 1) Ended)) same ∙ set in
    cc

-- the events up to the first that gives a place back
record Front (o : Opening) (s : State) (events : List Event) : Type 0 where
  front : List Event
  legal : AreLegal o s front
  faithful : (compile : Content → Outcome) → AreFaithful compile o s events → AreFaithful compile o s front
  backless : count_by is_back front ≡ 0
  starts : count_by is_start events ≡ count_by is_start front
  backs : count_by is_back events ≤ 1

front_on : (o : Opening) (s : State) (event : Event) (events : List Event) → IsLegal o s event → is_back event ≡ false → Front o (after o s event) events
    → Front o s (event ∷ events)
front_on o s event events legal other rest = record {
  front = event ∷ rest.front;
  legal = (legal, rest.legal);
  faithful = λ compile faithful. (faithful.0, rest.faithful compile faithful.1);
  backless = count_first is_back event rest.front ∙ ap (λ (b : Bool). cond b 1 0 + count_by is_back rest.front) other ∙ (omega (arith, rest.backless));
  starts = count_first is_start event events ∙ ap (λ (n : ℕ). cond (is_start event) 1 0 + n) rest.starts ∙ sym (count_first is_start event rest.front);
  backs = let first : count_by is_back (event ∷ events) ≡ 0 + count_by is_back events =
      count_first is_back event events ∙ ap (λ (b : Bool). cond b 1 0 + count_by is_back events) other in omega (arith, first, rest.backs);
}

front_end : (o : Opening) (s : State) (place by : ℕ) (cause : BackCause) (events : List Event) → length s.standings ≡ 1 → IsLegal o s (Back place by cause)
    → AreLegal o (after o s (Back place by cause)) events → Front o s (Back place by cause ∷ events)
front_end o s place by cause [] long legal more = record {
  front = [];
  legal = tt;
  faithful = λ compile faithful. tt;
  backless = refl;
  starts = refl;
  backs = omega (arith, count_first is_back (Back place by cause) []);
}
front_end o s place by cause (event ∷ events) long legal more = absurd (none_over o (stand s by Ended) event (over_then s place by long legal) more.0)

front_of : (o : Opening) (s : State) (events : List Event) → length s.standings ≡ 1 → AreLegal o s events → Front o s events
front_of o s [] long legal = record {
  front = [];
  legal = tt;
  faithful = λ compile faithful. tt;
  backless = refl;
  starts = refl;
  backs = omega arith;
}
front_of o s (Keep place by ∷ events) long legal =
    front_on o s (Keep place by) events legal.0 refl (front_of o (after o s (Keep place by)) events long legal.1)
front_of o s (Start place by ∷ events) long legal =
    front_on o s (Start place by) events legal.0 refl
    (front_of o (after o s (Start place by)) events (length-set s.standings (by - 1) (Runs place) ∙ long) legal.1)
front_of o s (Finish place by outcome ∷ events) long legal =
    front_on o s (Finish place by outcome) events legal.0 refl
    (front_of o (after o s (Finish place by outcome)) events (length-set s.standings (by - 1) Idle ∙ long) legal.1)
front_of o s (Fail place by outcome ∷ events) long legal =
    front_on o s (Fail place by outcome) events legal.0 refl
    (front_of o (after o s (Fail place by outcome)) events (length-set s.standings (by - 1) Idle ∙ long) legal.1)
front_of o s (Skip place need by ∷ events) long legal =
    front_on o s (Skip place need by) events legal.0 refl (front_of o (after o s (Skip place need by)) events long legal.1)
front_of o s (Back place by cause ∷ events) long legal = front_end o s place by cause events long legal.0 legal.1

lone : (o : Opening) (events : List Event) → o.partitions ≡ 1 → Legal o events → Front o (start_of o) events
lone o events alone legal = front_of o (start_of o) events (length-replicate o.partitions Idle ∙ alone) legal

-- one partition starts stale places alone
pub lone_starts : (compile : Content → Outcome) (o : Opening) (events : List Event) → o.partitions ≡ 1 → ArePlanned o.plan.jobs → Sound compile o
    → Legal o events → Faithful compile o events → count_by is_start events ≤ count_below (is_compiled compile o) (length o.plan.jobs)
lone_starts compile o events alone planned sound legal faithful =
    let front = lone o events alone legal in
    omega (arith, front.starts, front.backless, few_starts compile o front.front planned sound front.legal (front.faithful compile faithful))

death_back : (event : Event) → cond (is_death event) 1 0 ≤ cond (is_back event) 1 0
death_back (Keep place by) = omega arith
death_back (Start place by) = omega arith
death_back (Finish place by outcome) = omega arith
death_back (Fail place by outcome) = omega arith
death_back (Skip place need by) = omega arith
death_back (Back place by back.Died) = omega arith
death_back (Back place by back.Tree) = omega arith
death_back (Back place by back.Memory) = omega arith

-- and dies once at most
pub lone_death : (o : Opening) (events : List Event) → o.partitions ≡ 1 → Legal o events → count_by is_death events ≤ 1
lone_death o events alone legal = omega (arith, (lone o events alone legal).backs, count_fewer is_death is_back events death_back)
