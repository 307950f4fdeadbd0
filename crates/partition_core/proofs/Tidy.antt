-- What runs has no fate, and each place is run by one partition at most.
use Rattle.std.proofs.Common.{◌≡◌, ◌≢◌, ℕ, zero, suc, ◌-◌, ◌⊎◌, inl, inr, true, List, [], ◌∷◌, ◌++◌, length, Option, Some, None, option_map, slice_get, slice_set, refl, sym, ◌∙◌, ap, subst, eq-eqb}
use Rattle.std.specs.List.{list_any}
use Rattle.std.proofs.lemmas.Bool.{or_left, or_right}
use Rattle.std.proofs.lemmas.List.{length-set, length-replicate}
use Rattle.compile_model.specs.declared.outcome.Fate.{Fate}
use Rattle.compile_model.specs.declared.outcome.Fate.TheVariants.{Built, Failed, Skipped}
use Rattle.staleness.specs.declared.kept.Kept.{Kept}
use Rattle.partition_core.specs.declared.event.Event.{Event}
use Rattle.partition_core.specs.declared.event.Event.TheVariants.{Keep, Start, Finish, Fail, Skip, Back}
use Rattle.partition_core.specs.declared.event.Standing.{Standing}
use Rattle.partition_core.specs.declared.event.Standing.TheVariants.{Idle, Runs, Ended}
use Rattle.partition_core.specs.State.{Opening, State, start_of, at, is_run, is_running}
use Rattle.partition_core.specs.Steps.{IsLegal, IsFree, Holds, after, settle}
use Rattle.partition_core.specs.Histories.{AreLegal, Legal, after_all, replay}
use Rattle.partition_core.proofs.Places.{get_set, set_other, standing_get, get_replicate}

pub record Tidy (s : State) : Type 0 where
  pub open_place : (i place : ℕ) → slice_get s.standings i ≡ Some (Runs place) → slice_get s.fates place ≡ Some None
  pub once : (i j place : ℕ) → slice_get s.standings i ≡ Some (Runs place) → slice_get s.standings j ≡ Some (Runs place) → i ≡ j

-- what a partition runs is running
pub runs_somewhere : (standings : List Standing) (i place : ℕ) → slice_get standings i ≡ Some (Runs place) → is_running standings place ≡ true
runs_somewhere [] i place e = cc
runs_somewhere (x ∷ xs) zero place e =
    let same : x ≡ Runs place = cc in
    or_left (is_run place x) (list_any (is_run place) xs) (ap (is_run place) same ∙ eq-eqb place place refl)
runs_somewhere (x ∷ xs) (suc i) place e = or_right (is_run place x) (list_any (is_run place) xs) (runs_somewhere xs i place e)

pub not_run : (s : State) (place by : ℕ) → IsFree s place by → (i : ℕ) → slice_get s.standings i ≡ Some (Runs place) → ⊥
not_run s place by free i runs = let yes = runs_somewhere s.standings i place runs in let no = free.not_running in cc

-- a place that isn't running gets a fate
tidy_settled : (s : State) (place : ℕ) (fate : Option Fate) → Tidy s → ((i : ℕ) → slice_get s.standings i ≡ Some (Runs place) → ⊥) → Tidy (settle s place fate)
tidy_settled s place fate tidy idle = record {
  open_place = λ i p runs. set_other s.fates place p fate (λ e. idle i (subst (λ (q : ℕ). slice_get s.standings i ≡ Some (Runs q)) e runs))
      ∙ tidy.open_place i p runs;
  once = tidy.once;
}

-- a partition runs nothing more, and its place may get a fate
tidy_left : (s : State) (by place : ℕ) (now : Standing) (fates : List (Option Fate)) → Tidy s → Holds s place by → ((p : ℕ) → now ≡ Runs p → ⊥) →
    ((p : ℕ) → (p ≡ place → ⊥) → slice_get fates p ≡ slice_get s.fates p) → Tidy (record { fates = fates; standings = slice_set s.standings (by - 1) now })
tidy_left s by place now fates tidy holds nothing others =
    let own = standing_get s.standings by (Runs place) holds in
    let still : (i p : ℕ) → slice_get (slice_set s.standings (by - 1) now) i ≡ Some (Runs p) → (i ≢ by - 1) × (slice_get s.standings i ≡ Some (Runs p)) =
    λ i p runs. elim (get_set s.standings (by - 1) i now (Runs p) runs) [ inl same ↦ absurd (nothing p same.1) | inr other ↦ other ] in
    record {
      open_place = λ i p runs. let was = still i p runs in
          others p (λ e. was.0 (tidy.once i (by - 1) place (subst (λ (q : ℕ). slice_get s.standings i ≡ Some (Runs q)) e was.1) own))
          ∙ tidy.open_place i p was.1;
      once = λ i j p runs also. tidy.once i j p (still i p runs).1 (still j p also).1;
    }

idle_runs_not : (p : ℕ) → Idle ≡ Runs p → ⊥
idle_runs_not p e = cc

ended_runs_not : (p : ℕ) → Ended ≡ Runs p → ⊥
ended_runs_not p e = cc

pub tidy_step : (o : Opening) (s : State) → Tidy s → (event : Event) → IsLegal o s event → Tidy (after o s event)
tidy_step o s tidy (Keep place by) legal =
    tidy_settled s place (option_map (λ (kept : Kept). Built kept.outcome) (at o.kept place)) tidy (not_run s place by legal.0)
tidy_step o s tidy (Start place by) legal =
    record {
      open_place = λ i p runs. elim (get_set s.standings (by - 1) i (Runs place) (Runs p) runs) [
        | inl same ↦ (let e : place ≡ p = let h = same.1 in cc in ap (slice_get s.fates) (sym e) ∙ legal.0.open_place)
        | inr other ↦ tidy.open_place i p other.1
      ];
      once = λ i j p runs also. both i j p (get_set s.standings (by - 1) i (Runs place) (Runs p) runs)
          (get_set s.standings (by - 1) j (Runs place) (Runs p) also);
    }
  where
    both : (i j p : ℕ) → (((i ≡ by - 1) × (Runs place ≡ Runs p)) ⊎ ((i ≢ by - 1) × (slice_get s.standings i ≡ Some (Runs p)))) →
        (((j ≡ by - 1) × (Runs place ≡ Runs p)) ⊎ ((j ≢ by - 1) × (slice_get s.standings j ≡ Some (Runs p)))) → i ≡ j
    both i j p (inl a) (inl b) = a.0 ∙ sym b.0
    both i j p (inl a) (inr b) = absurd (not_run s place by legal.0 j (b.1 ∙ ap Some (sym a.1)))
    both i j p (inr a) (inl b) = absurd (not_run s place by legal.0 i (a.1 ∙ ap Some (sym b.1)))
    both i j p (inr a) (inr b) = tidy.once i j p a.1 b.1
tidy_step o s tidy (Finish place by outcome) legal =
    tidy_left s by place Idle (slice_set s.fates place (Some (Built outcome))) tidy legal.0 idle_runs_not
    (λ p e. set_other s.fates place p (Some (Built outcome)) e)
tidy_step o s tidy (Fail place by outcome) legal =
    tidy_left s by place Idle (slice_set s.fates place (Some (Failed outcome))) tidy legal.0 idle_runs_not
    (λ p e. set_other s.fates place p (Some (Failed outcome)) e)
tidy_step o s tidy (Skip place need by) legal = tidy_settled s place (Some (Skipped need)) tidy (not_run s place by legal.0)
tidy_step o s tidy (Back place by cause) legal = tidy_left s by place Ended s.fates tidy legal ended_runs_not (λ p e. refl)

pub tidy_start : (o : Opening) → Tidy (start_of o)
tidy_start o = record {
  open_place = λ i p runs. absurd (idle_runs_not p (get_replicate o.partitions i Idle (Runs p) runs));
  once = λ i j p runs also. absurd (idle_runs_not p (get_replicate o.partitions i Idle (Runs p) runs));
}

pub tidy_all : (o : Opening) (s : State) (events : List Event) → Tidy s → AreLegal o s events → Tidy (after_all o s events)
tidy_all o s [] tidy legal = tidy
tidy_all o s (event ∷ events) tidy legal = tidy_all o (after o s event) events (tidy_step o s tidy event legal.0) legal.1

places_step : (o : Opening) (s : State) (event : Event) → length (after o s event).fates ≡ length s.fates
places_step o s (Keep place by) = length-set s.fates place (option_map (λ (kept : Kept). Built kept.outcome) (at o.kept place))
places_step o s (Start place by) = refl
places_step o s (Finish place by outcome) = length-set s.fates place (Some (Built outcome))
places_step o s (Fail place by outcome) = length-set s.fates place (Some (Failed outcome))
places_step o s (Skip place need by) = length-set s.fates place (Some (Skipped need))
places_step o s (Back place by cause) = refl

places_from : (o : Opening) (s : State) (events : List Event) → length (after_all o s events).fates ≡ length s.fates
places_from o s [] = refl
places_from o s (event ∷ events) = places_from o (after o s event) events ∙ places_step o s event

-- there is a fate or none for each job
pub places_all : (o : Opening) (events : List Event) → length (replay o events).fates ≡ length o.plan.jobs
places_all o events = places_from o (start_of o) events ∙ length-replicate (length o.plan.jobs) None

after_more : (o : Opening) (s : State) (events : List Event) (event : Event) → after_all o s (events ++ event ∷ []) ≡ after o (after_all o s events) event
after_more o s [] event = refl
after_more o s (first ∷ events) event = after_more o (after o s first) events event

-- one event more
pub replay_more : (o : Opening) (events : List Event) (event : Event) → replay o (events ++ event ∷ []) ≡ after o (replay o events) event
replay_more o events event = after_more o (start_of o) events event

are_legal_more : (o : Opening) (s : State) (events : List Event) (event : Event) → AreLegal o s events → IsLegal o (after_all o s events) event →
    AreLegal o s (events ++ event ∷ [])
are_legal_more o s [] event legal now = (now, tt)
are_legal_more o s (first ∷ events) event legal now = (legal.0, are_legal_more o (after o s first) events event legal.1 now)

pub legal_more : (o : Opening) (events : List Event) (event : Event) → Legal o events → IsLegal o (replay o events) event → Legal o (events ++ event ∷ [])
legal_more o events event legal now = are_legal_more o (start_of o) events event legal now
