-- Every legal history gives the fates of compiling one after another.
use Rattle.std.proofs.Common.{◌≡◌, ◌≢◌, ℕ, ◌-◌, inl, inr, Bool, true, List, [], ◌∷◌, length, replicate, Option, Some, None, is_some, cond, option_map, slice_get, slice_set, refl, sym, ◌∙◌, ap, subst, eq-eqb}
use Rattle.std.specs.Option.{option_and_then}
use Rattle.std.proofs.lemmas.Bool.{cases_eq, ne_eqb}
use Rattle.std.proofs.lemmas.List.{length-set, length-replicate}
use Rattle.compile_model.specs.declared.job.Job.{Job}
use Rattle.compile_model.specs.declared.outcome.Outcome.{Outcome}
use Rattle.compile_model.specs.declared.outcome.Fate.{Fate}
use Rattle.compile_model.specs.declared.outcome.Fate.TheVariants.{Built, Failed, Skipped}
use Rattle.compile_model.specs.Content.{Content, content_of}
use Rattle.compile_model.specs.Planned.{ArePlanned}
use Rattle.compile_model.specs.Seq.{seq, first_unbuilt, outcomes_of, built_outcome, fate_unless, settled}
use Rattle.staleness.specs.declared.kept.Kept.{Kept}
use Rattle.staleness.specs.Matching.{matches}
use Rattle.partition_core.specs.declared.event.Event.{Event}
use Rattle.partition_core.specs.declared.event.Event.TheVariants.{Keep, Start, Finish, Fail, Skip, Back}
use Rattle.partition_core.specs.declared.event.Standing.{Standing}
use Rattle.partition_core.specs.declared.event.Standing.TheVariants.{Idle, Runs, Ended}
use Rattle.partition_core.specs.State.{Opening, State, start_of, at, built_at, first_open, outcomes_now, needs_of, needs_at, missing, stands}
use Rattle.partition_core.specs.Steps.{IsLegal, IsFree, Holds, after, settle, stand}
use Rattle.partition_core.specs.Histories.{AreLegal, AreFaithful, IsFaithful, IsMeant, Legal, Faithful, Sound, Agrees, after_all, replay}
use Rattle.partition_core.proofs.SeqPlaces.{seq_at}
use Rattle.partition_core.proofs.Needs.{built_since, all_built, all_outcomes, first_since, head_built, rest_built}
use Rattle.partition_core.proofs.Places.{get_set, set_same, set_other, at_some, standing_get, also_there, get_replicate, kept_parts}

-- the job of a place that runs, with its needs built
abbrev pub IsReady : Opening → State → ℕ → Type 0
IsReady o s place = (job : Job) × (slice_get o.plan.jobs place ≡ Some job) × (first_open s.fates job.needs ≡ None)

-- what holds after each event
pub record Sane (compile : Content → Outcome) (o : Opening) (s : State) : Type 0 where
  pub places : length s.fates ≡ length o.plan.jobs
  pub agrees : Agrees s.fates (seq compile o.plan.jobs)
  pub ready : (i place : ℕ) → slice_get s.standings i ≡ Some (Runs place) → IsReady o s place

agrees_set : (fates : List (Option Fate)) (all : List Fate) → Agrees fates all → (place : ℕ) (fate : Fate) → slice_get all place ≡ Some fate →
    Agrees (slice_set fates place (Some fate)) all
agrees_set fates all agrees place fate is p f e =
    elim (get_set fates place p (Some fate) (Some f) (at_some (slice_set fates place (Some fate)) p f e)) [
      | inl same ↦ ap (slice_get all) same.0 ∙ is ∙ same.1
      | inr other ↦ agrees p f (ap (option_and_then (λ (v : Option Fate). v)) other.1)
    ]

built_there : (found : Option (Option Fate)) (o : Outcome) → option_and_then built_outcome (option_and_then (λ (v : Option Fate). v) found) ≡ Some o →
    (v : Option Fate) × (found ≡ Some v)
built_there None o e = cc
built_there (Some v) o e = (v, refl)

built_set : (fates : List (Option Fate)) (all : List Fate) → Agrees fates all → (place : ℕ) (fate : Fate) → slice_get all place ≡ Some fate →
    (need : ℕ) (o : Outcome) → built_at fates need ≡ Some o → built_at (slice_set fates place (Some fate)) need ≡ Some o
built_set fates all agrees place fate is need o built =
    elim (cases_eq need place) [
      | inl same ↦
          let there = built_there (slice_get fates need) o built in
          let now : slice_get (slice_set fates place (Some fate)) need ≡ Some (Some fate) =
          ap (slice_get (slice_set fates place (Some fate))) same ∙ set_same fates place (Some fate) there.0 (ap (slice_get fates) (sym same) ∙ there.1) in
          let seen : option_and_then built_outcome (Some fate) ≡ Some o =
          ap (option_and_then built_outcome) (sym is ∙ ap (slice_get all) (sym same)) ∙ built_since fates all agrees need o built in
          ap (λ (v : Option (Option Fate)). option_and_then built_outcome (option_and_then (λ (w : Option Fate). w) v)) now ∙ seen
      | inr other ↦ ap (λ (v : Option (Option Fate)). option_and_then built_outcome (option_and_then (λ (w : Option Fate). w) v))
          (set_other fates place need (Some fate) other) ∙ built
    ]

open_set : (fates : List (Option Fate)) (all : List Fate) → Agrees fates all → (place : ℕ) (fate : Fate) → slice_get all place ≡ Some fate →
    (needs : List ℕ) → first_open fates needs ≡ None → first_open (slice_set fates place (Some fate)) needs ≡ None
open_set fates all agrees place fate is [] e = refl
open_set fates all agrees place fate is (need ∷ needs) e =
    let built = head_built (built_at fates need) (first_open fates needs) need e in
    let later = built_set fates all agrees place fate is need built.0 built.1 in
    ap (λ (o : Option Outcome). cond (is_some o) (first_open (slice_set fates place (Some fate)) needs) (Some need)) later
    ∙ open_set fates all agrees place fate is needs (rest_built (built_at fates need) (first_open fates needs) need e)

-- a place gets the fate that it has one after another
sane_settled : (compile : Content → Outcome) (o : Opening) (s : State) → Sane compile o s → (place : ℕ) (fate : Fate) →
    slice_get (seq compile o.plan.jobs) place ≡ Some fate → Sane compile o (settle s place (Some fate))
sane_settled compile o s sane place fate is = record {
  places = length-set s.fates place (Some fate) ∙ sane.places;
  agrees = agrees_set s.fates (seq compile o.plan.jobs) sane.agrees place fate is;
  ready = λ i p runs. let r = sane.ready i p runs in (r.0, r.1, open_set s.fates (seq compile o.plan.jobs) sane.agrees place fate is r.0.needs r.2);
}

-- a partition does something else
sane_stood : (compile : Content → Outcome) (o : Opening) (s : State) → Sane compile o s → (by : ℕ) (now : Standing) →
    ((place : ℕ) → now ≡ Runs place → IsReady o s place) → Sane compile o (stand s by now)
sane_stood compile o s sane by now ready = record {
  places = sane.places;
  agrees = sane.agrees;
  ready = λ i p runs. elim (get_set s.standings (by - 1) i now (Runs p) runs) [ inl same ↦ ready p same.1 | inr other ↦ sane.ready i p other.1 ];
}

-- a place that isn't running and has no fate
ready_since : (compile : Content → Outcome) (o : Opening) (s : State) → Sane compile o s → (place by : ℕ) → IsFree s place by →
    missing o s place ≡ None → IsReady o s place
ready_since compile o s sane place by free none =
    let job = also_there s.fates o.plan.jobs place None sane.places free.open_place in
    (job.0, job.1, ap (λ (j : Option Job). first_open s.fates (needs_of j)) (sym job.1) ∙ none)

-- what an outcome that was meant settles
meant_fate : (compile : Content → Outcome) (o : Opening) (s : State) → ArePlanned o.plan.jobs → Sane compile o s → (place : ℕ) →
    (ready : IsReady o s place) →
    slice_get (seq compile o.plan.jobs) place ≡ Some (settled (compile (content_of ready.0 (outcomes_of (seq compile o.plan.jobs) ready.0.needs))))
meant_fate compile o s planned sane place ready =
    let all = seq compile o.plan.jobs in
    seq_at compile o.plan.jobs planned place ready.0 ready.1
    ∙ ap (λ (first : Option ℕ). Some (fate_unless first (compile (content_of ready.0 (outcomes_of all ready.0.needs)))))
    (all_built s.fates all sane.agrees ready.0.needs ready.2)

settled_built : (outcome : Outcome) → outcome.status ≡ 0 → settled outcome ≡ Built outcome
settled_built outcome e = ap (λ (b : Bool). cond b (Built outcome) (Failed outcome)) (eq-eqb outcome.status 0 e)

settled_failed : (outcome : Outcome) → outcome.status ≢ 0 → settled outcome ≡ Failed outcome
settled_failed outcome e = ap (λ (b : Bool). cond b (Built outcome) (Failed outcome)) (ne_eqb outcome.status 0 e)

-- an outcome of what the place's input means settles it
ran_fate : (compile : Content → Outcome) (o : Opening) (s : State) → ArePlanned o.plan.jobs → Sane compile o s → (place by : ℕ) (outcome : Outcome) →
    Holds s place by → IsMeant compile o s place outcome → slice_get (seq compile o.plan.jobs) place ≡ Some (settled outcome)
ran_fate compile o s planned sane place by outcome holds meant =
    let ready = sane.ready (by - 1) place (standing_get s.standings by (Runs place) holds) in
    let all = seq compile o.plan.jobs in
    meant_fate compile o s planned sane place ready
    ∙ ap (λ (os : List Outcome). Some (settled (compile (content_of ready.0 os)))) (sym (all_outcomes s.fates all sane.agrees ready.0.needs ready.2))
    ∙ ap (λ (x : Outcome). Some (settled x)) (sym (meant ready.0 ready.1))

not_runs : (now : Standing) → (place : ℕ) → Idle ≡ Runs place → ⊥
not_runs now place e = cc

-- a kept outcome that stands is the one of compiling now
kept_fate : (compile : Content → Outcome) (o : Opening) (s : State) → ArePlanned o.plan.jobs → Sound compile o → Sane compile o s → (place by : ℕ) →
    IsFree s place by → missing o s place ≡ None → stands o s place ≡ true →
    (fate : Fate) × (option_map (λ (kept : Kept). Built kept.outcome) (at o.kept place) ≡ Some fate) × (slice_get (seq compile o.plan.jobs) place ≡ Some fate)
kept_fate compile o s planned sound sane place by free none stood =
    let all = seq compile o.plan.jobs in
    let parts = kept_parts (at o.kept place) (slice_get o.plan.jobs place) (outcomes_now s.fates (needs_at o place)) stood in
    let k = parts.0 in
    let j = parts.1 in
    let needs : needs_at o place ≡ j.needs = ap needs_of parts.3 in
    let open_none : first_open s.fates j.needs ≡ None = ap (first_open s.fates) (sym needs) ∙ none in
    let outs : outcomes_now s.fates (needs_at o place) ≡ outcomes_of all j.needs =
    ap (outcomes_now s.fates) needs ∙ all_outcomes s.fates all sane.agrees j.needs open_none in
    let same = sound.same place k j parts.2 parts.3 (all_built s.fates all sane.agrees j.needs open_none) (ap (matches k.mark j) (sym outs) ∙ parts.4) in
    let meant = meant_fate compile o s planned sane place (j, parts.3, open_none) in (
      Built k.outcome,
      ap (option_map (λ (kept : Kept). Built kept.outcome)) parts.2,
      meant ∙ ap (λ (x : Outcome). Some (settled x)) (sym same) ∙ ap Some (settled_built k.outcome (sound.status place k parts.2)),
    )

pub sane_step : (compile : Content → Outcome) (o : Opening) (s : State) → ArePlanned o.plan.jobs → Sound compile o → Sane compile o s →
    (event : Event) → IsLegal o s event → IsFaithful compile o s event → Sane compile o (after o s event)
sane_step compile o s planned sound sane (Keep place by) legal faithful =
    let kept = kept_fate compile o s planned sound sane place by legal.0 legal.1 legal.2 in
    subst (λ (fate : Option Fate). Sane compile o (settle s place fate)) (sym kept.1) (sane_settled compile o s sane place kept.0 kept.2)
sane_step compile o s planned sound sane (Start place by) legal faithful =
    sane_stood compile o s sane by (Runs place) (λ p e. let same : place ≡ p = cc in
    subst (λ (q : ℕ). IsReady o s q) same (ready_since compile o s sane place by legal.0 legal.1))
sane_step compile o s planned sound sane (Finish place by outcome) legal faithful =
    let is = ran_fate compile o s planned sane place by outcome legal.0 faithful in
    sane_stood compile o (settle s place (Some (Built outcome)))
    (sane_settled compile o s sane place (Built outcome) (is ∙ ap Some (settled_built outcome legal.1))) by Idle (λ p e. absurd (not_runs Idle p e))
sane_step compile o s planned sound sane (Fail place by outcome) legal faithful =
    let is = ran_fate compile o s planned sane place by outcome legal.0 faithful in
    sane_stood compile o (settle s place (Some (Failed outcome)))
    (sane_settled compile o s sane place (Failed outcome) (is ∙ ap Some (settled_failed outcome legal.1))) by Idle (λ p e. absurd (not_runs Idle p e))
sane_step compile o s planned sound sane (Skip place need by) legal faithful =
    let all = seq compile o.plan.jobs in
    let job = also_there s.fates o.plan.jobs place None sane.places legal.0.open_place in
    let first = first_since s.fates all sane.agrees (needs_at o place) need legal.2 legal.1 in
    let needs : needs_at o place ≡ job.0.needs = ap needs_of job.1 in
    sane_settled compile o s sane place (Skipped need)
    (seq_at compile o.plan.jobs planned place job.0 job.1
    ∙ ap (λ (found : Option ℕ). Some (fate_unless found (compile (content_of job.0 (outcomes_of all job.0.needs)))))
    (ap (first_unbuilt all) (sym needs) ∙ first))
sane_step compile o s planned sound sane (Back place by cause) legal faithful =
    sane_stood compile o s sane by Ended (λ p e. absurd (ended_not_runs p e))
  where
    ended_not_runs : (p : ℕ) → Ended ≡ Runs p → ⊥
    ended_not_runs p e = cc

pub sane_all : (compile : Content → Outcome) (o : Opening) → ArePlanned o.plan.jobs → Sound compile o → (s : State) (events : List Event) →
    Sane compile o s → AreLegal o s events → AreFaithful compile o s events → Sane compile o (after_all o s events)
sane_all compile o planned sound s [] sane legal faithful = sane
sane_all compile o planned sound s (event ∷ events) sane legal faithful =
    sane_all compile o planned sound (after o s event) events (sane_step compile o s planned sound sane event legal.0 faithful.0) legal.1 faithful.1

pub sane_start : (compile : Content → Outcome) (o : Opening) → Sane compile o (start_of o)
sane_start compile o = record {
  places = length-replicate (length o.plan.jobs) None;
  agrees = λ place fate e. absurd
      (none_some fate (get_replicate (length o.plan.jobs) place None (Some fate) (at_some (replicate (length o.plan.jobs) None) place fate e)));
  ready = λ i place runs. absurd (not_runs Idle place (get_replicate o.partitions i Idle (Runs place) runs));
}
  where
    none_some : (fate : Fate) → None ≡ Some fate → ⊥
    none_some fate e = cc

pub confluent : (compile : Content → Outcome) (o : Opening) (events : List Event) → ArePlanned o.plan.jobs → Sound compile o → Legal o events →
    Faithful compile o events → Agrees (replay o events).fates (seq compile o.plan.jobs)
confluent compile o events planned sound legal faithful = (sane_all compile o planned sound (start_of o) events (sane_start compile o) legal faithful).agrees
