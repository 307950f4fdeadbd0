-- What an agenda has to look at after an event.
use Rattle.std.proofs.Common.{◌≡◌, ℕ, zero, suc, ◌-◌, ◌+◌, ◌==◌, ◌||◌, ◌&&◌, not, Bool, false, cond, List, [], ◌∷◌, take, count_by, Option, Some, None, is_none, option_map, slice_get, slice_set, refl, sym, ◌∙◌, ap, arith}
use Rattle.std.specs.List.{list_any}
use Rattle.std.specs.Option.{option_and_then}
use Rattle.std.proofs.lemmas.Bool.{or_parts, eqb-false, ne_eqb}
use Rattle.compile_model.specs.declared.job.Job.{Job}
use Rattle.compile_model.specs.declared.outcome.Fate.{Fate}
use Rattle.compile_model.specs.declared.outcome.Fate.TheVariants.{Built, Failed, Skipped}
use Rattle.staleness.specs.declared.kept.Kept.{Kept}
use Rattle.partition_core.specs.declared.agenda.Agenda.{Agenda}
use Rattle.partition_core.specs.declared.outlook.Outlook.{Outlook}
use Rattle.partition_core.specs.declared.event.Event.{Event}
use Rattle.partition_core.specs.declared.event.Event.TheVariants.{Keep, Start, Finish, Fail, Skip, Back}
use Rattle.partition_core.specs.declared.event.Standing.{Standing}
use Rattle.partition_core.specs.declared.event.Standing.TheVariants.{Idle, Runs, Ended}
use Rattle.partition_core.specs.State.{Opening, State, at, first_open, standing, is_run, is_running, needs_at, outcomes_now}
use Rattle.partition_core.specs.Steps.{IsLegal, after}
use Rattle.partition_core.specs.Agendas.{has, needs_in, is_decided, offers, IsOutlook, AreDependents, IsAgenda, IsBehind, dependents_at}
use Rattle.partition_core.proofs.Places.{set_other, standing_get, kept_parts}
use Rattle.partition_core.proofs.Tidy.{Tidy}
use Rattle.partition_core.proofs.Exact.{acts_on}
use Rattle.partition_core.proofs.HistoryLength.{sum_set}
use Rattle.partition_core.proofs.Fronts.{built_stays, decided_apart}

run_set : (standings : List Standing) (i place : ℕ) (now was : Standing) → slice_get standings i ≡ Some was → is_run place was ≡ false →
    is_run place now ≡ false → is_running (slice_set standings i now) place ≡ is_running standings place
run_set [] i place now was there a b = cc
run_set (x ∷ xs) zero place now was there a b =
    let same : x ≡ was = cc in
    ap (λ (r : Bool). r || list_any (is_run place) xs) (b ∙ sym a ∙ ap (is_run place) (sym same))
run_set (x ∷ xs) (suc i) place now was there a b = ap (λ (r : Bool). is_run place x || r) (run_set xs i place now was there a b)

-- a partition that didn't run the place and doesn't run it now
run_apart : (s : State) (by place : ℕ) (now was : Standing) → standing s.standings by ≡ Some was → is_run place was ≡ false →
    is_run place now ≡ false → is_running (slice_set s.standings (by - 1) now) place ≡ is_running s.standings place
run_apart s by place now was is a b = run_set s.standings (by - 1) place now was (standing_get s.standings by was is) a b

runs_other : (place other : ℕ) → (other ≡ place → ⊥) → is_run other (Runs place) ≡ false
runs_other place other apart = ne_eqb place other (λ e. apart (sym e))

-- the place offers what it offered
offers_same : (jobs : List Job) (s new : State) (place : ℕ) → at new.fates place ≡ at s.fates place →
    is_decided new.fates (first_open new.fates (needs_in jobs place)) ≡ is_decided s.fates (first_open s.fates (needs_in jobs place)) →
    is_running new.standings place ≡ is_running s.standings place → offers jobs new place ≡ offers jobs s place
offers_same jobs s new place fate decided runs =
    ap (λ (f : Option Fate). is_none f && (is_decided new.fates (first_open new.fates (needs_in jobs place)) && not (is_running new.standings place))) fate
    ∙ ap (λ (d : Bool). is_none (at s.fates place) && (d && not (is_running new.standings place))) decided
    ∙ ap (λ (r : Bool). is_none (at s.fates place) && (is_decided s.fates (first_open s.fates (needs_in jobs place)) && not r)) runs

-- fronts stand, and the flags of all but some places
outlook_then : (jobs : List Job) (s new : State) (open_places : List ℕ) (outlook : Outlook) → IsOutlook jobs s [] outlook →
    ((needs : List ℕ) → first_open s.fates needs ≡ None → first_open new.fates needs ≡ None) →
    ((place : ℕ) → has open_places place ≡ false → offers jobs new place ≡ offers jobs s place) → IsOutlook jobs new open_places outlook
outlook_then jobs s new open_places outlook known stays same = record {
  fronts = record {
    fronts = known.fronts.fronts;
    flags = known.fronts.flags;
    each = λ place front is. let f = known.fronts.each place front is in record { within = f.within; built = stays (take front (needs_in jobs place)) f.built };
  };
  right = λ place within apart. known.right place within refl ∙ ap Some (sym (same place apart));
}

-- a place that neither got the fate nor needs the place that did
apart_of : (jobs : List Job) (dependents : List (List ℕ)) → AreDependents jobs dependents → (place other : ℕ) →
    has (place ∷ dependents_at dependents place) other ≡ false → (other ≡ place → ⊥) × (has (needs_in jobs other) place ≡ false)
apart_of jobs dependents are place other h =
    let parts = or_parts (place == other) (has (dependents_at dependents place) other) h in
    ((λ e. eqb-false place other parts.0 (sym e)), sym (are.each place other) ∙ parts.1)

only_apart : (place other : ℕ) → has (place ∷ []) other ≡ false → other ≡ place → ⊥
only_apart place other h e = eqb-false place other (or_parts (place == other) false h).0 (sym e)

no_fate : (s : State) (place : ℕ) → slice_get s.fates place ≡ Some None → at s.fates place ≡ None
no_fate s place is = ap (option_and_then (λ (v : Option Fate). v)) is

-- a place got a fate
pub outlook_settled : (jobs : List Job) (s : State) (agenda : Agenda) → IsAgenda jobs s agenda → (place : ℕ) (fate : Option Fate) (standings : List Standing) →
    at s.fates place ≡ None → ((other : ℕ) → (other ≡ place → ⊥) → is_running standings other ≡ is_running s.standings other) →
    IsOutlook jobs (record { fates = slice_set s.fates place fate; standings = standings }) (place ∷ dependents_at agenda.dependents.items place) agenda.outlook
outlook_settled jobs s agenda is place fate standings none runs =
    outlook_then jobs s new (place ∷ dependents_at agenda.dependents.items place) agenda.outlook is.outlook
    (λ needs e. built_stays s.fates place fate none needs e)
    (λ other h. let apart = apart_of jobs agenda.dependents.items is.dependents place other h in
    offers_same jobs s new other (ap (option_and_then (λ (v : Option Fate). v)) (set_other s.fates place other fate apart.0))
    (decided_apart s.fates place fate (needs_in jobs other) apart.1) (runs other apart.0))
  where
    new : State
    new = record { fates = slice_set s.fates place fate; standings = standings }

-- a partition began or ended with a place
pub outlook_stood : (jobs : List Job) (s : State) (agenda : Agenda) → IsAgenda jobs s agenda → (place : ℕ) (standings : List Standing) →
    ((other : ℕ) → (other ≡ place → ⊥) → is_running standings other ≡ is_running s.standings other) →
    IsOutlook jobs (record { fates = s.fates; standings = standings }) (place ∷ []) agenda.outlook
outlook_stood jobs s agenda is place standings runs =
    outlook_then jobs s (record { fates = s.fates; standings = standings }) (place ∷ []) agenda.outlook is.outlook (λ needs e. e)
    (λ other h. offers_same jobs s (record { fates = s.fates; standings = standings }) other refl refl (runs other (only_apart place other h)))

-- one place less without a fate
left_less : (fates : List (Option Fate)) (place : ℕ) (fate : Fate) → slice_get fates place ≡ Some None →
    count_by is_none fates ≡ count_by is_none (slice_set fates place (Some fate)) + 1
left_less fates place fate is =
    let h : count_by is_none (slice_set fates place (Some fate)) + 1 ≡ count_by is_none fates + 0 =
    sum_set (λ (x : Option Fate). cond (is_none x) 1 0) fates place (Some fate) None is in
    omega (arith, h)

-- after a legal event the agenda is behind by that event alone
pub behind_after : (o : Opening) (s : State) → Tidy s → (event : Event) → IsLegal o s event → (agenda : Agenda) →
    IsAgenda o.plan.jobs s agenda → IsBehind o.plan.jobs (after o s event) event agenda
behind_after o s tidy (Keep place by) legal agenda is =
    let parts = kept_parts (at o.kept place) (slice_get o.plan.jobs place) (outcomes_now s.fates (needs_at o place)) legal.2 in
    let fate : option_map (λ (kept : Kept). Built kept.outcome) (at o.kept place) ≡ Some (Built parts.0.outcome) =
    ap (option_map (λ (kept : Kept). Built kept.outcome)) parts.2 in
    record {
      outlook = outlook_settled o.plan.jobs s agenda is place (option_map (λ (kept : Kept). Built kept.outcome) (at o.kept place)) s.standings
          (no_fate s place legal.0.open_place) (λ other apart. refl);
      dependents = is.dependents;
      left = is.left ∙ left_less s.fates place (Built parts.0.outcome) legal.0.open_place
          ∙ ap (λ (f : Option Fate). count_by is_none (slice_set s.fates place f) + 1) (sym fate);
    }
behind_after o s tidy (Start place by) legal agenda is = record {
  outlook = outlook_stood o.plan.jobs s agenda is place (slice_set s.standings (by - 1) (Runs place))
      (λ other apart. run_apart s by other (Runs place) Idle legal.0.idle refl (runs_other place other apart));
  dependents = is.dependents;
  left = omega (arith, is.left);
}
behind_after o s tidy (Finish place by outcome) legal agenda is =
    let there = acts_on o s tidy (Finish place by outcome) legal in
    record {
      outlook = outlook_settled o.plan.jobs s agenda is place (Some (Built outcome)) (slice_set s.standings (by - 1) Idle)
          (no_fate s place there)
          (λ other apart. run_apart s by other Idle (Runs place) legal.0 (runs_other place other apart) refl);
      dependents = is.dependents;
      left = is.left ∙ left_less s.fates place (Built outcome) there;
    }
behind_after o s tidy (Fail place by outcome) legal agenda is =
    let there = acts_on o s tidy (Fail place by outcome) legal in
    record {
      outlook = outlook_settled o.plan.jobs s agenda is place (Some (Failed outcome)) (slice_set s.standings (by - 1) Idle)
          (no_fate s place there)
          (λ other apart. run_apart s by other Idle (Runs place) legal.0 (runs_other place other apart) refl);
      dependents = is.dependents;
      left = is.left ∙ left_less s.fates place (Failed outcome) there;
    }
behind_after o s tidy (Skip place need by) legal agenda is = record {
  outlook = outlook_settled o.plan.jobs s agenda is place (Some (Skipped need)) s.standings
      (no_fate s place legal.0.open_place) (λ other apart. refl);
  dependents = is.dependents;
  left = is.left ∙ left_less s.fates place (Skipped need) legal.0.open_place;
}
behind_after o s tidy (Back place by cause) legal agenda is = record {
  outlook = outlook_stood o.plan.jobs s agenda is place (slice_set s.standings (by - 1) Ended)
      (λ other apart. run_apart s by other Ended (Runs place) legal (runs_other place other apart) refl);
  dependents = is.dependents;
  left = omega (arith, is.left);
}
