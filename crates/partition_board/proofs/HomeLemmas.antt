-- The folders at home, from one event to the next.
use Rattle.std.proofs.Common.{◌≡◌, ℕ, ◌-◌, ◌<◌, ◌⊎◌, inl, inr, true, false, List, length, Option, Some, None, IfSome, option_map, slice_get, slice_set, refl, sym, ◌∙◌, ap, subst}
use Rattle.std.specs.Option.{option_and_then}
use Rattle.std.proofs.lemmas.Bool.{cases_eq}
use Rattle.std.proofs.lemmas.List.{length-set}
use Rattle.compile_model.specs.declared.outcome.Outcome.{Outcome}
use Rattle.compile_model.specs.declared.outcome.Fate.{Fate}
use Rattle.compile_model.specs.declared.outcome.Fate.TheVariants.{Built, Failed, Skipped}
use Rattle.staleness.specs.declared.kept.Kept.{Kept}
use Rattle.tree_store.specs.declared.holding.Holding.{Holding}
use Rattle.tree_store.specs.FolderKnown.{FolderKnown}
use Rattle.tree_store.specs.Holding.{nothing}
use Rattle.tree_store.proofs.MomentLemmas.{if_told}
use Rattle.partition_core.specs.declared.event.BackCause.{BackCause}
use Rattle.partition_core.specs.declared.event.Event.TheVariants.{Keep, Start, Finish, Fail, Skip, Back}
use Rattle.partition_core.specs.declared.event.Standing.{Standing}
use Rattle.partition_core.specs.declared.event.Standing.TheVariants.{Idle, Runs, Ended}
use Rattle.partition_core.specs.State.{Opening, State, at, stands, outcomes_now, needs_at}
use Rattle.partition_core.specs.Steps.{IsLegal, Holds, after}
use Rattle.partition_core.proofs.Tidy.{Tidy, not_run}
use Rattle.partition_core.proofs.Places.{get_set, kept_parts, set_other, set_same, standing_get}
use Rattle.partition_board.specs.Holds.{HoldsBuilt, HoldsKept, WasKept}
use Rattle.partition_board.specs.Homes.{AreHome, Fits, IsAtHome, IsStale, RunsAt}
use Rattle.partition_board.proofs.Growing.{Grows, at_open, at_set, grows_step}
use Rattle.partition_board.proofs.Holding.{fits_grow, holds_grow, if_weaker, kept_grow, kept_holds, stale_grow, was_kept}

-- what one partition does changes nothing of who runs a place that it runs neither before nor after
runs_set : (standings : List Standing) (b : ℕ) (was now : Standing) (i p : ℕ) → slice_get standings b ≡ Some was → (was ≡ Runs p → ⊥) → (now ≡ Runs p → ⊥)
    → (slice_get (slice_set standings b now) i ≡ Some (Runs p) → slice_get standings i ≡ Some (Runs p))
    × (slice_get standings i ≡ Some (Runs p) → slice_get (slice_set standings b now) i ≡ Some (Runs p))
runs_set standings b was now i p is not_was not_now = (
  (λ runs. elim (get_set standings b i now (Runs p) runs) [ inl same ↦ absurd (not_now same.1) | inr other ↦ other.1 ]),
  (λ runs. set_other standings b i now (λ e. not_was (let h : Some was ≡ Some (Runs p) = sym is ∙ ap (slice_get standings) (sym e) ∙ runs in cc)) ∙ runs),
)

other_runs : (place p : ℕ) → (p ≡ place → ⊥) → Runs place ≡ Runs p → ⊥
other_runs place p other e = other (cc)

idle_runs : (p : ℕ) → Idle ≡ Runs p → ⊥
idle_runs p e = cc

ended_runs : (p : ℕ) → Ended ≡ Runs p → ⊥
ended_runs p e = cc

module _ {F : Type 0} (known : F → FolderKnown) (Is Next : ℕ → F → Type 0) (o : Opening) (s : State) (tidy : Tidy s) (homes : List (Option F))
    (home : AreHome known Is o s homes) where
  abbrev HomeAt : (ℕ → F → Type 0) → State → List (Option F) → ℕ → Type 0
  HomeAt Belong now new place = (folder : F) × (slice_get new place ≡ Some (Some folder)) × IsAtHome known Belong o now place folder

  -- the folder of a place that is as it was
  home_grows : (now : State) (new : List (Option F)) → Grows s.fates now.fates → (p : ℕ) → slice_get now.fates p ≡ slice_get s.fates p
      → slice_get new p ≡ slice_get homes p
      → ((folder : F) → Is p folder → Next p folder) → HomeAt Is s homes p → HomeAt Next now new p
  home_grows now new grows p fates same keeps there = (
    there.0,
    same ∙ there.1,
    record {
      is = keeps there.0 there.2.is;
      fits = subst (λ (fate : Option Fate). IfSome (known there.0).held (Fits o now p fate)) (ap (option_and_then (λ (v : Option Fate). v)) (sym fates))
          (if_weaker (Fits o s p (at s.fates p)) (Fits o now p (at s.fates p)) (known there.0).held (fits_grow o s now grows p (at s.fates p)) there.2.fits);
    },
  )

  -- one place changes
  homes_then : (now : State) (new : List (Option F)) (place : ℕ) → Grows s.fates now.fates → length new ≡ length homes
      → ((p : ℕ) (folder : F) → (p ≡ place → ⊥) → Is p folder → Next p folder)
      → ((p : ℕ) → (p ≡ place → ⊥) → slice_get now.fates p ≡ slice_get s.fates p)
      → ((p : ℕ) → (p ≡ place → ⊥) → slice_get new p ≡ slice_get homes p)
      → ((p i : ℕ) → (p ≡ place → ⊥) → (RunsAt now i p → RunsAt s i p) × (RunsAt s i p → RunsAt now i p))
      → ((i : ℕ) → RunsAt now i place → (slice_get new place ≡ Some None) × IsStale o now place)
      → (place < length o.plan.jobs → ((i : ℕ) → RunsAt now i place → ⊥) → HomeAt Next now new place)
      → AreHome known Next o now new
  homes_then now new place grows long keeps fates same runs away_here home_here = record {
    places = long ∙ home.places;
    away = λ p i is. elim (cases_eq p place) [
      | inl e ↦ subst (λ (q : ℕ). (slice_get new q ≡ Some None) × IsStale o now q) (sym e) (away_here i (subst (λ (q : ℕ). RunsAt now i q) e is))
      | inr other ↦ (let old = home.away p i ((runs p i other).0 is) in (same p other ∙ old.0, stale_grow o s now grows p old.1))
    ];
    home = λ p within idle. elim (cases_eq p place) [
      | inl e ↦ subst (λ (q : ℕ). HomeAt Next now new q) (sym e) (home_here (subst (λ (q : ℕ). q < length o.plan.jobs) e within)
          (λ i is. idle i (subst (λ (q : ℕ). RunsAt now i q) (sym e) is)))
      | inr other ↦ home_grows now new grows p (fates p other) (same p other) (λ folder is. keeps p folder other is)
          (home.home p within (λ i is. idle i ((runs p i other).1 is)))
    ];
  }

  -- a place that isn't running gets a fate that its folder suits
  settled : (place : ℕ) (fate : Option Fate) → Grows s.fates (slice_set s.fates place fate)
      → ((p : ℕ) (folder : F) → Is p folder → Next p folder)
      → slice_get s.fates place ≡ Some None → ((i : ℕ) → RunsAt s i place → ⊥)
      → ((held : Holding) → Fits o s place None held → Fits o (record { fates = slice_set s.fates place fate; standings = s.standings }) place fate held)
      → AreHome known Next o (record { fates = slice_set s.fates place fate; standings = s.standings }) homes
  settled place fate grows keeps none idle suits =
      let now : State = record { fates = slice_set s.fates place fate; standings = s.standings } in
      homes_then now homes place grows refl
      (λ p folder other is. keeps p folder is)
      (λ p other. set_other s.fates place p fate other)
      (λ p other. refl)
      (λ p i other. ((λ r. r), (λ r. r)))
      (λ i runs. absurd (idle i runs))
      (λ within now_idle.
      let there = home.home place within idle in (
        there.0,
        there.1,
        record {
          is = keeps place there.0 there.2.is;
          fits = subst (λ (f : Option Fate). IfSome (known there.0).held (Fits o now place f)) (sym (at_set s.fates place fate none))
              (if_weaker (Fits o s place None) (Fits o now place fate) (known there.0).held suits
              (subst (λ (f : Option Fate). IfSome (known there.0).held (Fits o s place f)) (at_open s.fates place none) there.2.fits));
        },
      ))

  -- a partition stops running a place, whose folder comes back and suits its fate
  came_back : (now : State) (place by : ℕ) (standing : Standing) (folder : F) → Grows s.fates now.fates → Holds s place by
      → now.standings ≡ slice_set s.standings (by - 1) standing → ((p : ℕ) → standing ≡ Runs p → ⊥)
      → ((p : ℕ) → (p ≡ place → ⊥) → slice_get now.fates p ≡ slice_get s.fates p)
      → ((p : ℕ) (f : F) → (p ≡ place → ⊥) → Is p f → Next p f)
      → Next place folder → IfSome (known folder).held (Fits o now place (at now.fates place))
      → AreHome known Next o now (slice_set homes place (Some folder))
  came_back now place by standing folder grows holds stood nothing fates keeps is fits =
      let own = standing_get s.standings by (Runs place) holds in
      homes_then now (slice_set homes place (Some folder)) place grows (length-set homes place (Some folder))
      keeps
      fates
      (λ p other. set_other homes place p (Some folder) other)
      (λ p i other. subst (λ (ss : List Standing). (slice_get ss i ≡ Some (Runs p) → RunsAt s i p) × (RunsAt s i p → slice_get ss i ≡ Some (Runs p)))
      (sym stood)
      (runs_set s.standings (by - 1) (Runs place) standing i p own (other_runs place p other) (nothing p)))
      (λ i runs. elim (get_set s.standings (by - 1) i standing (Runs place) (ap (λ (ss : List Standing). slice_get ss i) (sym stood) ∙ runs)) [
        | inl same ↦ absurd (nothing place same.1)
        | inr also ↦ absurd (also.0 (tidy.once i (by - 1) place also.1 own))
      ])
      (λ within idle. (folder, set_same homes place (Some folder) None (home.away place (by - 1) own).0, record { is = is; fits = fits }))

  pub keep_home : (place by : ℕ) → IsLegal o s (Keep place by) → ((p : ℕ) (folder : F) → Is p folder → Next p folder)
      → AreHome known Next o (after o s (Keep place by)) homes
  keep_home place by legal keeps =
      let parts = kept_parts (at o.kept place) (slice_get o.plan.jobs place) (outcomes_now s.fates (needs_at o place)) legal.2 in
      let kept = parts.0 in
      let fate : Option Fate = option_map (λ (k : Kept). Built k.outcome) (at o.kept place) in
      let is : fate ≡ Some (Built kept.outcome) = ap (option_map (λ (k : Kept). Built k.outcome)) parts.2 in
      let now : State = after o s (Keep place by) in
      settled place fate (grows_step o s tidy (Keep place by) legal) keeps legal.0.open_place (not_run s place by legal.0)
      (λ held fits. subst (λ (f : Option Fate). Fits o now place f held) (sym is)
      (suits now kept held (kept_grow o s.fates now.fates (grows_step o s tidy (Keep place by) legal) place kept (was_kept o s place kept parts.2 legal.1 legal.2))
      (fits kept parts.2) legal.2))
    where
      suits : (now : State) (kept : Kept) (held : Holding) → WasKept o now.fates place kept → HoldsKept kept held ⊎ IsStale o s place → stands o s place ≡ true
          → HoldsBuilt o now.fates place kept.outcome held
      suits now kept held was (inr stale) stood = absurd (let no : stands o s place ≡ false = stale.1 in cc)
      suits now kept held was (inl holds) stood = kept_holds o now.fates place kept held was holds

  pub skip_home : (place need by : ℕ) → IsLegal o s (Skip place need by) → ((p : ℕ) (folder : F) → Is p folder → Next p folder)
      → AreHome known Next o (after o s (Skip place need by)) homes
  skip_home place need by legal keeps =
      settled place (Some (Skipped need)) (grows_step o s tidy (Skip place need by) legal) keeps legal.0.open_place (not_run s place by legal.0)
      (λ held fits. tt)

  -- the folder of a place that may be started
  pub start_there : (place by : ℕ) → IsLegal o s (Start place by) → place < length o.plan.jobs → HomeAt Is s homes place
  start_there place by legal within = home.home place within (not_run s place by legal.0)

  pub start_home : (place by : ℕ) → IsLegal o s (Start place by) → place < length o.plan.jobs → ((p : ℕ) (folder : F) → Is p folder → Next p folder)
      → AreHome known Next o (after o s (Start place by)) (slice_set homes place None)
  start_home place by legal within keeps =
      let now : State = after o s (Start place by) in
      let grows = grows_step o s tidy (Start place by) legal in
      let own = standing_get s.standings by Idle legal.0.idle in
      let there = start_there place by legal within in
      homes_then now (slice_set homes place None) place grows (length-set homes place None)
      (λ p folder other is. keeps p folder is)
      (λ p other. refl)
      (λ p other. set_other homes place p None other)
      (λ p i other. runs_set s.standings (by - 1) Idle (Runs place) i p own (idle_runs p) (other_runs place p other))
      (λ i runs. (set_same homes place None (Some there.0) there.1, stale_grow o s now grows place (legal.1, legal.2)))
      (λ in_plan idle. absurd (idle (by - 1) (set_same s.standings (by - 1) (Runs place) Idle own)))

  pub finish_home : (place by : ℕ) (outcome : Outcome) (folder : F) → IsLegal o s (Finish place by outcome)
      → ((p : ℕ) (f : F) → (p ≡ place → ⊥) → Is p f → Next p f) → Next place folder → IfSome (known folder).held (HoldsBuilt o s.fates place outcome)
      → AreHome known Next o (after o s (Finish place by outcome)) (slice_set homes place (Some folder))
  finish_home place by outcome folder legal keeps is holds =
      let now : State = after o s (Finish place by outcome) in
      let grows = grows_step o s tidy (Finish place by outcome) legal in
      let none = tidy.open_place (by - 1) place (standing_get s.standings by (Runs place) legal.0) in
      came_back now place by Idle folder grows legal.0 refl idle_runs (λ p other. set_other s.fates place p (Some (Built outcome)) other) keeps is
      (subst (λ (f : Option Fate). IfSome (known folder).held (Fits o now place f)) (sym (at_set s.fates place (Some (Built outcome)) none))
      (if_weaker (HoldsBuilt o s.fates place outcome) (Fits o now place (Some (Built outcome))) (known folder).held
      (holds_grow o s.fates now.fates grows place outcome) holds))

  pub fail_home : (place by : ℕ) (outcome : Outcome) (folder : F) → IsLegal o s (Fail place by outcome)
      → ((p : ℕ) (f : F) → (p ≡ place → ⊥) → Is p f → Next p f) → Next place folder → IfSome (known folder).held (λ held. held ≡ nothing)
      → AreHome known Next o (after o s (Fail place by outcome)) (slice_set homes place (Some folder))
  fail_home place by outcome folder legal keeps is bare =
      let now : State = after o s (Fail place by outcome) in
      let none = tidy.open_place (by - 1) place (standing_get s.standings by (Runs place) legal.0) in
      came_back now place by Idle folder (grows_step o s tidy (Fail place by outcome) legal) legal.0 refl idle_runs
      (λ p other. set_other s.fates place p (Some (Failed outcome)) other) keeps is
      (subst (λ (f : Option Fate). IfSome (known folder).held (Fits o now place f)) (sym (at_set s.fates place (Some (Failed outcome)) none)) bare)

  pub back_home : (place by : ℕ) (cause : BackCause) (folder : F) → IsLegal o s (Back place by cause)
      → ((p : ℕ) (f : F) → (p ≡ place → ⊥) → Is p f → Next p f) → Next place folder
      → AreHome known Next o (after o s (Back place by cause)) (slice_set homes place (Some folder))
  back_home place by cause folder legal keeps is =
      let now : State = after o s (Back place by cause) in
      let grows = grows_step o s tidy (Back place by cause) legal in
      let own = standing_get s.standings by (Runs place) legal in
      let none = tidy.open_place (by - 1) place own in
      came_back now place by Ended folder grows legal refl ended_runs (λ p other. refl) keeps is
      (subst (λ (f : Option Fate). IfSome (known folder).held (Fits o now place f)) (sym (at_open s.fates place none))
      (if_told (known folder).held (λ held told. λ kept e. inr (stale_grow o s now grows place (home.away place (by - 1) own).1))))
