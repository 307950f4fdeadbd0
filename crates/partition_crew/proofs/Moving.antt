-- What one step does to a build on its way.
use Rattle.std.proofs.Common.{◌≡◌, ℕ, ◌+◌, Bool, true, false, cond, List, [], ◌∷◌, ◌++◌, length, count_by, Option, Some, None, option_map, slice_get, slice_set, Ok, refl, sym, ◌∙◌, ap, subst, arith}
use Rattle.std.proofs.lemmas.List.{length-set}
use Rattle.compile_model.specs.declared.outcome.Fate.{Fate}
use Rattle.compile_model.specs.declared.outcome.Fate.TheVariants.{Built, Failed as NotBuilt, Skipped}
use Rattle.compile_model.specs.declared.outcome.Twin.{Twin}
use Rattle.compile_model.specs.Planned.{ArePlanned}
use Rattle.compile_model.specs.Seq.{seq}
use Rattle.staleness.specs.declared.kept.Kept.{Kept}
use Rattle.tree_store.specs.FolderKnown.{FolderKnown}
use Rattle.partition_core.specs.declared.event.Event.{Event}
use Rattle.partition_core.specs.declared.event.Event.TheVariants.{Keep, Skip}
use Rattle.partition_core.specs.declared.event.Standing.TheVariants.{Idle, Runs}
use Rattle.partition_core.specs.State.{Opening, State, at, kept_matches, needs_at, outcomes_now, standing}
use Rattle.partition_core.specs.Steps.{IsLegal, after}
use Rattle.partition_core.specs.Histories.{Agrees, IsFaithful, Sound, replay}
use Rattle.partition_core.specs.Counts.{count_below, is_back, is_compiled, is_start}
use Rattle.partition_core.proofs.Confluent.{confluent}
use Rattle.partition_core.proofs.Places.{kept_parts, set_other, set_same}
use Rattle.partition_core.proofs.Tidy.{legal_more, replay_more}
use Rattle.partition_crew.specs.declared.worked.Worked.{Worked}
use Rattle.partition_crew.specs.declared.worked.Worked.TheVariants.{Finished, Failed, Died, TreeFault as TreeFailed, NoMemory}
use Rattle.partition_board.specs.Holds.{AreReady}
use Rattle.partition_crew.specs.Station.{AreHome, IsHome, IsStation, Moves, Nature, Station, WorksOn, event_by, given_now, is_covered, told_by}
use Rattle.partition_crew.specs.Station.Moves.{keeps, skips, works}
use Rattle.partition_crew.specs.Work.{has_died}
use Rattle.partition_crew.proofs.Tallying.{count_end}
use Rattle.partition_crew.proofs.Homes.{built_home, failed_home, homes_settled, kept_home, skipped_home}
use Rattle.partition_crew.proofs.Inputs.{stay_worked}
use Rattle.partition_crew.proofs.Telling.{faithful_more, starts_works, legal_works, faithful_works, works_ready, replayed, counted_works}
use Rattle.partition_crew.proofs.Covering.{covered_no_more, covered_one_more, kept_uncompiled, skipped_uncompiled}

-- ---- the moves

-- a build that goes on after a start came to an outcome
by_answer : (A : Type 0) (came : Worked) → told_by came ≡ Ok true → ((twin : Twin) → came ≡ Finished twin → A) → ((twin : Twin) → came ≡ Failed twin → A) → A
by_answer A (Finished twin) told finished failed = finished twin refl
by_answer A (Failed twin) told finished failed = failed twin refl
by_answer A Died told finished failed = cc
by_answer A TreeFailed told finished failed = cc
by_answer A NoMemory told finished failed = cc

-- after an event of a free partition that gives a place its fate, with the folders as they were
module _ (nature : Nature) (o : Opening) (planned : ArePlanned o.plan.jobs) (first old : Station) (ready : AreReady o first.folders)
    (station : IsStation nature o first old) where
  abbrev now : State
  now = replay o old.events

  pub agrees_now : nature.honest → Sound nature.compile o → Agrees now.fates (seq nature.compile o.plan.jobs)
  agrees_now honest sound = confluent nature.compile o old.events planned sound station.legal (station.faithful honest)

  settled : (event : Event) (place : ℕ) (fate : Fate) → IsLegal o now event → (nature.honest → IsFaithful nature.compile o now event)
      → slice_get now.fates place ≡ Some None
      → after o now event ≡ record { fates = slice_set now.fates place (Some fate); standings = now.standings } → is_back event ≡ false
      → is_start event ≡ false
      → (nature.honest → Sound nature.compile o → is_compiled nature.compile o place ≡ true → ⊥)
      → ((folder : FolderKnown) → slice_get first.folders place ≡ Some folder → IsHome o (slice_set now.fates place (Some fate)) place folder folder)
      → IsStation nature o first (record old { events = old.events ++ event ∷ [] })
  settled event place fate legal meant open_place effect no_back no_start uncompiled home =
      let then : replay o (old.events ++ event ∷ []) ≡ record {
        fates = slice_set now.fates place
            (Some fate);
        standings = now.standings;
      } = replay_more o old.events event ∙ effect in
      let fates : (replay o (old.events ++ event ∷ [])).fates ≡ slice_set now.fates place (Some fate) = ap (λ (t : State). t.fates) then in
      let no_more : count_by is_start (old.events ++ event ∷ []) ≡ count_by is_start old.events =
      count_end is_start old.events event ∙ ap (λ (b : Bool). count_by is_start old.events + cond b 1 0) no_start ∙ (omega arith) in
      record {
        legal = legal_more o old.events event station.legal legal;
        faithful = λ honest. faithful_more nature.compile o old.events event (station.faithful honest) (meant honest);
        idle = ap (λ (t : State). standing t.standings 1) then ∙ station.idle;
        unended = count_end is_back old.events event ∙ ap (λ (b : Bool). count_by is_back old.events + cond b 1 0) no_back ∙ (omega (arith, station.unended));
        runs = station.runs ∙ ap (λ (n : ℕ). first.counts.runs + n) (sym no_more);
        deaths = station.deaths;
        homes = subst (λ (all : List (Option Fate)). AreHome o all first.folders old.folders) (sym fates)
            (homes_settled o now.fates place fate first.folders old.folders old.folders open_place station.homes refl (λ p other. refl)
            (λ a b was mid has. subst (λ (f : FolderKnown). IsHome o (slice_set now.fates place (Some fate)) place a f)
            (let e : Some a ≡ Some b = sym mid ∙ has in cc) (home a was)));
        stay = station.stay;
        starts = λ honest sound.
            let more = ap (λ (all : List (Option Fate)). count_below (is_covered nature.compile o all) (length o.plan.jobs)) fates in
            omega (arith, more, no_more, covered_no_more nature.compile o now.fates place (Some fate) (uncompiled honest sound), station.starts honest sound);
      }

  keep_station : (place : ℕ) → IsLegal o now (Keep place 1) → IsStation nature o first (record old { events = old.events ++ Keep place 1 ∷ [] })
  keep_station place legal =
      let parts = kept_parts (at o.kept place) (slice_get o.plan.jobs place) (outcomes_now now.fates (needs_at o place)) legal.2 in
      let kept : Kept = parts.0 in
      let is : at o.kept place ≡ Some kept = parts.2 in
      settled (Keep place 1) place (Built kept.outcome) legal (λ honest. tt) legal.0.open_place
      (ap (λ (k : Option Kept). record {
        fates = slice_set now.fates place
            (option_map (λ (entry : Kept). Built entry.outcome) k);
        standings = now.standings;
      }) is) refl refl
      (λ honest sound. kept_uncompiled nature.compile o now place (agrees_now honest sound) legal.1 legal.2)
      (λ folder was. kept_home o now.fates place kept folder legal.0.open_place
      (record { entry = is; ready = legal.1; fits = ap (λ (k : Option Kept). kept_matches k (slice_get o.plan.jobs place) (outcomes_now now.fates (needs_at o place))) (sym is) ∙ legal.2 })
      (ready.kept place folder kept was is))

  skip_station : (place need : ℕ) → IsLegal o now (Skip place need 1) → IsStation nature o first
      (record old { events = old.events ++ Skip place need 1 ∷ [] })
  skip_station place need legal =
      settled (Skip place need 1) place (Skipped need) legal (λ honest. tt) legal.0.open_place refl refl refl
      (λ honest sound. skipped_uncompiled nature.compile o now place need (agrees_now honest sound) legal.1 legal.2)
      (λ folder was. skipped_home o now.fates place need folder legal.0.open_place)

  -- after a start that came to an outcome
  worked_settled : (worked : Worked) (new : Station) (w : WorksOn nature o worked old new) (fate : Fate)
      → replay o new.events ≡ record {
        fates = slice_set now.fates w.place (Some fate);
        standings = slice_set
            (slice_set now.standings 0 (Runs w.place)) 0 Idle;
      }
      → is_back (event_by w.place worked) ≡ false → has_died worked ≡ false → new.counts.runs ≡ old.counts.runs + 1
      → IsHome o (slice_set now.fates w.place (Some fate)) w.place w.works.before w.works.after → IsStation nature o first new
  worked_settled worked new w fate then no_back lives once home =
      let fates : (replay o new.events).fates ≡ slice_set now.fates w.place (Some fate) = ap (λ (t : State). t.fates) then in
      let starts : count_by is_start new.events ≡ count_by is_start old.events + 1 = starts_works nature o worked old new w in
      record {
        legal = legal_works nature o worked old new w station.legal;
        faithful = λ honest. faithful_works nature o worked old new w honest (station.faithful honest);
        idle = ap (λ (t : State). standing t.standings 1) then
            ∙ set_same (slice_set now.standings 0 (Runs w.place)) 0 Idle (Runs w.place) (set_same now.standings 0 (Runs w.place) Idle w.legal.0.idle);
        unended = counted_works nature o worked old new w is_back refl ∙ ap (λ (b : Bool). count_by is_back old.events + cond b 1 0) no_back
            ∙ (omega (arith, station.unended));
        runs = omega (arith, once, station.runs, starts);
        deaths = w.counts.deaths.kept lives ∙ station.deaths;
        homes = subst (λ (all : List (Option Fate)). AreHome o all first.folders new.folders) (sym fates)
            (homes_settled o now.fates w.place fate first.folders old.folders new.folders w.legal.0.open_place station.homes
            (ap length w.works.folders ∙ length-set old.folders w.place w.works.after)
            (λ p other. ap (λ (all : List FolderKnown). slice_get all p) w.works.folders ∙ set_other old.folders w.place p w.works.after other)
            (λ a b was mid has.
            let own : w.works.before ≡ a = let e : Some w.works.before ≡ Some a = sym w.works.there ∙ mid in cc in
            let put : slice_get new.folders w.place ≡ Some w.works.after =
            ap (λ (all : List FolderKnown). slice_get all w.place) w.works.folders
            ∙ set_same old.folders w.place w.works.after w.works.before w.works.there in
            let got : w.works.after ≡ b = let e : Some w.works.after ≡ Some b = sym put ∙ has in cc in
            subst (λ (f : FolderKnown). IsHome o (slice_set now.fates w.place (Some fate)) w.place f b) own
            (subst (λ (f : FolderKnown). IsHome o (slice_set now.fates w.place (Some fate)) w.place w.works.before f) got home)));
        stay = λ honest sound. stay_worked nature o worked first old new w (agrees_now honest sound) honest (station.stay honest sound);
        starts = λ honest sound.
            let more = ap (λ (all : List (Option Fate)). count_below (is_covered nature.compile o all) (length o.plan.jobs)) fates in
            omega (arith, more, starts, covered_one_more nature.compile o now.fates w.place (Some fate), station.starts honest sound);
      }

  finished_station : (twin : Twin) (new : Station) → WorksOn nature o (Finished twin) old new → IsStation nature o first new
  finished_station twin new w =
      let done = w.works.came in
      worked_settled (Finished twin) new w (Built twin.event) (replayed nature o (Finished twin) old new w) refl refl (w.counts.ran refl)
      (built_home o now.fates w.place w.job twin.event w.works.before w.works.after w.legal.0.open_place w.here
      (works_ready nature o (Finished twin) old new w) done.0
      done.1.last done.1.settles w.works.touches)

  failed_station : (twin : Twin) (new : Station) → WorksOn nature o (Failed twin) old new → IsStation nature o first new
  failed_station twin new w =
      let done = w.works.came in
      worked_settled (Failed twin) new w (NotBuilt twin.event) (replayed nature o (Failed twin) old new w) refl refl (w.counts.ran refl)
      (failed_home o now.fates w.place
      (given_now o old.events w.job) twin.event w.works.before w.works.after w.legal.0.open_place done.0 done.1.last done.1.settles w.works.touches)

  work_station : (worked : Worked) (new : Station) → WorksOn nature o worked old new → told_by worked ≡ Ok true → IsStation nature o first new
  work_station worked new w told =
      by_answer (IsStation nature o first new) worked told
      (λ twin same. finished_station twin new (subst (λ (came : Worked). WorksOn nature o came old new) same w))
      (λ twin same. failed_station twin new (subst (λ (came : Worked). WorksOn nature o came old new) same w))

  pub station_moves : (new : Station) → Moves nature o old new → IsStation nature o first new
  station_moves new (keeps place legal is) = subst (IsStation nature o first) (sym is) (keep_station place legal)
  station_moves new (skips place need legal is) = subst (IsStation nature o first) (sym is) (skip_station place need legal)
  station_moves new (works worked w told) = work_station worked new w told
