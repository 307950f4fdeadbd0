-- A start, and what is told of it.
use Rattle.std.proofs.Common.{◌≡◌, ℕ, ◌+◌, Bool, false, cond, List, [], ◌∷◌, ◌++◌, count_by, None, refl, sym, ◌∙◌, ap, subst, arith}
use Rattle.compile_model.specs.declared.outcome.Outcome.{Outcome}
use Rattle.compile_model.specs.Content.{Content}
use Rattle.partition_core.specs.declared.event.Event.{Event}
use Rattle.partition_core.specs.declared.event.Event.TheVariants.{Start}
use Rattle.partition_core.specs.declared.event.Standing.TheVariants.{Idle, Runs}
use Rattle.partition_core.specs.State.{Opening, State, first_open, start_of}
use Rattle.partition_core.specs.Steps.{Holds, IsLegal, after}
use Rattle.partition_core.specs.Histories.{AreFaithful, Faithful, IsFaithful, Legal, after_all, replay}
use Rattle.partition_core.specs.Counts.{is_start}
use Rattle.partition_core.proofs.Places.{set_same}
use Rattle.partition_core.proofs.Tidy.{legal_more, replay_more}
use Rattle.partition_crew.specs.declared.worked.Worked.{Worked}
use Rattle.partition_crew.specs.declared.worked.Worked.TheVariants.{Finished, Failed, Died, TreeFault as TreeFailed, NoMemory}
use Rattle.partition_crew.specs.Station.{Nature, Station, WorksOn, event_by, given_now}
use Rattle.partition_crew.specs.Work.{HasWorked}
use Rattle.partition_crew.proofs.Tallying.{count_end}
use Rattle.partition_crew.proofs.Starting.{meant_event, start_ready}

-- ---- one event more

are_faithful_more : (compile : Content → Outcome) (o : Opening) (s : State) (events : List Event) (event : Event) → AreFaithful compile o s events
    → IsFaithful compile o (after_all o s events) event
    → AreFaithful compile o s (events ++ event ∷ [])
are_faithful_more compile o s [] event faithful now = (now, tt)
are_faithful_more compile o s (first ∷ events) event faithful now = (faithful.0, are_faithful_more compile o (after o s first) events event faithful.1 now)

pub faithful_more : (compile : Content → Outcome) (o : Opening) (events : List Event) (event : Event) → Faithful compile o events
    → IsFaithful compile o (replay o events) event
    → Faithful compile o (events ++ event ∷ [])
faithful_more compile o events event faithful now = are_faithful_more compile o (start_of o) events event faithful now

-- ---- a start, and what is told of it

module _ (nature : Nature) (o : Opening) (worked : Worked) (old new : Station) (w : WorksOn nature o worked old new) where
  abbrev s : State
  s = replay o old.events

  abbrev started : State
  started = after o s (Start w.place 1)

  abbrev with_start : List Event
  with_start = old.events ++ Start w.place 1 ∷ []

  pub started_is : replay o with_start ≡ started
  started_is = replay_more o old.events (Start w.place 1)

  pub replayed : replay o new.events ≡ after o started (event_by w.place worked)
  replayed = ap (replay o) w.events ∙ replay_more o with_start (event_by w.place worked) ∙ ap (λ (t : State). after o t (event_by w.place worked)) started_is

  pub runs_it : Holds started w.place 1
  runs_it = set_same s.standings 0 (Runs w.place) Idle w.legal.0.idle

  legal_event : (came : Worked) → HasWorked (given_now o old.events w.job) came w.works.before w.works.after → IsLegal o started (event_by w.place came)
  legal_event (Finished twin) done = (runs_it, done.0)
  legal_event (Failed twin) done = (runs_it, done.0)
  legal_event Died done = runs_it
  legal_event TreeFailed done = runs_it
  legal_event NoMemory done = runs_it

  pub legal_works : Legal o old.events → Legal o new.events
  legal_works legal =
      subst (Legal o) (sym w.events)
      (legal_more o with_start (event_by w.place worked) (legal_more o old.events (Start w.place 1) legal w.legal)
      (subst (λ (t : State). IsLegal o t (event_by w.place worked)) (sym started_is) (legal_event worked w.works.came)))

  pub faithful_works : nature.honest → Faithful nature.compile o old.events → Faithful nature.compile o new.events
  faithful_works honest faithful =
      subst (Faithful nature.compile o) (sym w.events)
      (faithful_more nature.compile o with_start (event_by w.place worked) (faithful_more nature.compile o old.events (Start w.place 1) faithful tt)
      (subst (λ (t : State). IsFaithful nature.compile o t (event_by w.place worked)) (sym started_is)
      (meant_event nature.compile o s w.place w.job worked w.here (w.works.meant honest))))

  -- its needs are all built
  pub works_ready : first_open s.fates w.job.needs ≡ None
  works_ready = start_ready o s w.place w.job w.here w.legal.1

  pub counted_works : (test : Event → Bool) → test (Start w.place 1) ≡ false
      → count_by test new.events ≡ count_by test old.events + cond (test (event_by w.place worked)) 1 0
  counted_works test unlike =
      let first = count_end test old.events (Start w.place 1) in
      let next = count_end test with_start (event_by w.place worked) in
      ap (count_by test) w.events ∙ next
      ∙ ap (λ (n : ℕ). n + cond (test (event_by w.place worked)) 1 0) (first ∙ ap (λ (b : Bool). count_by test old.events + cond b 1 0) unlike
      ∙ (omega arith))

  event_starts : (came : Worked) → is_start (event_by w.place came) ≡ false
  event_starts (Finished twin) = refl
  event_starts (Failed twin) = refl
  event_starts Died = refl
  event_starts TreeFailed = refl
  event_starts NoMemory = refl

  pub starts_works : count_by is_start new.events ≡ count_by is_start old.events + 1
  starts_works =
      let first : count_by is_start with_start ≡ count_by is_start old.events + 1 = count_end is_start old.events (Start w.place 1) in
      let next = count_end is_start with_start (event_by w.place worked) in
      ap (count_by is_start) w.events ∙ next ∙ ap (λ (b : Bool). count_by is_start with_start + cond b 1 0) (event_starts worked) ∙ (omega (arith, first))
