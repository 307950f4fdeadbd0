-- The folders of a board, from one story of its core to the next.
use Rattle.std.proofs.Common.{◌≡◌, ℕ, ◌-◌, ◌<◌, false, List, [], ◌∷◌, ◌++◌, length, Option, Some, None, Result, Ok, Err, OnOk, is_err, slice_get, slice_set, refl, sym, ◌∙◌, ap, subst}
use Rattle.compile_model.specs.declared.job.Job.{Job}
use Rattle.tree_store.specs.FolderKnown.{FolderKnown}
use Rattle.partition_core.specs.declared.event.Event.{Event}
use Rattle.partition_core.specs.declared.event.Event.TheVariants.{Keep, Start, Finish, Fail, Skip, Back}
use Rattle.partition_core.specs.declared.event.Standing.TheVariants.{Idle, Runs}
use Rattle.partition_core.specs.State.{Opening, State, needs_at, needs_of, outcomes_now}
use Rattle.partition_core.specs.Steps.{IsLegal, Holds, after}
use Rattle.partition_core.specs.Histories.{Legal}
use Rattle.partition_core.specs.Refusals.{place_of}
use Rattle.partition_core.specs.Story.{Story, state_now, with_event}
use Rattle.partition_core.proofs.Places.{standing_get}
use Rattle.partition_core.proofs.Tidy.{replay_more}
use Rattle.partition_board.specs.Failures.{is_failure}
use Rattle.partition_board.specs.Homes.{AreHome, Belongs, HouseView, IsHoused}
use Rattle.partition_board.specs.Steps.{EndsRun, SuitsEvent}
use Rattle.partition_board.proofs.Failing.{counted_as, failed_more, others_failure}
use Rattle.partition_board.proofs.HomeLemmas.{back_home, fail_home, finish_home, keep_home, skip_home, start_home, start_there}
use Rattle.partition_board.proofs.Seen.{place_within, stands_now, tidy_now}

pub needs_here : (o : Opening) (place : ℕ) (job : Job) → slice_get o.plan.jobs place ≡ Some job → job.needs ≡ needs_at o place
needs_here o place job is = sym (ap needs_of is)

pub start_runs : (old new : Story) (place by : ℕ) → IsLegal old.opening (state_now old) (Start place by)
    → state_now new ≡ after old.opening (state_now old) (Start place by) → Holds (state_now new) place by
start_runs old new place by legal state =
    subst (λ (s : State). Holds s place by) (sym state) (stands_now (state_now old).standings by Idle (Runs place) legal.0.idle)

pub start_within : (old : Story) (place by : ℕ) → IsLegal old.opening (state_now old) (Start place by) → place < length old.opening.plan.jobs
start_within old place by legal = place_within old.opening old.events place legal.0.open_place

pub start_outputs : (old new : Story) (place by : ℕ) → new ≡ with_event old (Start place by) → state_now new ≡ after old.opening (state_now old)
    (Start place by)
    → outcomes_now (state_now old).fates (needs_at old.opening place) ≡ outcomes_now (state_now new).fates (needs_at new.opening place)
start_outputs old new place by story state =
    ap (λ (s : State). outcomes_now s.fates (needs_at old.opening place)) (sym state)
    ∙ ap (λ (s : Story). outcomes_now (state_now new).fates (needs_at s.opening place)) (sym story)

pub on_ok : {T E : Type 0} (r : Result T E) (P : Type 0) → OnOk r P → is_err r ≡ false → P
on_ok (Ok x) P p e = p
on_ok (Err x) P p e = cc

module _ {F : Type 0} (known : F → FolderKnown) where
  belongs_more : (handed : List F) (events : List Event) (event : Event) (place : ℕ) (folder : F) → is_failure place event ≡ false
      → Belongs known handed events place folder → Belongs known handed (events ++ event ∷ []) place folder
  belongs_more handed events event place folder isnt belongs = record {
    own = belongs.own;
    count = counted_as events (events ++ event ∷ []) place (known folder) (sym (failed_more events event place isnt)) belongs.count;
  }

  belongs_other : (handed : List F) (events : List Event) (event : Event) (p : ℕ) (folder : F) → (p ≡ place_of event → ⊥)
      → Belongs known handed events p folder → Belongs known handed (events ++ event ∷ []) p folder
  belongs_other handed events event p folder other belongs =
      belongs_more handed events event p folder (others_failure p event other) belongs

  module _ (old : Story) (house : HouseView F) (legal : Legal old.opening old.events) (housed : IsHoused known old house) where
    abbrev Before : ℕ → F → Type 0
    Before = Belongs known house.handed old.events

    abbrev Later : Event → ℕ → F → Type 0
    Later event = Belongs known house.handed (old.events ++ event ∷ [])

    -- the story goes on, and with it the folders
    housed_then : (event : Event) (homes : List (Option F)) → AreHome known (Later event) old.opening (after old.opening (state_now old) event) homes
        → IsHoused known (with_event old event) (record { handed = house.handed; homes = homes })
    housed_then event homes home = record {
      places = housed.places;
      home = subst (λ (s : State). AreHome known (Later event) old.opening s homes) (sym (replay_more old.opening old.events event)) home;
    }

    pub keep_story : (place by : ℕ) → IsLegal old.opening (state_now old) (Keep place by) → IsHoused known (with_event old (Keep place by)) house
    keep_story place by is = housed_then (Keep place by) house.homes
        (keep_home known Before (Later (Keep place by)) old.opening (state_now old) (tidy_now old.opening old.events legal) house.homes housed.home place by is
        (λ p folder. belongs_more house.handed old.events (Keep place by) p folder refl))

    pub skip_story : (place need by : ℕ) → IsLegal old.opening (state_now old) (Skip place need by)
        → IsHoused known (with_event old (Skip place need by)) house
    skip_story place need by is = housed_then (Skip place need by) house.homes
        (skip_home known Before (Later (Skip place need by)) old.opening (state_now old) (tidy_now old.opening old.events legal) house.homes housed.home
        place need by is
        (λ p folder. belongs_more house.handed old.events (Skip place need by) p folder refl))

    pub start_story : (place by : ℕ) → IsLegal old.opening (state_now old) (Start place by) → place < length old.opening.plan.jobs
        → IsHoused known (with_event old (Start place by)) (record { handed = house.handed; homes = slice_set house.homes place None })
    start_story place by is within = housed_then (Start place by) (slice_set house.homes place None)
        (start_home known Before (Later (Start place by)) old.opening (state_now old) (tidy_now old.opening old.events legal) house.homes housed.home
        place by is within
        (λ p folder. belongs_more house.handed old.events (Start place by) p folder refl))

    pub start_full : (place by : ℕ) → IsLegal old.opening (state_now old) (Start place by) → place < length old.opening.plan.jobs
        → slice_get house.homes place ≡ Some None → ⊥
    start_full place by is within e =
        let there = start_there known Before Before old.opening (state_now old)
        (tidy_now old.opening old.events legal) house.homes housed.home place by is within in
        let folder = there.1 in cc

    pub start_folder : (place by : ℕ) (folder : F) → IsLegal old.opening (state_now old) (Start place by) → place < length old.opening.plan.jobs
        → slice_get house.homes place ≡ Some (Some folder) → Later (Start place by) place folder
    start_folder place by folder is within e =
        let there = start_there known Before Before old.opening (state_now old)
        (tidy_now old.opening old.events legal) house.homes housed.home place by is within in
        let found = there.1 in
        let same : there.0 ≡ folder = cc in
        belongs_more house.handed old.events (Start place by) place folder refl (subst (Before place) same there.2.is)

    -- the folder of a place whose run ends is away
    pub end_away : (event : Event) → EndsRun event → IsLegal old.opening (state_now old) event → slice_get house.homes (place_of event) ≡ Some None
    end_away (Keep place by) ends is = absurd ends
    end_away (Start place by) ends is = absurd ends
    end_away (Finish place by outcome) ends is = (housed.home.away place (by - 1) (standing_get (state_now old).standings by (Runs place) is.0)).0
    end_away (Fail place by outcome) ends is = (housed.home.away place (by - 1) (standing_get (state_now old).standings by (Runs place) is.0)).0
    end_away (Skip place need by) ends is = absurd ends
    end_away (Back place by cause) ends is = (housed.home.away place (by - 1) (standing_get (state_now old).standings by (Runs place) is)).0

    pub end_story : (event : Event) (folder : F) → IsLegal old.opening (state_now old) event → SuitsEvent known old house.handed event folder
        → IsHoused known (with_event old event) (record { handed = house.handed; homes = slice_set house.homes (place_of event) (Some folder) })
    end_story event folder is suits = housed_then event (slice_set house.homes (place_of event) (Some folder)) (home_by event is suits)
      where
        home_by : (event : Event) → IsLegal old.opening (state_now old) event → SuitsEvent known old house.handed event folder
            → AreHome known (Later event) old.opening (after old.opening (state_now old) event) (slice_set house.homes (place_of event) (Some folder))
        home_by (Keep place by) is suits = absurd suits.ends
        home_by (Start place by) is suits = absurd suits.ends
        home_by (Finish place by outcome) is suits =
            finish_home known Before (Later (Finish place by outcome)) old.opening (state_now old) (tidy_now old.opening old.events legal) house.homes
            housed.home place by outcome folder is (belongs_other house.handed old.events (Finish place by outcome))
            (record { own = suits.own; count = suits.count }) suits.holds
        home_by (Fail place by outcome) is suits =
            fail_home known Before (Later (Fail place by outcome)) old.opening (state_now old) (tidy_now old.opening old.events legal) house.homes
            housed.home place by outcome folder is (belongs_other house.handed old.events (Fail place by outcome))
            (record { own = suits.own; count = suits.count }) suits.holds
        home_by (Skip place need by) is suits = absurd suits.ends
        home_by (Back place by cause) is suits =
            back_home known Before (Later (Back place by cause)) old.opening (state_now old) (tidy_now old.opening old.events legal) house.homes
            housed.home place by cause folder is (belongs_other house.handed old.events (Back place by cause))
            (record { own = suits.own; count = suits.count })

-- the same of a core and folders that are these
pub housed_as : {F : Type 0} (known : F → FolderKnown) (old new : Story) (house now : HouseView F) → new ≡ old → now ≡ house → IsHoused known old house
    → IsHoused known new now
housed_as {F} known old new house now story same housed =
    subst (λ (s : Story). IsHoused known s now) (sym story) (subst (λ (h : HouseView F). IsHoused known old h) (sym same) housed)

pub belongs_as : {F : Type 0} (known : F → FolderKnown) (handed others : List F) (events now : List Event) (place : ℕ) (folder : F) → others ≡ handed
    → now ≡ events
    → Belongs known handed events place folder → Belongs known others now place folder
belongs_as {F} known handed others events now place folder same story belongs =
    subst (λ (es : List Event). Belongs known others es place folder) (sym story)
    (subst (λ (fs : List F). Belongs known fs events place folder) (sym same) belongs)
