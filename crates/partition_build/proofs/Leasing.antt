-- A lease, and what may be handed in with it.
use Rattle.std.proofs.Common.{◌≡◌, ◌≢◌, ◌↔◌, Bool, ℕ, zero, suc, ◌-◌, ◌<◌, true, false, inr, List, [], ◌∷◌, length, Option, Some, None, IfSome, IsSome, IsTrue, option_map, slice_get, refl, sym, ◌∙◌, ap, subst, arith}
use Rattle.compile_model.specs.declared.job.Job.{Job}
use Rattle.compile_model.specs.declared.job.Plan.{Plan}
use Rattle.compile_model.specs.declared.outcome.Outcome.{Outcome}
use Rattle.compile_model.specs.declared.outcome.Fate.{Fate}
use Rattle.compile_model.specs.Content.{Content}
use Rattle.build_manifest.specs.MarkOf.{mark_of}
use Rattle.build_manifest.specs.Text.{Spells}
use Rattle.tree_store.specs.declared.holding.Holding.{Holding}
use Rattle.tree_store.specs.FolderKnown.{FolderKnown}
use Rattle.tree_store.specs.Holding.{marked, nothing, only_files}
use Rattle.tree_store.specs.Moment.{Write}
use Rattle.tree_store.proofs.MomentLemmas.{if_told, told_has}
use Rattle.partition_core.specs.declared.event.Event.{Event}
use Rattle.partition_core.specs.declared.event.Standing.TheVariants.{Runs}
use Rattle.partition_core.specs.State.{Opening, State, first_open, missing, needs_at, outcomes_now, standing}
use Rattle.partition_core.specs.Histories.{Legal, replay}
use Rattle.partition_core.proofs.Places.{standing_get}
use Rattle.honest_tree.specs.Given.{Given, outcome_of}
use Rattle.partition_board.specs.declared.lease.Lease.{Lease}
use Rattle.partition_board.specs.Begun.{IsOf}
use Rattle.partition_board.specs.Failures.{IsCounted, has_failed}
use Rattle.partition_board.specs.Holds.{HoldsBuilt}
use Rattle.partition_board.specs.Leases.{IsLeaseOf}
use Rattle.partition_board.specs.Posts.{HoldsPlace, PostView, begun_at, opening_at, state_at}
use Rattle.partition_board.proofs.Seen.{place_within, ready_now, tidy_now}
use Rattle.partition_crew.specs.declared.worked.Worked.{Worked}
use Rattle.partition_crew.specs.declared.worked.Worked.TheVariants.{Finished, Failed, Died, TreeFault, NoMemory}
use Rattle.partition_crew.specs.Work.{HasNeeds, HasWorked, IsMeant, Settles, Touches, given_at, given_by, tree_failed}
use Rattle.partition_crew.specs.Work.Settles.{built, failed}
use Rattle.partition_crew.proofs.Starting.{meant_event, start_each, start_outcomes, start_ready, told_must}
use Rattle.partition_build.specs.Postings.{IsMeantAt, IsTaken, MayHandIn}

-- ---- a place that runs

leased_get : (o : Opening) (seen : List Event) (place by : ℕ) → standing (replay o seen).standings by ≡ Some (Runs place)
    → slice_get (replay o seen).standings (by - 1) ≡ Some (Runs place)
leased_get o seen place by holds = standing_get (replay o seen).standings by (Runs place) holds

pub leased_within : (o : Opening) (seen : List Event) (place by : ℕ) → Legal o seen → standing (replay o seen).standings by ≡ Some (Runs place)
    → place < length o.plan.jobs
leased_within o seen place by legal holds = place_within o seen place ((tidy_now o seen legal).open_place (by - 1) place (leased_get o seen place by holds))

pub leased_ready : (o : Opening) (seen : List Event) (place by : ℕ) → Legal o seen → standing (replay o seen).standings by ≡ Some (Runs place)
    → missing o (replay o seen) place ≡ None
leased_ready o seen place by legal holds = (ready_now o seen legal).ready (by - 1) place (leased_get o seen place by holds)

job_at : (jobs : List Job) (place : ℕ) → place < length jobs → (job : Job) × (slice_get jobs place ≡ Some job)
job_at [] place within = absurd (omega (arith, within))
job_at (job ∷ jobs) zero within = (job, refl)
job_at (job ∷ jobs) (suc place) within = job_at jobs place (omega (arith, within))

pub within_plan : (plan : Plan) (o : Opening) (place : ℕ) → plan ≡ o.plan → place < length o.plan.jobs → place < length plan.jobs
within_plan plan o place same within = subst (λ (p : Plan). place < length p.jobs) (sym same) within

-- what holds of the place's input
from_given : (P : Given → Type 0) (plan : Plan) (place : ℕ) (needs : List Outcome) (job : Job) → slice_get plan.jobs place ≡ Some job
    → IfSome (given_at plan place needs) P → P (given_by job needs)
from_given P plan place needs job is has = subst (λ (found : Option Job). IfSome (option_map (λ (j : Job). given_by j needs) found) P) is has

-- one outcome for each need
pub needs_here : (plan : Plan) (o : Opening) (s : State) (place : ℕ) (needs : List Outcome) → plan ≡ o.plan → missing o s place ≡ None
    → needs ≡ outcomes_now s.fates (needs_at o place) → IfSome (given_at plan place needs) HasNeeds
needs_here plan o s place needs same none given = at (slice_get plan.jobs place) refl
  where
    at : (found : Option Job) → slice_get plan.jobs place ≡ found → IfSome (option_map (λ (j : Job). given_by j needs) found) HasNeeds
    at None is = tt
    at (Some job) is =
        let here : slice_get o.plan.jobs place ≡ Some job = ap (λ (p : Plan). slice_get p.jobs place) (sym same) ∙ is in
        ap length given ∙ ap length (start_outcomes o s place job here) ∙ start_each o s place job here none

-- ---- what the folder holds

made_here : (o : Opening) (fates : List (Option Fate)) (place : ℕ) (job : Job) (needs : List Outcome) (outcome : Outcome) (bytes : List ℕ)
    (held : Holding) → slice_get o.plan.jobs place ≡ Some job → first_open fates job.needs ≡ None → needs ≡ outcomes_now fates job.needs
    → Spells bytes (mark_of job needs outcome) → held ≡ marked bytes (only_files outcome.files) → HoldsBuilt o fates place outcome held
made_here o fates place job needs outcome bytes held here ready given spells is = record {
  files = ap (λ (h : Holding). h.files) is;
  bytes = bytes;
  mark = mark_of job needs outcome;
  stands = ap (λ (h : Holding). h.mark) is;
  reads = spells;
  own = inr (job, here, record { ready = ready; own = ap (λ (ns : List Outcome). mark_of job ns outcome) given });
}

built_here : (o : Opening) (fates : List (Option Fate)) (place : ℕ) (job : Job) (needs : List Outcome) (outcome : Outcome) (folder : FolderKnown)
    (last : Write) → slice_get o.plan.jobs place ≡ Some job → first_open fates job.needs ≡ None → needs ≡ outcomes_now fates job.needs
    → outcome.status ≡ 0 → Settles (given_by job needs) outcome folder last → IfSome folder.held (HoldsBuilt o fates place outcome)
built_here o fates place job needs outcome folder _ here ready given status_0 (built bytes status spells holds) =
    if_told folder.held (λ held told. made_here o fates place job needs outcome bytes held here ready given spells
    (told_has (λ h. h ≡ marked bytes (only_files outcome.files)) folder.held held told holds))
built_here o fates place job needs outcome folder _ here ready given status_0 (failed status files holds) = absurd (status status_0)

failed_here : (given : Given) (outcome : Outcome) (folder : FolderKnown) (last : Write) → (outcome.status ≡ 0 → ⊥)
    → Settles given outcome folder last → IfSome folder.held (λ held. held ≡ nothing)
failed_here given outcome folder _ other (built bytes status spells holds) = absurd (other status)
failed_here given outcome folder _ other (failed status files holds) = holds

-- ---- what may be handed in

counted_same : (events : List Event) (place now : ℕ) (a b : FolderKnown) → now ≡ place → b.faults ≡ a.faults → IsCounted events place a
    → IsCounted events now b
counted_same events place now a b here same count =
    subst (λ (p : ℕ). IsCounted events p b) (sym here)
    (subst (λ (n : ℕ). (n ≢ 0) ↔ IsTrue (has_failed events place)) (sym same) count)

module _ {F : Type 0} (known : F → FolderKnown) (post : PostView F) (plan : Plan) (needs : List Outcome) (old new : Lease F)
    (asked : plan ≡ (opening_at post).plan) (taken : IsTaken known post needs old) (same : (new.place ≡ old.place) × (new.by ≡ old.by)) where
  within : old.place < length (opening_at post).plan.jobs
  within = leased_within (opening_at post) post.seen old.place post.number taken.legal taken.mine.holds

  none : missing (opening_at post) (state_at post) old.place ≡ None
  none = leased_ready (opening_at post) post.seen old.place post.number taken.legal taken.mine.holds

  found : (job : Job) × (slice_get (opening_at post).plan.jobs old.place ≡ Some job)
  found = job_at (opening_at post).plan.jobs old.place within

  in_plan : slice_get plan.jobs old.place ≡ Some found.0
  in_plan = ap (λ (p : Plan). slice_get p.jobs old.place) asked ∙ found.1

  in_opening : slice_get (opening_at post).plan.jobs new.place ≡ Some found.0
  in_opening = ap (slice_get (opening_at post).plan.jobs) same.0 ∙ found.1

  ready : first_open (state_at post).fates found.0.needs ≡ None
  ready = start_ready (opening_at post) (state_at post) old.place found.0 found.1 none

  outcomes : needs ≡ outcomes_now (state_at post).fates found.0.needs
  outcomes = taken.given ∙ start_outcomes (opening_at post) (state_at post) old.place found.0 found.1

  mine : (failed_ : Bool) → Touches (known old.folder) (known new.folder) failed_ → IsLeaseOf known post new
  mine failed_ touches = record {
    by = same.1 ∙ taken.mine.by;
    holds = subst (HoldsPlace post) (sym same.0) taken.mine.holds;
    own = subst (λ (p : ℕ). IsOf known (begun_at post).folders p new.folder) (sym same.0) (record {
      first = taken.mine.own.first;
      here = taken.mine.own.here;
      key = touches.key ∙ taken.mine.own.key;
    });
  }

  count : Touches (known old.folder) (known new.folder) false → IsCounted post.seen new.place (known new.folder)
  count touches = counted_same post.seen old.place new.place (known old.folder) (known new.folder) same.0 (touches.cause.kept refl) taken.count

  pub may_hand : (worked : Worked) → Touches (known old.folder) (known new.folder) (tree_failed worked)
      → IfSome (given_at plan old.place needs) (λ given. HasWorked given worked (known old.folder) (known new.folder)) → MayHandIn known post new worked
  may_hand (Finished twin) touches came =
      let done = from_given (λ given. HasWorked given (Finished twin) (known old.folder) (known new.folder)) plan old.place needs found.0 in_plan came in
      record {
        mine = mine false touches;
        count = count touches;
        holds = built_here (opening_at post) (state_at post).fates new.place found.0 needs twin.event (known new.folder) done.1.last in_opening ready
            outcomes done.0 done.1.settles;
        status = done.0;
        copies = done.1.copies;
      }
  may_hand (Failed twin) touches came =
      let done = from_given (λ given. HasWorked given (Failed twin) (known old.folder) (known new.folder)) plan old.place needs found.0 in_plan came in
      record {
        mine = mine false touches;
        count = count touches;
        holds = failed_here (given_by found.0 needs) twin.event (known new.folder) done.1.last done.0 done.1.settles;
        status = done.0;
        copies = done.1.copies;
      }
  may_hand Died touches came = (mine false touches, count touches)
  may_hand TreeFault touches came = (mine true touches, (λ zero. let up = touches.cause.rose refl in omega (arith, up, zero)))
  may_hand NoMemory touches came = (mine false touches, count touches)

  meant_by : (compile : Content → Outcome) (worked : Worked) → IsMeant (outcome_of compile (given_by found.0 needs)) worked
      → IsMeant (outcome_of compile (given_by found.0 (outcomes_now (state_at post).fates found.0.needs))) worked
  meant_by compile worked is = subst (λ (ns : List Outcome). IsMeant (outcome_of compile (given_by found.0 ns)) worked) outcomes is

  meant_here : (compile : Content → Outcome) (worked : Worked) → IsMeant (outcome_of compile (given_by found.0 needs)) worked
      → IsMeantAt compile post new.place worked
  meant_here compile (Finished twin) is = meant_event compile (opening_at post) (state_at post) new.place found.0 (Finished twin) in_opening
      (meant_by compile (Finished twin) is)
  meant_here compile (Failed twin) is = meant_event compile (opening_at post) (state_at post) new.place found.0 (Failed twin) in_opening
      (meant_by compile (Failed twin) is)
  meant_here compile Died is = tt
  meant_here compile TreeFault is = tt
  meant_here compile NoMemory is = tt

  pub meant_hand : (compile : Content → Outcome) (worked : Worked) → IsSome (known old.folder).held
      → IfSome (known old.folder).held (λ _. IfSome (given_at plan old.place needs) (λ given. IsMeant (outcome_of compile given) worked))
      → IsMeantAt compile post new.place worked
  meant_hand compile worked tells is =
      meant_here compile worked (from_given (λ given. IsMeant (outcome_of compile given) worked) plan old.place needs found.0 in_plan
      (told_must Holding (IfSome (given_at plan old.place needs) (λ given. IsMeant (outcome_of compile given) worked)) (known old.folder).held tells is))
