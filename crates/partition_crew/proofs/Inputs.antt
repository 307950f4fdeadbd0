-- The inputs of a plan, and what stays honest for them.
use Rattle.std.proofs.Common.{◌≡◌, ℕ, zero, suc, inl, inr, List, [], ◌∷◌, ◌++◌, filter_map, Option, Some, None, is_none, IfSome, cond, slice_get, Contains, refl, sym, ◌∙◌, ap, subst, arith}
use Rattle.std.specs.List.{cons_option}
use Rattle.std.proofs.lemmas.Bool.{cases_eq}
use Rattle.compile_model.specs.declared.job.Job.{Job}
use Rattle.compile_model.specs.declared.outcome.Outcome.{Outcome}
use Rattle.compile_model.specs.declared.outcome.Fate.{Fate}
use Rattle.compile_model.specs.Content.{Content}
use Rattle.compile_model.specs.Seq.{seq, outcomes_of}
use Rattle.tree_store.specs.FolderKnown.{FolderKnown, StopsIn}
use Rattle.tree_store.proofs.MomentLemmas.{stops_end, stops_then}
use Rattle.partition_core.specs.State.{Opening, first_open, needs_of, outcomes_now}
use Rattle.partition_core.specs.Histories.{Agrees, replay}
use Rattle.partition_core.proofs.Needs.{all_built, all_outcomes}
use Rattle.partition_core.proofs.Places.{set_other, set_same}
use Rattle.honest_tree.specs.Given.{Given}
use Rattle.honest_tree.specs.Honest.{IsHonest}
use Rattle.honest_tree.proofs.HonestLemmas.{more_holding}
use Rattle.partition_crew.specs.declared.worked.Worked.{Worked}
use Rattle.partition_crew.specs.Build.{StayFor, input_by, inputs_of}
use Rattle.partition_crew.specs.Station.{Nature, Station, WorksOn, given_now}
use Rattle.partition_crew.specs.Work.{StaysHonest, given_by}
use Rattle.partition_crew.proofs.Stopping.{stops_wider}

pub among_more : (one : Given) (known : List Given) (given : Given) → Contains known given → Contains (one ∷ known) given
among_more one known given c = (suc c.0, omega (arith, c.1), c.2)

-- what is among the later ones is among all
pub among_later : (known more : List Given) (given : Given) → Contains more given → Contains (known ++ more) given
among_later [] more given c = c
among_later (one ∷ known) more given c = among_more one (known ++ more) given (among_later known more given c)

pub among_filtered : (find : Job → Option Given) (jobs : List Job) (place : ℕ) (job : Job) (given : Given) → slice_get jobs place ≡ Some job
    → find job ≡ Some given → Contains (filter_map find jobs) given
among_filtered find [] place job given is found = cc
among_filtered find (one ∷ jobs) zero job given is found =
    let same : one ≡ job = cc in
    let head : filter_map find (one ∷ jobs) ≡ given ∷ filter_map find jobs = ap (λ (o : Option Given). cons_option o (filter_map find jobs))
    (ap find same ∙ found) in
    subst (λ (all : List Given). Contains all given) (sym head) (0, omega arith, refl)
among_filtered find (one ∷ jobs) (suc place) job given is found = at (find one) (among_filtered find jobs place job given is found)
  where
    at : (o : Option Given) → Contains (filter_map find jobs) given → Contains (cons_option o (filter_map find jobs)) given
    at None c = c
    at (Some other) c = among_more other (filter_map find jobs) given c

-- the input of a job that is started is one of the plan's
input_now : (compile : Content → Outcome) (jobs : List Job) (fates : List (Option Fate)) (place : ℕ) (job : Job) → Agrees fates (seq compile jobs)
    → slice_get jobs place ≡ Some job
    → first_open fates job.needs ≡ None → Contains (inputs_of compile jobs) (given_by job (outcomes_now fates job.needs))
input_now compile jobs fates place job agrees here ready =
    let all = seq compile jobs in
    among_filtered (input_by all) jobs place job (given_by job (outcomes_now fates job.needs)) here
    (ap (λ (first : Option ℕ). cond (is_none first) (Some (given_by job (outcomes_of all job.needs))) None) (all_built fates all agrees job.needs ready)
    ∙ ap (λ (needs : List Outcome). Some (given_by job needs)) (sym (all_outcomes fates all agrees job.needs ready)))

-- a folder that stays honest for one input more, where that is among those known
stays_among : (compile : Content → Outcome) (known : List Given) (given : Given) (before after : FolderKnown) → Contains known given
    → StaysHonest compile given before after
    → IfSome before.held (IsHonest compile known) → StopsIn (IsHonest compile known) before after
stays_among compile known given before after among stays honest =
    stops_wider (IsHonest compile (given ∷ known)) (IsHonest compile known) before after
    (λ image. more_holding compile (given ∷ known) known image (within among)) (stays.stops known honest)
  where
    within : Contains known given → (other : Given) → Contains (given ∷ known) other → Contains known other
    within among other (zero, below, is) = subst (Contains known) is among
    within among other (suc place, below, is) = (place, omega (arith, below), is)

-- one place was worked on
pub stay_worked : (nature : Nature) (o : Opening) (worked : Worked) (first old new : Station) (w : WorksOn nature o worked old new)
    → Agrees (replay o old.events).fates (seq nature.compile o.plan.jobs)
    → nature.honest → StayFor nature.compile (inputs_of nature.compile o.plan.jobs) first.folders old.folders
    → StayFor nature.compile (inputs_of nature.compile o.plan.jobs) first.folders new.folders
stay_worked nature o worked first old new w agrees honest stay = record {
  each = λ p a b was has known before. elim (cases_eq p w.place) [
    | inl same ↦
        let inputs : List Given = inputs_of nature.compile o.plan.jobs in
        let all : List Given = known ++ inputs in
        let mid : FolderKnown = w.works.before in
        let there : slice_get old.folders p ≡ Some mid = ap (slice_get old.folders) same ∙ w.works.there in
        let put : slice_get new.folders p ≡ Some w.works.after =
        ap (slice_get new.folders) same ∙ ap (λ (fs : List FolderKnown). slice_get fs w.place) w.works.folders
        ∙ set_same old.folders w.place w.works.after mid w.works.there in
        let got : w.works.after ≡ b = let e : Some w.works.after ≡ Some b = sym put ∙ has in cc in
        let so_far : StopsIn (IsHonest nature.compile all) a mid = stay.each p a mid was there known before in
        let ready : first_open (replay o old.events).fates w.job.needs ≡ None = ap
        (λ (job : Option Job). first_open (replay o old.events).fates (needs_of job)) (sym w.here) ∙ w.legal.1 in
        let among : Contains all (given_now o old.events w.job) =
        among_later known inputs (given_now o old.events w.job) (input_now nature.compile o.plan.jobs
        (replay o old.events).fates w.place w.job agrees w.here ready) in
        subst (λ (f : FolderKnown). StopsIn (IsHonest nature.compile all) a f) got
        (stops_then (IsHonest nature.compile all) a mid w.works.after so_far
        (stays_among nature.compile all (given_now o old.events w.job) mid w.works.after among (w.works.stays honest)
        (stops_end (IsHonest nature.compile all) a mid so_far)))
    | inr other ↦
        stay.each p a b was
        (sym (ap (λ (fs : List FolderKnown). slice_get fs p) w.works.folders ∙ set_other old.folders w.place p w.works.after other) ∙ has) known before
  ];
}
