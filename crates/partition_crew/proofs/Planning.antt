-- What holds of the jobs of a plan.
use Rattle.std.proofs.Common.{◌≡◌, ◌≢◌, ◌<◌, ℕ, suc, List, [], ◌∷◌, length, slice_get, get_or, filter_map, Option, Some, None, IfSome, option_map, refl, sym, ◌∙◌, ap, subst, arith}
use Rattle.std.specs.List.{All, AllPairs, cons_option}
use Rattle.std.proofs.lemmas.List.Elements.{All-cons, All-head, All-nil, All-tail, All-get_or}
use Rattle.std.proofs.lemmas.List.Kept.{AllPairs-cons}
use Rattle.std.proofs.lemmas.Option.{get_or_from_slice_get, slice_get_read, slice_get_within}
use Rattle.compile_model.specs.declared.job.Job.{Job}
use Rattle.compile_model.specs.declared.job.Plan.{Plan}
use Rattle.compile_model.specs.declared.outcome.Outcome.{Outcome}
use Rattle.compile_model.specs.Planned.{ArePlanned, IsNamed, IsSound, app_at}
use Rattle.build_manifest.specs.MarkOf.{AppsDiffer}
use Rattle.honest_tree.specs.Given.{Given}
use Rattle.partition_crew.specs.Work.{HasNeeds, given_at, given_by}

tail_pairs : {X : Type 0} (R : X → X → Type 0) (x : X) (xs : List X) → AllPairs R (x ∷ xs) → AllPairs R xs
tail_pairs R x xs pairs i j d before below = pairs (suc i) (suc j) d (omega (arith, before)) (omega (arith, below))

head_pairs : {X : Type 0} (R : X → X → Type 0) (x : X) (xs : List X) → AllPairs R (x ∷ xs) → All (R x) xs
head_pairs R x xs pairs k d below = pairs 0 (suc k) d (omega arith) (omega (arith, below))

abbrev Apart : Job → Job → Type 0
Apart one other = one.app ≢ other.app

-- the app of a later job differs from that of an earlier one
later_app : (jobs : List Job) → AllPairs Apart jobs → (i j : ℕ) (app other : List ℕ) → i < j → app_at jobs i ≡ Some app → app_at jobs j ≡ Some other
    → app ≢ other
later_app jobs apart i j app other before is also = at (slice_get jobs i) (slice_get jobs j) refl refl is also
  where
    at : (one two : Option Job) → slice_get jobs i ≡ one → slice_get jobs j ≡ two → option_map (λ (job : Job). job.app) one ≡ Some app
        → option_map (λ (job : Job). job.app) two ≡ Some other → app ≢ other
    at None two e f is also = cc
    at (Some one) None e f is also = cc
    at (Some one) (Some two) e f is also = λ same.
        let within = slice_get_within jobs j two f in
        let differ = apart i j one before within in
        let first : get_or jobs i one ≡ one = get_or_from_slice_get jobs i one one e in
        let second : get_or jobs j one ≡ two = get_or_from_slice_get jobs j two one f in
        let a : one.app ≡ app = cc in
        let b : two.app ≡ other = cc in
        differ (ap (λ (job : Job). job.app) first ∙ a ∙ same ∙ sym b ∙ ap (λ (job : Job). job.app) (sym second))

differs_later : (jobs : List Job) → AllPairs Apart jobs → (need : ℕ) (app : List ℕ) → app_at jobs need ≡ Some app → (needs : List ℕ)
    → All (λ later. need < later) needs
    → All (λ other. app ≢ other) (filter_map (app_at jobs) needs)
differs_later jobs apart need app is [] later = All-nil (λ other. app ≢ other)
differs_later jobs apart need app is (next ∷ needs) later =
    at (app_at jobs next) refl (differs_later jobs apart need app is needs (All-tail (λ later. need < later) next needs later))
  where
    at : (found : Option (List ℕ)) → app_at jobs next ≡ found → All (λ other. app ≢ other) (filter_map (app_at jobs) needs)
        → All (λ other. app ≢ other) (cons_option found (filter_map (app_at jobs) needs))
    at None e rest = rest
    at (Some other) e rest =
        All-cons (λ other. app ≢ other) other (filter_map (app_at jobs) needs)
        (later_app jobs apart need next app other (All-head (λ later. need < later) next needs later) is e) rest

apps_differ : (jobs : List Job) → AllPairs Apart jobs → (needs : List ℕ) → AllPairs (λ earlier later. earlier < later) needs
    → AppsDiffer (filter_map (app_at jobs) needs)
apps_differ jobs apart [] ordered = λ i j d before below. absurd (omega (arith, below))
apps_differ jobs apart (need ∷ needs) ordered =
    at (app_at jobs need) refl (apps_differ jobs apart needs (tail_pairs (λ earlier later. earlier < later) need needs ordered))
  where
    at : (found : Option (List ℕ)) → app_at jobs need ≡ found → AppsDiffer (filter_map (app_at jobs) needs)
        → AppsDiffer (cons_option found (filter_map (app_at jobs) needs))
    at None e rest = rest
    at (Some app) e rest =
        AllPairs-cons (λ one other. one ≢ other) app (filter_map (app_at jobs) needs)
        (differs_later jobs apart need app e needs (head_pairs (λ earlier later. earlier < later) need needs ordered)) rest

pub planned_differ : (jobs : List Job) (place : ℕ) (job : Job) → ArePlanned jobs → slice_get jobs place ≡ Some job → AppsDiffer job.need_apps
planned_differ jobs place job planned is =
    let stand = planned.needs place job is in
    subst AppsDiffer (sym stand.apps) (apps_differ jobs planned.apart job.needs stand.in_order)

pub planned_named : (jobs : List Job) (place : ℕ) (job : Job) → ArePlanned jobs → slice_get jobs place ≡ Some job → IsNamed job
planned_named jobs place job planned is =
    (subst IsSound (get_or_from_slice_get jobs place job job is) (All-get_or IsSound jobs place job (slice_get_within jobs place job is) planned.sound)).named

-- the job that is read at a place
pub job_here : (items jobs : List Job) (place : ℕ) (job : Job) → items ≡ jobs → place < length jobs → job ≡ get_or items place job
    → slice_get jobs place ≡ Some job
job_here items jobs place job same within is = slice_get_read jobs (length jobs) place job refl within (is ∙ ap (λ (js : List Job). get_or js place job) same)

given_here : (plan : Plan) (place : ℕ) (needs : List Outcome) (job : Job) → slice_get plan.jobs place ≡ Some job
    → given_at plan place needs ≡ Some (given_by job needs)
given_here plan place needs job is = ap (option_map (λ (j : Job). given_by j needs)) is

-- what holds of the job there with these outcomes holds of the place's input
pub for_given : (P : Given → Type 0) (plan : Plan) (place : ℕ) (needs : List Outcome) (job : Job) → slice_get plan.jobs place ≡ Some job
    → P (given_by job needs)
    → IfSome (given_at plan place needs) P
for_given P plan place needs job is has = subst (λ (o : Option Given). IfSome o P) (sym (given_here plan place needs job is)) has

pub has_needs : (plan : Plan) (place : ℕ) (needs : List Outcome) (job : Job) → slice_get plan.jobs place ≡ Some job
    → IfSome (given_at plan place needs) HasNeeds
    → length needs ≡ length job.needs
has_needs plan place needs job is has = subst (λ (o : Option Given). IfSome o HasNeeds) (given_here plan place needs job is) has
