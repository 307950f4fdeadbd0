-- Needs that stand.
use Rattle.std.proofs.Common.{◌≡◌, ℕ, ◌+◌, ◌<◌, ◌≤◌, inl, inr, Bool, true, false, List, length, map, get_or, Option, Some, None, option_map, slice_get, sym, ◌∙◌, ap, subst, arith}
use Rattle.std.specs.Prelude.{◌↔◌, IsTrue}
use Rattle.std.specs.List.{All}
use Rattle.std.specs.Option.{option_and_then}
use Rattle.std.proofs.lemmas.Option.{slice_get-map, slice_get-get_or, slice_get_past}
use Rattle.std.proofs.lemmas.Bool.{cases_eq}
use Rattle.build_manifest.specs.Mark.{Need}
use Rattle.compile_model.specs.declared.job.Job.{Job}
use Rattle.compile_model.specs.Planned.{IsNamed}
use Rattle.staleness.specs.Report.{NeedStands, StandsAt, IsChangedNeed, digest_at}
use Rattle.staleness.specs.Report.IsChangedNeed.{fallen, further, none}

-- what stands for a need
pub told_at : (digests : List (Option (List ℕ))) (places : List ℕ) (k d : ℕ) (e : Option (List ℕ)) → k < length places → get_or places k d < length digests →
    slice_get (map (digest_at digests) places) k ≡ Some (get_or digests (get_or places k d) e)
told_at digests places k d e within inside =
    slice_get-map (digest_at digests) places k
    ∙ ap (option_map (digest_at digests)) (slice_get-get_or places k d within)
    ∙ ap (λ (found : Option (Option (List ℕ))). Some (option_and_then (λ (digest : Option (List ℕ)). digest) found))
    (slice_get-get_or digests (get_or places k d) e inside)

pub stands_here : (apps : List (List ℕ)) (told : List (Option (List ℕ))) (needs : List Need) (index : ℕ) (app : List ℕ) (digest : Option (List ℕ)) →
    slice_get apps index ≡ Some app → slice_get told index ≡ Some digest → NeedStands (slice_get needs index) app digest → StandsAt apps told needs index
stands_here apps told needs index app digest named known stands =
    record { app = app; digest = digest; named = named; known = known; stands = stands }

pub fallen_here : (apps : List (List ℕ)) (told : List (Option (List ℕ))) (needs : List Need) (index : ℕ) (app : List ℕ) (digest : Option (List ℕ)) →
    slice_get apps index ≡ Some app → slice_get told index ≡ Some digest → (NeedStands (slice_get needs index) app digest → ⊥) →
    StandsAt apps told needs index → ⊥
fallen_here apps told needs index app digest named known falls is =
    let e : Some is.app ≡ Some app = sym is.named ∙ named in
    let f : Some is.digest ≡ Some digest = sym is.known ∙ known in
    let same_app : is.app ≡ app = cc in
    let same_digest : is.digest ≡ digest = cc in
    falls
    (subst (λ (d : Option (List ℕ)). NeedStands (slice_get needs index) app d) same_digest
    (subst (λ (a : List ℕ). NeedStands (slice_get needs index) a is.digest) same_app is.stands))

-- one need more stands
pub stands_more : (apps : List (List ℕ)) (told : List (Option (List ℕ))) (needs : List Need) (index : ℕ) → StandsAt apps told needs index →
    ((earlier : ℕ) → earlier < index → StandsAt apps told needs earlier) → (earlier : ℕ) → earlier < index + 1 → StandsAt apps told needs earlier
stands_more apps told needs index here before earlier below =
    elim (cases_eq earlier index) [
      | inl same ↦ subst (StandsAt apps told needs) (sym same) here
      | inr other ↦ before earlier (omega arith)
    ]

-- the mark has no need there, or nothing stands for it
pub no_need : (needs : List Need) (index : ℕ) (app : List ℕ) (digest : Option (List ℕ)) → slice_get needs index ≡ None →
    IsTrue false ↔ NeedStands (slice_get needs index) app digest
no_need needs index app digest past = ((λ e. cc), (λ is. let h : None ≡ Some (is.outputs, app) = sym past ∙ is.marked in cc))

pub no_digest : (needs : List Need) (index : ℕ) (app : List ℕ) (digest : Option (List ℕ)) → digest ≡ None →
    IsTrue false ↔ NeedStands (slice_get needs index) app digest
no_digest needs index app digest empty = ((λ e. cc), (λ is. let h : None ≡ Some is.outputs = sym empty ∙ is.told in cc))

pub one_need : (needs : List Need) (index : ℕ) (app : List ℕ) (digest : Option (List ℕ)) (need : Need) (outputs : List ℕ) (test : Bool) →
    slice_get needs index ≡ Some need → digest ≡ Some outputs → IsTrue test ↔ (need ≡ (outputs, app)) →
    IsTrue test ↔ NeedStands (slice_get needs index) app digest
one_need needs index app digest need outputs test there told is = (
  (λ e. record { outputs = outputs; marked = there ∙ ap Some (is.0 e); told = told }),
  (λ stands.
      let h : Some need ≡ Some (stands.outputs, app) = sym there ∙ stands.marked in
      let g : Some outputs ≡ Some stands.outputs = sym told ∙ stands.told in
      let same : need ≡ (stands.outputs, app) = cc in
      let out : outputs ≡ stands.outputs = cc in
      is.1 (same ∙ ap (λ (o : List ℕ). (o, app)) (sym out))),
)

-- what the loop reads of one need
record Read (job : Job) (digests : List (Option (List ℕ))) (index : ℕ) (app : List ℕ) (digest : Option (List ℕ)) : Type 0 where
  named : slice_get job.need_apps index ≡ Some app
  known : slice_get (map (digest_at digests) job.needs) index ≡ Some digest

reads : (job : Job) (digests : List (Option (List ℕ))) (index : ℕ) (app : List ℕ) (digest : Option (List ℕ)) (apps : List (List ℕ)) (places : List ℕ) →
    apps ≡ job.need_apps → places ≡ job.needs → IsNamed job → All (λ need. need < length digests) job.needs → index < length apps →
    app ≡ get_or apps index app → digest ≡ get_or digests (get_or places index 0) digest → Read job digests index app digest
reads job digests index app digest apps places e f named before within is are =
    let many : index < length job.need_apps = subst (λ (xs : List (List ℕ)). index < length xs) e within in
    let few : index < length job.needs = omega (arith, named) in
    let here : app ≡ get_or job.need_apps index app = subst (λ (xs : List (List ℕ)). app ≡ get_or xs index app) e is in
    let there : digest ≡ get_or digests (get_or job.needs index 0) digest =
    subst (λ (xs : List ℕ). digest ≡ get_or digests (get_or xs index 0) digest) f are in
    record {
      named = slice_get-get_or job.need_apps index app many ∙ ap Some (sym here);
      known = told_at digests job.needs index 0 digest few (before index 0 few) ∙ ap Some (sym there);
    }

-- a need doesn't stand, as a test says
pub fallen_at : (job : Job) (digests : List (Option (List ℕ))) (needs : List Need) (index : ℕ) (app : List ℕ) (digest : Option (List ℕ)) (apps : List (List ℕ))
    (places : List ℕ) (test : Bool) → apps ≡ job.need_apps → places ≡ job.needs → IsNamed job → All (λ need. need < length digests) job.needs →
    index < length apps →
    app ≡ get_or apps index app → digest ≡ get_or digests (get_or places index 0) digest →
    IsTrue test ↔ NeedStands (slice_get needs index) app digest → test ≡ false →
    ((earlier : ℕ) → earlier < index → StandsAt job.need_apps (map (digest_at digests) job.needs) needs earlier) →
    IsChangedNeed job.need_apps (map (digest_at digests) job.needs) needs (Some app)
fallen_at job digests needs index app digest apps places test e f named before within is are tells fails so_far =
    let read = reads job digests index app digest apps places e f named before within is are in
    fallen index app read.named
    (fallen_here job.need_apps (map (digest_at digests) job.needs) needs index app digest read.named read.known
    (λ stands. let holds : test ≡ true = tells.1 stands in let h : true ≡ false = sym holds ∙ fails in cc))
    so_far

-- a need stands, as a test says
pub stands_next : (job : Job) (digests : List (Option (List ℕ))) (needs : List Need) (index : ℕ) (app : List ℕ) (digest : Option (List ℕ))
    (apps : List (List ℕ))
    (places : List ℕ) (test : Bool) → apps ≡ job.need_apps → places ≡ job.needs → IsNamed job → All (λ need. need < length digests) job.needs →
    index < length apps →
    app ≡ get_or apps index app → digest ≡ get_or digests (get_or places index 0) digest →
    IsTrue test ↔ NeedStands (slice_get needs index) app digest → test ≡ true →
    ((earlier : ℕ) → earlier < index → StandsAt job.need_apps (map (digest_at digests) job.needs) needs earlier) →
    (earlier : ℕ) → earlier < index + 1 → StandsAt job.need_apps (map (digest_at digests) job.needs) needs earlier
stands_next job digests needs index app digest apps places test e f named before within is are tells holds so_far =
    let read = reads job digests index app digest apps places e f named before within is are in
    stands_more job.need_apps (map (digest_at digests) job.needs) needs index
    (stands_here job.need_apps (map (digest_at digests) job.needs) needs index app digest read.named read.known (tells.0 holds)) so_far

-- all needs stand
all_stand : (apps : List (List ℕ)) (told : List (Option (List ℕ))) (needs : List Need) (index : ℕ) → length apps ≤ index →
    ((earlier : ℕ) → earlier < index → StandsAt apps told needs earlier) → (earlier : ℕ) → earlier < length apps → StandsAt apps told needs earlier
all_stand apps told needs index ended so_far earlier below = so_far earlier (omega arith)

pub further_need : (job : Job) (told : List (Option (List ℕ))) (needs : List Need) (index : ℕ) (apps : List (List ℕ)) (need : Need) → apps ≡ job.need_apps →
    length apps ≤ index →
    ((earlier : ℕ) → earlier < index → StandsAt job.need_apps told needs earlier) → length apps < length needs → need ≡ get_or needs (length apps) need →
    IsChangedNeed job.need_apps told needs (Some need.1)
further_need job told needs index apps need e ended so_far within is =
    let same : length apps ≡ length job.need_apps = ap length e in
    further need (all_stand job.need_apps told needs index (omega arith) so_far)
    (ap (slice_get needs) (sym same) ∙ slice_get-get_or needs (length apps) need within ∙ ap Some (sym is))

pub no_more_needs : (job : Job) (told : List (Option (List ℕ))) (needs : List Need) (index : ℕ) (apps : List (List ℕ)) → apps ≡ job.need_apps →
    length apps ≤ index →
    ((earlier : ℕ) → earlier < index → StandsAt job.need_apps told needs earlier) → length needs ≤ length apps →
    IsChangedNeed job.need_apps told needs None
no_more_needs job told needs index apps e ended so_far short =
    let same : length apps ≡ length job.need_apps = ap length e in
    none (all_stand job.need_apps told needs index (omega arith) so_far)
    (slice_get_past needs (length job.need_apps) (omega arith))
