-- What a post has seen, and what holds later.
use Rattle.std.proofs.Common.{◌≡◌, ℕ, ◌-◌, ◌+◌, ◌==◌, Bool, true, false, cond, inl, inr, List, [], ◌∷◌, ◌++◌, ◌<◌, length, Option, Some, None, slice_get, slice_set, refl, sym, ◌∙◌, ap, subst, arith, append_assoc, append-nil}
use Rattle.std.proofs.lemmas.Bool.Decides.{nat_tests}
use Rattle.std.proofs.lemmas.Option.{slice_get_within}
use Rattle.compile_model.specs.declared.outcome.Outcome.{Outcome}
use Rattle.compile_model.specs.Content.{Content, content_of}
use Rattle.partition_core.specs.declared.event.BackCause.TheVariants.{Died, Tree, Memory}
use Rattle.partition_core.specs.declared.event.Event.{Event}
use Rattle.partition_core.specs.declared.event.Event.TheVariants.{Keep, Start, Finish, Fail, Skip, Back}
use Rattle.partition_core.specs.declared.event.Standing.{Standing}
use Rattle.partition_core.specs.declared.event.Standing.TheVariants.{Idle, Runs, Ended}
use Rattle.partition_core.specs.State.{Opening, State, start_of, standing, missing, needs_at, needs_of, outcomes_now}
use Rattle.partition_core.specs.Steps.{IsLegal, Holds, after}
use Rattle.partition_core.specs.Histories.{AreLegal, Legal, IsMeant, after_all, replay}
use Rattle.partition_core.specs.Refusals.{by_of}
use Rattle.partition_core.proofs.Places.{get_set, get_replicate, set_other, set_same, standing_get}
use Rattle.partition_core.proofs.Tidy.{Tidy, places_all, tidy_all, tidy_start, tidy_step}
use Rattle.turn_board.specs.Histories.{Continues, made_by}
use Rattle.partition_board.specs.Failures.{has_failed, is_failure}
use Rattle.partition_board.proofs.Failing.{failed_more, others_failure}
use Rattle.partition_board.proofs.Growing.{Grows, first_grow, grows_all, grows_step, outcomes_grow}

pub after_append : (o : Opening) (s : State) (xs ys : List Event) → after_all o s (xs ++ ys) ≡ after_all o (after_all o s xs) ys
after_append o s [] ys = refl
after_append o s (x ∷ xs) ys = after_append o (after o s x) xs ys

legal_parts : (o : Opening) (s : State) (xs ys : List Event) → AreLegal o s (xs ++ ys) → AreLegal o s xs × AreLegal o (after_all o s xs) ys
legal_parts o s [] ys legal = (tt, legal)
legal_parts o s (x ∷ xs) ys legal = let rest = legal_parts o (after o s x) xs ys legal.1 in ((legal.0, rest.0), rest.1)

-- another partition does something else
stand_other : (standings : List Standing) (by b : ℕ) (now was : Standing) → standing standings b ≡ Some was → (b ≡ by → ⊥) → standing
    (slice_set standings (b - 1) now) by ≡ standing standings by
stand_other standings by b now was acts apart = by_both (b == 0) (by == 0) refl refl acts
  where
    by_both : (zb zby : Bool) → (b == 0) ≡ zb → (by == 0) ≡ zby → cond zb None (slice_get standings (b - 1)) ≡ Some was → cond zby None
        (slice_get (slice_set standings (b - 1) now) (by - 1)) ≡ cond zby None (slice_get standings (by - 1))
    by_both true zby eb eby e = cc
    by_both false true eb eby e = refl
    by_both false false eb eby e = set_other standings (b - 1) (by - 1) now (λ same. apart (grind (arith, nat_tests)))

-- an event of another partition leaves what this one does
step_other : (o : Opening) (s : State) (by : ℕ) (event : Event) → IsLegal o s event → (by_of event ≡ by → ⊥) → standing
    (after o s event).standings by ≡ standing s.standings by
step_other o s by (Keep place b) legal apart = refl
step_other o s by (Start place b) legal apart = stand_other s.standings by b (Runs place) Idle legal.0.idle apart
step_other o s by (Finish place b outcome) legal apart = stand_other s.standings by b Idle (Runs place) legal.0 apart
step_other o s by (Fail place b outcome) legal apart = stand_other s.standings by b Idle (Runs place) legal.0 apart
step_other o s by (Skip place need b) legal apart = refl
step_other o s by (Back place b cause) legal apart = stand_other s.standings by b Ended (Runs place) legal apart

not_made : (event : Event) (events : List Event) (by : ℕ) → made_by by_of by (event ∷ events) ≡ 0 → (by_of event ≡ by → ⊥) × (made_by by_of by events ≡ 0)
not_made event events by e = by_test (by_of event == by) refl e
  where
    by_test : (test : Bool) → (by_of event == by) ≡ test → cond test 1 0 + made_by by_of by events ≡ 0 → (by_of event ≡ by → ⊥) × (made_by by_of by events ≡ 0)
    by_test true is h = absurd (omega arith)
    by_test false is h = ((λ same. grind (arith, nat_tests)), omega arith)

steps_other : (o : Opening) (s : State) (by : ℕ) (events : List Event) → AreLegal o s events → made_by by_of by events ≡ 0 → standing
    (after_all o s events).standings by ≡ standing s.standings by
steps_other o s by [] legal none = refl
steps_other o s by (event ∷ events) legal none =
    let parts = not_made event events by none in
    steps_other o (after o s event) by events legal.1 parts.1 ∙ step_other o s by event legal.0 parts.0

-- where the history went on by others' events alone, the partition does what it did
pub still : (o : Opening) (by : ℕ) (seen now : List Event) → Legal o now → Continues by_of by seen now → standing (replay o now).standings by ≡ standing
    (replay o seen).standings by
still o by seen now legal went =
    let parts = legal_parts o (start_of o) seen went.0 (subst (λ (es : List Event). Legal o es) went.1 legal) in
    ap (λ (es : List Event). standing (replay o es).standings by) went.1
    ∙ ap (λ (s : State). standing s.standings by) (after_append o (start_of o) seen went.0)
    ∙ steps_other o (replay o seen) by went.0 parts.1 went.2

pub tidy_now : (o : Opening) (events : List Event) → Legal o events → Tidy (replay o events)
tidy_now o events legal = tidy_all o (start_of o) events (tidy_start o) legal

-- what had a fate as far as was seen has it later
pub grows_seen : (o : Opening) (by : ℕ) (seen now : List Event) → Legal o now → Continues by_of by seen now → Grows (replay o seen).fates (replay o now).fates
grows_seen o by seen now legal went =
    let parts = legal_parts o (start_of o) seen went.0 (subst (λ (es : List Event). Legal o es) went.1 legal) in
    subst (λ (s : State). Grows (replay o seen).fates s.fates) (sym (ap (λ (es : List Event). replay o es) went.1 ∙ after_append o (start_of o) seen went.0))
    (grows_all o (replay o seen) went.0 (tidy_now o seen parts.0) parts.1)

-- what runs has all its needs built
pub record Ready (o : Opening) (s : State) : Type 0 where
  pub ready : (i place : ℕ) → slice_get s.standings i ≡ Some (Runs place) → missing o s place ≡ None

ready_grows : (o : Opening) (s now : State) → Grows s.fates now.fates → Ready o s → (now.standings ≡ s.standings) → Ready o now
ready_grows o s now grows was same = record {
  ready = λ i p runs. first_grow s.fates now.fates grows (needs_at o p) (was.ready i p (ap (λ (ss : List Standing). slice_get ss i) (sym same) ∙ runs));
}

ready_left : (o : Opening) (s now : State) (b : ℕ) (new : Standing) → Grows s.fates now.fates → Ready o s → now.standings ≡ slice_set s.standings b new
    → ((p : ℕ) → new ≡ Runs p → ⊥) → Ready o now
ready_left o s now b new grows was stood nothing = record {
  ready = λ i p runs. elim (get_set s.standings b i new (Runs p) (ap (λ (ss : List Standing). slice_get ss i) (sym stood) ∙ runs)) [
    | inl same ↦ absurd (nothing p same.1)
    | inr other ↦ first_grow s.fates now.fates grows (needs_at o p) (was.ready i p other.1)
  ];
}

idle_not : (p : ℕ) → Idle ≡ Runs p → ⊥
idle_not p e = cc

ended_not : (p : ℕ) → Ended ≡ Runs p → ⊥
ended_not p e = cc

ready_step : (o : Opening) (s : State) → Tidy s → Ready o s → (event : Event) → IsLegal o s event → Ready o (after o s event)
ready_step o s tidy was (Keep place by) legal = ready_grows o s (after o s (Keep place by)) (grows_step o s tidy (Keep place by) legal) was refl
ready_step o s tidy was (Start place by) legal = record {
  ready = λ i p runs. elim (get_set s.standings (by - 1) i (Runs place) (Runs p) runs) [
    | inl same ↦ (let e : place ≡ p = let h = same.1 in cc in subst (λ (q : ℕ). missing o s q ≡ None) e legal.1)
    | inr other ↦ was.ready i p other.1
  ];
}
ready_step o s tidy was (Finish place by outcome) legal = ready_left o s (after o s (Finish place by outcome)) (by - 1) Idle
    (grows_step o s tidy (Finish place by outcome) legal) was refl idle_not
ready_step o s tidy was (Fail place by outcome) legal = ready_left o s (after o s (Fail place by outcome)) (by - 1) Idle
    (grows_step o s tidy (Fail place by outcome) legal) was refl idle_not
ready_step o s tidy was (Skip place need by) legal = ready_grows o s (after o s (Skip place need by)) (grows_step o s tidy (Skip place need by) legal) was refl
ready_step o s tidy was (Back place by cause) legal = ready_left o s (after o s (Back place by cause)) (by - 1) Ended
    (grows_step o s tidy (Back place by cause) legal) was refl ended_not

ready_all : (o : Opening) (s : State) (events : List Event) → Tidy s → Ready o s → AreLegal o s events → Ready o (after_all o s events)
ready_all o s [] tidy was legal = was
ready_all o s (event ∷ events) tidy was legal = ready_all o (after o s event) events (tidy_step o s tidy event legal.0)
    (ready_step o s tidy was event legal.0) legal.1

pub ready_now : (o : Opening) (events : List Event) → Legal o events → Ready o (replay o events)
ready_now o events legal = ready_all o (start_of o) events (tidy_start o)
    (record { ready = λ i p runs. absurd (idle_not p (get_replicate o.partitions i Idle (Runs p) runs)) }) legal

pub legal_seen : (o : Opening) (by : ℕ) (seen now : List Event) → Legal o now → Continues by_of by seen now → Legal o seen
legal_seen o by seen now legal went = (legal_parts o (start_of o) seen went.0 (subst (λ (es : List Event). Legal o es) went.1 legal)).0

-- an outcome that a place's input meant when its partition last looked is what it means now
pub meant_now : (compile : Content → Outcome) (o : Opening) (by place : ℕ) (outcome : Outcome) (seen now : List Event) → Legal o now
    → Continues by_of by seen now → Holds (replay o seen) place by → IsMeant compile o (replay o seen) place outcome → IsMeant compile o
    (replay o now) place outcome
meant_now compile o by place outcome seen now legal went holds meant = λ job is.
    let before = legal_seen o by seen now legal went in
    let none = (ready_now o seen before).ready (by - 1) place (standing_get (replay o seen).standings by (Runs place) holds) in
    let same = outcomes_grow (replay o seen).fates (replay o now).fates (grows_seen o by seen now legal went) (needs_at o place) none in
    let needs : needs_at o place ≡ job.needs = ap needs_of is in
    meant job is ∙ ap (λ (os : List Outcome). compile (content_of job os))
    (ap (outcomes_now (replay o seen).fates) (sym needs) ∙ same ∙ ap (outcomes_now (replay o now).fates) needs)

made_append : (by : ℕ) (xs ys : List Event) → made_by by_of by (xs ++ ys) ≡ made_by by_of by xs + made_by by_of by ys
made_append by [] ys = omega arith
made_append by (x ∷ xs) ys = omega (arith, made_append by xs ys)

pub goes_on : (by : ℕ) (seen mid now : List Event) → Continues by_of by seen mid → Continues by_of by mid now → Continues by_of by seen now
goes_on by seen mid now first then_ = (
  first.0 ++ then_.0,
  then_.1 ∙ ap (λ (es : List Event). es ++ then_.0) first.1 ∙ append_assoc seen first.0 then_.0,
  made_append by first.0 then_.0 ∙ (let a = first.2 in let b = then_.2 in omega arith),
)

pub went_nothing : (by : ℕ) (seen : List Event) → Continues by_of by seen seen
went_nothing by seen = ([], sym (append-nil seen), refl)

-- what a partition does after it was set
pub stands_now : (standings : List Standing) (by : ℕ) (was now : Standing) → standing standings by ≡ Some was → standing
    (slice_set standings (by - 1) now) by ≡ Some now
stands_now standings by was now is = by_zero (by == 0) is
  where
    found : slice_get standings (by - 1) ≡ Some was
    found = standing_get standings by was is

    by_zero : (zeroth : Bool) → cond zeroth None (slice_get standings (by - 1)) ≡ Some was → cond zeroth None
        (slice_get (slice_set standings (by - 1) now) (by - 1)) ≡ Some now
    by_zero true e = cc
    by_zero false e = set_same standings (by - 1) now was found

pub place_within : (o : Opening) (events : List Event) (place : ℕ) → slice_get (replay o events).fates place ≡ Some None → place < length o.plan.jobs
place_within o events place none =
    let h = slice_get_within (replay o events).fates place None none in
    let l = places_all o events in
    omega arith

pub goes_on_as : (by me : ℕ) (seen mid now : List Event) → me ≡ by → Continues by_of by seen mid → Continues by_of me mid now → Continues by_of by seen now
goes_on_as by me seen mid now same first then_ = goes_on by seen mid now first (subst (λ (n : ℕ). Continues by_of n mid now) same then_)

-- ---- a place that runs

-- while the partition runs the place, no event of another one gives that place back
no_failure : (o : Opening) (s : State) (place by : ℕ) (event : Event) → Tidy s → Holds s place by → IsLegal o s event → (by_of event ≡ by → ⊥)
    → is_failure place event ≡ false
no_failure o s place by (Keep p b) tidy holds legal apart = refl
no_failure o s place by (Start p b) tidy holds legal apart = refl
no_failure o s place by (Finish p b outcome) tidy holds legal apart = refl
no_failure o s place by (Fail p b outcome) tidy holds legal apart = refl
no_failure o s place by (Skip p need b) tidy holds legal apart = refl
no_failure o s place by (Back p b Died) tidy holds legal apart = refl
no_failure o s place by (Back p b Memory) tidy holds legal apart = refl
no_failure o s place by (Back p b Tree) tidy holds legal apart = others_failure place (Back p b Tree) (λ same. apart (one_runner s place by b tidy holds
    (subst (λ (q : ℕ). Holds s q b) (sym same) legal)))
  where
    numbered_from : (zeroth : Bool) (found : Option Standing) (now : Standing) → cond zeroth None found ≡ Some now → zeroth ≡ false
    numbered_from true found now e = cc
    numbered_from false found now e = refl

    one_runner : (s : State) (place by b : ℕ) → Tidy s → Holds s place by → Holds s place b → b ≡ by
    one_runner s place by b tidy mine other =
        let same : b - 1 ≡ by - 1 = tidy.once (b - 1) (by - 1) place (standing_get s.standings b (Runs place) other)
        (standing_get s.standings by (Runs place) mine) in
        let some : (by == 0) ≡ false = numbered_from (by == 0) (slice_get s.standings (by - 1)) (Runs place) mine in
        let also : (b == 0) ≡ false = numbered_from (b == 0) (slice_get s.standings (b - 1)) (Runs place) other in
        grind (arith, nat_tests)

no_failures : (o : Opening) (s : State) (place by : ℕ) (before events : List Event) → Tidy s → Holds s place by → AreLegal o s events
    → made_by by_of by events ≡ 0 → has_failed (before ++ events) place ≡ has_failed before place
no_failures o s place by before [] tidy holds legal none = ap (λ (es : List Event). has_failed es place) (append-nil before)
no_failures o s place by before (event ∷ events) tidy holds legal none =
    let parts = not_made event events by none in
    ap (λ (es : List Event). has_failed es place) (sym (append_assoc before (event ∷ []) events))
    ∙ no_failures o (after o s event) place by (before ++ event ∷ []) events (tidy_step o s tidy event legal.0)
    (step_other o s by event legal.0 parts.0 ∙ holds) legal.1 parts.1
    ∙ failed_more before event place (no_failure o s place by event tidy holds legal.0 parts.0)

-- so it has failed as often as the partition has seen
pub failed_still : (o : Opening) (by place : ℕ) (seen now : List Event) → Legal o now → Continues by_of by seen now → Holds (replay o seen) place by
    → has_failed now place ≡ has_failed seen place
failed_still o by place seen now legal went holds =
    let parts = legal_parts o (start_of o) seen went.0 (subst (λ (es : List Event). Legal o es) went.1 legal) in
    ap (λ (es : List Event). has_failed es place) went.1
    ∙ no_failures o (replay o seen) place by seen went.0 (tidy_now o seen parts.0) holds parts.1 went.2
