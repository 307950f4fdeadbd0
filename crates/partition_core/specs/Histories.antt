-- Histories: legal ones, what they lead to, and what is asked of the outcomes in them.
use Rattle.std.specs.Prelude.{◌≡◌, ℕ, List, [], ◌∷◌, Option, Some, None, slice_get, IsTrue}
use Rattle.compile_model.specs.declared.job.Job.{Job}
use Rattle.compile_model.specs.declared.outcome.Outcome.{Outcome}
use Rattle.compile_model.specs.declared.outcome.Fate.{Fate}
use Rattle.compile_model.specs.Content.{Content, content_of}
use Rattle.compile_model.specs.Seq.{seq, first_unbuilt, outcomes_of}
use Rattle.staleness.specs.declared.kept.Kept.{Kept}
use Rattle.staleness.specs.Matching.{matches}
use Rattle.partition_core.specs.declared.event.Event.{Event}
use Rattle.partition_core.specs.declared.event.Event.TheVariants.{Keep, Start, Finish, Fail, Skip, Back}
use Rattle.partition_core.specs.State.{Opening, State, start_of, at, outcomes_now}
use Rattle.partition_core.specs.Steps.{IsLegal, after}

-- each event is legal where it comes
abbrev pub AreLegal : Opening → State → List Event → Type 0
AreLegal o s [] = Unit {0}
AreLegal o s (event ∷ events) = IsLegal o s event × AreLegal o (after o s event) events

abbrev pub Legal : Opening → List Event → Type 0
Legal o events = AreLegal o (start_of o) events

abbrev pub after_all : Opening → State → List Event → State
after_all o s [] = s
after_all o s (event ∷ events) = after_all o (after o s event) events

-- the last state of a history
abbrev pub replay : Opening → List Event → State
replay o events = after_all o (start_of o) events

-- the outcome is what the place's input means
abbrev pub IsMeant : (Content → Outcome) → Opening → State → ℕ → Outcome → Type 0
IsMeant compile o s place outcome = (job : Job) → slice_get o.plan.jobs place ≡ Some job → outcome ≡ compile (content_of job (outcomes_now s.fates job.needs))

-- a place that was compiled has the outcome that its input means
abbrev pub IsFaithful : (Content → Outcome) → Opening → State → Event → Type 0
IsFaithful compile o s (Keep place by) = Unit {0}
IsFaithful compile o s (Start place by) = Unit {0}
IsFaithful compile o s (Finish place by outcome) = IsMeant compile o s place outcome
IsFaithful compile o s (Fail place by outcome) = IsMeant compile o s place outcome
IsFaithful compile o s (Skip place need by) = Unit {0}
IsFaithful compile o s (Back place by cause) = Unit {0}

abbrev pub AreFaithful : (Content → Outcome) → Opening → State → List Event → Type 0
AreFaithful compile o s [] = Unit {0}
AreFaithful compile o s (event ∷ events) = IsFaithful compile o s event × AreFaithful compile o (after o s event) events

abbrev pub Faithful : (Content → Outcome) → Opening → List Event → Type 0
Faithful compile o events = AreFaithful compile o (start_of o) events

-- each kept outcome has status 0, and one whose mark is that of its place's input, one after another, is that input's
pub record Sound (compile : Content → Outcome) (o : Opening) : Type 0 where
  pub status : (place : ℕ) (kept : Kept) → at o.kept place ≡ Some kept → kept.outcome.status ≡ 0
  pub same : (place : ℕ) (kept : Kept) (job : Job) → at o.kept place ≡ Some kept → slice_get o.plan.jobs place ≡ Some job →
      first_unbuilt (seq compile o.plan.jobs) job.needs ≡ None → IsTrue (matches kept.mark job (outcomes_of (seq compile o.plan.jobs) job.needs)) →
      kept.outcome ≡ compile (content_of job (outcomes_of (seq compile o.plan.jobs) job.needs))

-- each place that has a fate has this one
abbrev pub Agrees : List (Option Fate) → List Fate → Type 0
Agrees fates all = (place : ℕ) (fate : Fate) → at fates place ≡ Some fate → slice_get all place ≡ Some fate
