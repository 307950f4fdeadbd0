-- Fates that are added to.
use Rattle.std.proofs.Common.{◌≡◌, ℕ, inl, inr, cond, List, [], ◌∷◌, length, Option, Some, None, is_some, option_map, slice_get, slice_set, refl, sym, ◌∙◌, ap, arith}
use Rattle.std.specs.List.{cons_option}
use Rattle.std.specs.Option.{option_and_then}
use Rattle.std.proofs.lemmas.Bool.{cases_eq}
use Rattle.compile_model.specs.declared.outcome.Outcome.{Outcome}
use Rattle.compile_model.specs.declared.outcome.Fate.{Fate}
use Rattle.compile_model.specs.declared.outcome.Fate.TheVariants.{Built, Failed, Skipped}
use Rattle.compile_model.specs.Seq.{built_outcome}
use Rattle.staleness.specs.declared.kept.Kept.{Kept}
use Rattle.partition_core.specs.declared.event.Event.{Event}
use Rattle.partition_core.specs.declared.event.Event.TheVariants.{Keep, Start, Finish, Fail, Skip, Back}
use Rattle.partition_core.specs.State.{Opening, State, at, built_at, first_open, outcomes_now}
use Rattle.partition_core.specs.Steps.{IsLegal, after}
use Rattle.partition_core.specs.Histories.{AreLegal, after_all}
use Rattle.partition_core.proofs.Exact.{acts_on}
use Rattle.partition_core.proofs.Needs.{head_built, rest_built}
use Rattle.partition_core.proofs.Places.{set_other, set_same}
use Rattle.partition_core.proofs.Tidy.{Tidy, tidy_step}

pub at_set : (fates : List (Option Fate)) (place : ℕ) (fate : Option Fate) → slice_get fates place ≡ Some None → at (slice_set fates place fate) place ≡ fate
at_set fates place fate is = ap (option_and_then (λ (x : Option Fate). x)) (set_same fates place fate None is)

pub at_other : (fates : List (Option Fate)) (place p : ℕ) (fate : Option Fate) → (p ≡ place → ⊥) → at (slice_set fates place fate) p ≡ at fates p
at_other fates place p fate other = ap (option_and_then (λ (x : Option Fate). x)) (set_other fates place p fate other)

pub at_open : (fates : List (Option Fate)) (place : ℕ) → slice_get fates place ≡ Some None → at fates place ≡ None
at_open fates place is = ap (option_and_then (λ (x : Option Fate). x)) is

-- what has a fate keeps it
abbrev pub Grows : List (Option Fate) → List (Option Fate) → Type 0
Grows fates next = (place : ℕ) (fate : Fate) → at fates place ≡ Some fate → at next place ≡ Some fate

pub grows_set : (fates : List (Option Fate)) (place : ℕ) (fate : Option Fate) → slice_get fates place ≡ Some None → Grows fates (slice_set fates place fate)
grows_set fates place fate is p found has =
    elim (cases_eq p place) [
      | inl same ↦ let clash : None ≡ Some found = sym (ap (at fates) same ∙ at_open fates place is) ∙ has in cc
      | inr other ↦ at_other fates place p fate other ∙ has
    ]

built_grow_at : (fates next : List (Option Fate)) → Grows fates next → (place : ℕ) (fate : Option Fate) → at fates place ≡ fate → (o : Outcome)
    → option_and_then built_outcome fate ≡ Some o
    → built_at next place ≡ Some o
built_grow_at fates next grows place None is o built = cc
built_grow_at fates next grows place (Some fate) is o built = ap (option_and_then built_outcome) (grows place fate is) ∙ built

built_grow : (fates next : List (Option Fate)) → Grows fates next → (place : ℕ) (o : Outcome) → built_at fates place ≡ Some o → built_at next place ≡ Some o
built_grow fates next grows place o built = built_grow_at fates next grows place (at fates place) refl o built

-- needs that are all built stay so, with the same outcomes
pub first_grow : (fates next : List (Option Fate)) → Grows fates next → (needs : List ℕ) → first_open fates needs ≡ None → first_open next needs ≡ None
first_grow fates next grows [] e = refl
first_grow fates next grows (need ∷ needs) e =
    let built = head_built (built_at fates need) (first_open fates needs) need e in
    ap (λ (o : Option Outcome). cond (is_some o) (first_open next needs) (Some need)) (built_grow fates next grows need built.0 built.1)
    ∙ first_grow fates next grows needs (rest_built (built_at fates need) (first_open fates needs) need e)

pub outcomes_grow : (fates next : List (Option Fate)) → Grows fates next → (needs : List ℕ) → first_open fates needs ≡ None
    → outcomes_now fates needs ≡ outcomes_now next needs
outcomes_grow fates next grows [] e = refl
outcomes_grow fates next grows (need ∷ needs) e =
    let built = head_built (built_at fates need) (first_open fates needs) need e in
    ap (λ (o : Option Outcome). cons_option o (outcomes_now fates needs)) (built.1 ∙ sym (built_grow fates next grows need built.0 built.1))
    ∙ ap (λ (rest : List Outcome). cons_option (built_at next need) rest)
    (outcomes_grow fates next grows needs (rest_built (built_at fates need) (first_open fates needs) need e))

-- one outcome for each need, where they are all built
pub one_each : (fates : List (Option Fate)) (needs : List ℕ) → first_open fates needs ≡ None → length (outcomes_now fates needs) ≡ length needs
one_each fates [] e = refl
one_each fates (need ∷ needs) e =
    let built = head_built (built_at fates need) (first_open fates needs) need e in
    let rest = one_each fates needs (rest_built (built_at fates need) (first_open fates needs) need e) in
    ap (λ (o : Option Outcome). length (cons_option o (outcomes_now fates needs))) built.1 ∙ (omega arith)

-- ---- a history adds fates

pub grows_step : (o : Opening) (s : State) → Tidy s → (event : Event) → IsLegal o s event → Grows s.fates (after o s event).fates
grows_step o s tidy (Keep place by) legal = grows_set s.fates place (option_map (λ (k : Kept). Built k.outcome) (at o.kept place)) legal.0.open_place
grows_step o s tidy (Start place by) legal = λ p fate has. has
grows_step o s tidy (Finish place by outcome) legal = grows_set s.fates place (Some (Built outcome)) (acts_on o s tidy (Finish place by outcome) legal)
grows_step o s tidy (Fail place by outcome) legal = grows_set s.fates place (Some (Failed outcome)) (acts_on o s tidy (Fail place by outcome) legal)
grows_step o s tidy (Skip place need by) legal = grows_set s.fates place (Some (Skipped need)) legal.0.open_place
grows_step o s tidy (Back place by cause) legal = λ p fate has. has

pub grows_all : (o : Opening) (s : State) (events : List Event) → Tidy s → AreLegal o s events → Grows s.fates (after_all o s events).fates
grows_all o s [] tidy legal = λ p fate has. has
grows_all o s (event ∷ events) tidy legal = λ p fate has.
    grows_all o (after o s event) events (tidy_step o s tidy event legal.0) legal.1 p fate (grows_step o s tidy event legal.0 p fate has)
