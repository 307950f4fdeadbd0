-- Compiled places that have their fates.
use Rattle.std.proofs.Common.{◌≡◌, ℕ, ◌+◌, ◌≤◌, inl, inr, Bool, true, false, not, ◌&&◌, List, length, Option, Some, None, is_some, is_none, slice_get, slice_set, sym, ◌∙◌, ap}
use Rattle.std.proofs.lemmas.Bool.{and_parts, cases_eq}
use Rattle.compile_model.specs.declared.outcome.Outcome.{Outcome}
use Rattle.compile_model.specs.declared.outcome.Fate.{Fate}
use Rattle.compile_model.specs.Content.{Content}
use Rattle.compile_model.specs.Seq.{seq, first_unbuilt, outcomes_of}
use Rattle.partition_core.specs.State.{Opening, State, at, kept_matches, missing, needs_at, stands}
use Rattle.partition_core.specs.Histories.{Agrees}
use Rattle.partition_core.specs.Counts.{count_below, is_compiled}
use Rattle.partition_core.proofs.CountsBelow.{count_le, count_less}
use Rattle.partition_core.proofs.Needs.{all_outcomes, first_since}
use Rattle.partition_crew.specs.Station.{is_covered}
use Rattle.partition_board.proofs.Growing.{at_other}

-- ---- which places are covered

covered_at : (compile : Content → Outcome) (o : Opening) (fates next : List (Option Fate)) (p : ℕ) → at next p ≡ at fates p
    → is_covered compile o next p ≡ true → is_covered compile o fates p ≡ true
covered_at compile o fates next p same e = ap (λ (fate : Option Fate). is_compiled compile o p && is_some fate) (sym same) ∙ e

-- a place that isn't compiled covers nothing more
pub covered_no_more : (compile : Content → Outcome) (o : Opening) (fates : List (Option Fate)) (place : ℕ) (fate : Option Fate)
    → (is_compiled compile o place ≡ true → ⊥)
    → count_below (is_covered compile o (slice_set fates place fate)) (length o.plan.jobs) ≤ count_below (is_covered compile o fates) (length o.plan.jobs)
covered_no_more compile o fates place fate uncompiled =
    count_le (is_covered compile o (slice_set fates place fate)) (is_covered compile o fates) (length o.plan.jobs)
    (λ p below e. elim (cases_eq p place) [
      | inl same ↦ absurd (uncompiled (ap (is_compiled compile o) (sym same)
          ∙ (and_parts (is_compiled compile o p) (is_some (at (slice_set fates place fate) p)) e).0))
      | inr other ↦ covered_at compile o fates (slice_set fates place fate) p (at_other fates place p fate other) e
    ])

pub covered_one_more : (compile : Content → Outcome) (o : Opening) (fates : List (Option Fate)) (place : ℕ) (fate : Option Fate)
    → count_below (is_covered compile o (slice_set fates place fate)) (length o.plan.jobs) ≤ count_below (is_covered compile o fates) (length o.plan.jobs) + 1
covered_one_more compile o fates place fate =
    count_less (is_covered compile o (slice_set fates place fate)) (is_covered compile o fates) (length o.plan.jobs) place
    (λ p below other e. covered_at compile o fates (slice_set fates place fate) p (at_other fates place p fate other) e)

pub kept_uncompiled : (compile : Content → Outcome) (o : Opening) (s : State) (place : ℕ) → Agrees s.fates (seq compile o.plan.jobs) → missing o s place ≡ None
    → stands o s place ≡ true
    → is_compiled compile o place ≡ true → ⊥
kept_uncompiled compile o s place agrees ready match compiled =
    let all = seq compile o.plan.jobs in
    let a : Bool = is_none (first_unbuilt all (needs_at o place)) in
    let same : kept_matches (at o.kept place) (slice_get o.plan.jobs place) (outcomes_of all (needs_at o place)) ≡ true =
    ap (kept_matches (at o.kept place) (slice_get o.plan.jobs place)) (sym (all_outcomes s.fates all agrees (needs_at o place) ready)) ∙ match in
    let no : not (kept_matches (at o.kept place) (slice_get o.plan.jobs place) (outcomes_of all (needs_at o place))) ≡ true =
    (and_parts (is_none (first_unbuilt all (needs_at o place))) (not (kept_matches (at o.kept place) (slice_get o.plan.jobs place)
    (outcomes_of all (needs_at o place)))) compiled).1 in
    let clash : false ≡ true = ap not (sym same) ∙ no in cc

pub skipped_uncompiled : (compile : Content → Outcome) (o : Opening) (s : State) (place need : ℕ) → Agrees s.fates (seq compile o.plan.jobs)
    → missing o s place ≡ Some need
    → is_some (at s.fates need) ≡ true → is_compiled compile o place ≡ true → ⊥
skipped_uncompiled compile o s place need agrees open_need fate compiled =
    let all = seq compile o.plan.jobs in
    let first : first_unbuilt all (needs_at o place) ≡ Some need = first_since s.fates all agrees (needs_at o place) need fate open_need in
    let yes : is_none (first_unbuilt all (needs_at o place)) ≡ true =
    (and_parts (is_none (first_unbuilt all (needs_at o place))) (not (kept_matches (at o.kept place) (slice_get o.plan.jobs place)
    (outcomes_of all (needs_at o place)))) compiled).0 in
    let clash : false ≡ true = ap (λ (n : Option ℕ). is_none n) (sym first) ∙ yes in cc
