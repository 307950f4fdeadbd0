-- What was known where a post looked last, later.
use Rattle.std.proofs.Common.{◌≡◌, ℕ, List, [], ◌∷◌, ◌++◌, Bool, Some, sym, ◌∙◌, ap, subst}
use Rattle.std.specs.Prelude.{◌||◌}
use Rattle.std.proofs.lemmas.List.Folds.{list_any-append}
use Rattle.compile_model.specs.declared.outcome.Outcome.{Outcome}
use Rattle.compile_model.specs.Content.{Content}
use Rattle.tree_store.specs.declared.holding.Holding.{Holding}
use Rattle.tree_store.specs.FolderKnown.{FolderKnown}
use Rattle.partition_core.specs.declared.event.Event.{Event}
use Rattle.partition_core.specs.declared.event.Event.TheVariants.{Keep, Start, Finish, Fail, Skip, Back}
use Rattle.partition_core.specs.declared.event.Standing.TheVariants.{Idle, Runs, Ended}
use Rattle.partition_core.specs.State.{Opening, State, standing}
use Rattle.partition_core.specs.Steps.{IsLegal, Holds, after}
use Rattle.partition_core.specs.Histories.{IsFaithful, Legal, replay}
use Rattle.partition_core.specs.Refusals.{by_of, place_of}
use Rattle.partition_core.specs.Story.{Story}
use Rattle.turn_board.specs.Histories.{Continues}
use Rattle.partition_board.specs.Failures.{has_failed, is_failure}
use Rattle.partition_board.specs.Steps.{EndsRun, HoldsAfter, SuitsEvent, standing_after}
use Rattle.partition_board.proofs.Failing.{counted_as}
use Rattle.partition_board.proofs.Holding.{holds_grow, if_weaker}
use Rattle.partition_board.proofs.Seen.{failed_still, grows_seen, meant_now, stands_now, still}

-- of an event that ends a run, what was known where the partition looked last holds later
module _ (o : Opening) (by : ℕ) (seen now : List Event) (legal : Legal o now) (went : Continues by_of by seen now) where
  abbrev past : Story
  past = record { opening = o; events = seen }

  abbrev present : Story
  present = record { opening = o; events = now }

  holds_later : (place b : ℕ) → b ≡ by → Holds (replay o seen) place b → Holds (replay o now) place b
  holds_later place b own is = ap (standing (replay o now).standings) own ∙ still o by seen now legal went ∙ ap (standing (replay o seen).standings)
      (sym own) ∙ is

  runs_by : (event : Event) → EndsRun event → by_of event ≡ by → IsLegal o (replay o seen) event → Holds (replay o seen) (place_of event) by
  runs_by (Keep place b) ends own is = absurd ends
  runs_by (Start place b) ends own is = absurd ends
  runs_by (Finish place b outcome) ends own is = subst (Holds (replay o seen) place) own is.0
  runs_by (Fail place b outcome) ends own is = subst (Holds (replay o seen) place) own is.0
  runs_by (Skip place need b) ends own is = absurd ends
  runs_by (Back place b cause) ends own is = subst (Holds (replay o seen) place) own is

  pub legal_later : (event : Event) → EndsRun event → by_of event ≡ by → IsLegal o (replay o seen) event → IsLegal o (replay o now) event
  legal_later (Keep place b) ends own is = absurd ends
  legal_later (Start place b) ends own is = absurd ends
  legal_later (Finish place b outcome) ends own is = (holds_later place b own is.0, is.1)
  legal_later (Fail place b outcome) ends own is = (holds_later place b own is.0, is.1)
  legal_later (Skip place need b) ends own is = absurd ends
  legal_later (Back place b cause) ends own is = holds_later place b own is

  pub faithful_later : (compile : Content → Outcome) (event : Event) → EndsRun event → by_of event ≡ by → IsLegal o (replay o seen) event
      → IsFaithful compile o (replay o seen) event → IsFaithful compile o (replay o now) event
  faithful_later compile (Keep place b) ends own is meant = tt
  faithful_later compile (Start place b) ends own is meant = tt
  faithful_later compile (Finish place b outcome) ends own is meant =
      meant_now compile o by place outcome seen now legal went (subst (Holds (replay o seen) place) own is.0) meant
  faithful_later compile (Fail place b outcome) ends own is meant =
      meant_now compile o by place outcome seen now legal went (subst (Holds (replay o seen) place) own is.0) meant
  faithful_later compile (Skip place need b) ends own is meant = tt
  faithful_later compile (Back place b cause) ends own is meant = tt

  holds_after : (event : Event) (held : Holding) → HoldsAfter past event held → HoldsAfter present event held
  holds_after (Keep place b) held holds = tt
  holds_after (Start place b) held holds = tt
  holds_after (Finish place b outcome) held holds = holds_grow o (replay o seen).fates (replay o now).fates
      (grows_seen o by seen now legal went) place outcome held holds
  holds_after (Fail place b outcome) held holds = holds
  holds_after (Skip place need b) held holds = tt
  holds_after (Back place b cause) held holds = tt

  pub suits_later : {F : Type 0} (known : F → FolderKnown) (handed : List F) (event : Event) (folder : F) → by_of event ≡ by
      → IsLegal o (replay o seen) event → SuitsEvent known past handed event folder → SuitsEvent known present handed event folder
  suits_later known handed event folder own is suits = record {
    ends = suits.ends;
    own = suits.own;
    count = counted_as (seen ++ event ∷ []) (now ++ event ∷ []) (place_of event) (known folder)
        (list_any-append (is_failure (place_of event)) seen (event ∷ [])
        ∙ ap (λ (b : Bool). b || has_failed (event ∷ []) (place_of event))
        (sym (failed_still o by (place_of event) seen now legal went (runs_by event suits.ends own is)))
        ∙ sym (list_any-append (is_failure (place_of event)) now (event ∷ []))) suits.count;
    holds = if_weaker (HoldsAfter past event) (HoldsAfter present event) (known folder).held (holds_after event) suits.holds;
  }

-- what its partition does after an event that ends a run
pub ended_stands : (o : Opening) (s : State) (event : Event) → EndsRun event → IsLegal o s event
    → standing (after o s event).standings (by_of event) ≡ Some (standing_after event)
ended_stands o s (Keep place by) ends is = absurd ends
ended_stands o s (Start place by) ends is = absurd ends
ended_stands o s (Finish place by outcome) ends is = stands_now s.standings by (Runs place) Idle is.0
ended_stands o s (Fail place by outcome) ends is = stands_now s.standings by (Runs place) Idle is.0
ended_stands o s (Skip place need by) ends is = absurd ends
ended_stands o s (Back place by cause) ends is = stands_now s.standings by (Runs place) Ended is
