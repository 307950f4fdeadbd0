-- The folders of places, between two steps.
use Rattle.std.proofs.Common.{◌≡◌, ℕ, inl, inr, false, List, length, Option, Some, None, IfSome, slice_get, slice_set, refl, sym, ◌∙◌, ap, subst}
use Rattle.std.proofs.lemmas.Bool.{cases_eq}
use Rattle.compile_model.specs.declared.job.Job.{Job}
use Rattle.compile_model.specs.declared.outcome.Outcome.{Outcome}
use Rattle.compile_model.specs.declared.outcome.Fate.{Fate}
use Rattle.compile_model.specs.declared.outcome.Fate.TheVariants.{Built, Failed as NotBuilt, Skipped}
use Rattle.build_manifest.specs.MarkOf.{mark_of}
use Rattle.build_manifest.specs.Text.{Spells}
use Rattle.staleness.specs.declared.kept.Kept.{Kept}
use Rattle.tree_store.specs.declared.holding.Holding.{Holding}
use Rattle.tree_store.specs.FolderKnown.{FolderKnown}
use Rattle.tree_store.specs.Holding.{marked, nothing, only_files}
use Rattle.tree_store.specs.Moment.{Write}
use Rattle.tree_store.proofs.MomentLemmas.{if_told, told_has}
use Rattle.partition_core.specs.State.{Opening, at, first_open, kept_matches, needs_at, outcomes_now}
use Rattle.partition_core.proofs.Places.{also_there}
use Rattle.honest_tree.specs.Given.{Given}
use Rattle.partition_board.specs.Holds.{HoldsBuilt, HoldsKept, WasKept}
use Rattle.partition_crew.specs.Station.{AreHome, IsHome, IsLeftNow}
use Rattle.partition_crew.specs.Work.{Settles, Touches, given_by}
use Rattle.partition_crew.specs.Work.Settles.{built, failed}
use Rattle.partition_board.proofs.Holding.{holds_grow, kept_grow, kept_holds}
use Rattle.partition_board.proofs.Growing.{Grows, at_open, at_other, at_set, first_grow, grows_set, outcomes_grow}

-- ---- what holds stays, while fates are added

left_grow : (o : Opening) (fates next : List (Option Fate)) → Grows fates next → (place : ℕ) (fate : Option Fate) (first now : FolderKnown)
    → IsLeftNow o fates place fate first now
    → IsLeftNow o next place fate first now
left_grow o fates next grows place None first now left = left
left_grow o fates next grows place (Some (Built outcome)) first now left =
    if_told now.held (λ held is. holds_grow o fates next grows place outcome held (told_has (HoldsBuilt o fates place outcome) now.held held is left))
left_grow o fates next grows place (Some (NotBuilt outcome)) first now left = left
left_grow o fates next grows place (Some (Skipped need)) first now left = left

home_grow : (o : Opening) (fates next : List (Option Fate)) → Grows fates next → (place : ℕ) (first now : FolderKnown) → at next place ≡ at fates place
    → IsHome o fates place first now
    → IsHome o next place first now
home_grow o fates next grows place first now same home = record {
  key = home.key;
  faults = home.faults;
  left = subst (λ (fate : Option Fate). IsLeftNow o next place fate first now) (sym same)
      (left_grow o fates next grows place (at fates place) first now home.left);
}

-- a place without a fate has the folder that it had
pub home_open : (o : Opening) (fates : List (Option Fate)) (place : ℕ) (first now : FolderKnown) → slice_get fates place ≡ Some None
    → IsHome o fates place first now → now ≡ first
home_open o fates place first now is home = subst (λ (fate : Option Fate). IsLeftNow o fates place fate first now) (at_open fates place is) home.left

-- one place gets its fate
pub homes_settled : (o : Opening) (fates : List (Option Fate)) (place : ℕ) (fate : Fate) (first last now : List FolderKnown)
    → slice_get fates place ≡ Some None → AreHome o fates first last
    → length now ≡ length last → ((p : ℕ) → (p ≡ place → ⊥) → slice_get now p ≡ slice_get last p)
    → ((old new : FolderKnown) → slice_get first place ≡ Some old → slice_get last place ≡ Some old → slice_get now place ≡ Some new
    → IsHome o (slice_set fates place (Some fate)) place old new)
    → AreHome o (slice_set fates place (Some fate)) first now
homes_settled o fates place fate first last now is homes long others here = record {
  long = long ∙ homes.long;
  each = λ p old new was has. elim (cases_eq p place) [
    | inl same ↦
        let there = also_there first last p old (sym homes.long) was in
        let open_here : slice_get fates p ≡ Some None = ap (slice_get fates) same ∙ is in
        let mid : slice_get last p ≡ Some old = there.1 ∙ ap (λ (f : FolderKnown). Some f)
        (home_open o fates p old there.0 open_here (homes.each p old there.0 was there.1)) in
        subst (λ (q : ℕ). IsHome o (slice_set fates place (Some fate)) q old new) (sym same)
        (here old new (ap (slice_get first) (sym same) ∙ was) (ap (slice_get last) (sym same) ∙ mid) (ap (slice_get now) (sym same) ∙ has))
    | inr other ↦
        home_grow o fates (slice_set fates place (Some fate)) (grows_set fates place (Some fate) is) p old new (at_other fates place p (Some fate) other)
        (homes.each p old new was (sym (others p other) ∙ has))
  ];
}

-- ---- the place that got it

-- its outcome was kept
pub kept_home : (o : Opening) (fates : List (Option Fate)) (place : ℕ) (kept : Kept) (folder : FolderKnown) → slice_get fates place ≡ Some None
    → WasKept o fates place kept
    → IfSome folder.held (HoldsKept kept) → IsHome o (slice_set fates place (Some (Built kept.outcome))) place folder folder
kept_home o fates place kept folder open_place was holds =
    let next = slice_set fates place (Some (Built kept.outcome)) in
    let still = kept_grow o fates next (grows_set fates place (Some (Built kept.outcome)) open_place) place kept was in
    record {
      key = refl;
      faults = refl;
      left = subst (λ (fate : Option Fate). IsLeftNow o next place fate folder folder) (sym (at_set fates place (Some (Built kept.outcome)) open_place))
          (if_told folder.held (λ held told. kept_holds o next place kept held still (told_has (HoldsKept kept) folder.held held told holds)));
    }

pub skipped_home : (o : Opening) (fates : List (Option Fate)) (place need : ℕ) (folder : FolderKnown) → slice_get fates place ≡ Some None
    → IsHome o (slice_set fates place (Some (Skipped need))) place folder folder
skipped_home o fates place need folder open_place = record {
  key = refl;
  faults = refl;
  left = subst (λ (fate : Option Fate). IsLeftNow o (slice_set fates place (Some (Skipped need))) place fate folder folder)
      (sym (at_set fates place (Some (Skipped need)) open_place)) refl;
}

made_holds : (o : Opening) (fates : List (Option Fate)) (place : ℕ) (job : Job) (outcome : Outcome) (bytes : List ℕ) (held : Holding)
    → slice_get fates place ≡ Some None
    → slice_get o.plan.jobs place ≡ Some job → first_open fates job.needs ≡ None → Spells bytes (mark_of job (outcomes_now fates job.needs) outcome)
    → held ≡ marked bytes (only_files outcome.files) → HoldsBuilt o (slice_set fates place (Some (Built outcome))) place outcome held
made_holds o fates place job outcome bytes held open_place here ready spells is =
    let next = slice_set fates place (Some (Built outcome)) in
    let grows = grows_set fates place (Some (Built outcome)) open_place in
    record {
      files = ap (λ (h : Holding). h.files) is;
      bytes = bytes;
      mark = mark_of job (outcomes_now fates job.needs) outcome;
      stands = ap (λ (h : Holding). h.mark) is;
      reads = spells;
      own = inr (
        job,
        here,
        record {
          ready = first_grow fates next grows job.needs ready;
          own = ap (λ (needs : List Outcome). mark_of job needs outcome) (outcomes_grow fates next grows job.needs ready);
        },
      );
    }

-- it was built
pub built_home : (o : Opening) (fates : List (Option Fate)) (place : ℕ) (job : Job) (outcome : Outcome) (before after : FolderKnown)
    → slice_get fates place ≡ Some None
    → slice_get o.plan.jobs place ≡ Some job → first_open fates job.needs ≡ None → outcome.status ≡ 0 → (last : Write)
    → Settles (given_by job (outcomes_now fates job.needs)) outcome after last
    → Touches before after false → IsHome o (slice_set fates place (Some (Built outcome))) place before after
built_home o fates place job outcome before after open_place here ready zero last settles touches = record {
  key = touches.key;
  faults = touches.cause.kept refl;
  left = subst (λ (fate : Option Fate). IsLeftNow o (slice_set fates place (Some (Built outcome))) place fate before after)
      (sym (at_set fates place (Some (Built outcome)) open_place)) (at last settles);
}
  where
    at : (last : Write) → Settles (given_by job (outcomes_now fates job.needs)) outcome after last
        → IfSome after.held (HoldsBuilt o (slice_set fates place (Some (Built outcome))) place outcome)
    at _ (built bytes status spells holds) =
        if_told after.held (λ held told. made_holds o fates place job outcome bytes held open_place here ready spells
        (told_has (λ h. h ≡ marked bytes (only_files outcome.files)) after.held held told holds))
    at _ (failed status files holds) = absurd (status zero)

-- it failed
pub failed_home : (o : Opening) (fates : List (Option Fate)) (place : ℕ) (given : Given) (outcome : Outcome) (before after : FolderKnown)
    → slice_get fates place ≡ Some None
    → (outcome.status ≡ 0 → ⊥) → (last : Write) → Settles given outcome after last → Touches before after false
    → IsHome o (slice_set fates place (Some (NotBuilt outcome))) place before after
failed_home o fates place given outcome before after open_place other last settles touches = record {
  key = touches.key;
  faults = touches.cause.kept refl;
  left = subst (λ (fate : Option Fate). IsLeftNow o (slice_set fates place (Some (NotBuilt outcome))) place fate before after)
      (sym (at_set fates place (Some (NotBuilt outcome)) open_place)) (at last settles);
}
  where
    at : (last : Write) → Settles given outcome after last → IfSome after.held (λ held. held ≡ nothing)
    at _ (built bytes status spells holds) = absurd (other status)
    at _ (failed status files holds) = holds
