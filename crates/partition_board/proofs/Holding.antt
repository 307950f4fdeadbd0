-- What folders hold, while fates are added.
use Rattle.std.proofs.Common.{◌≡◌, ℕ, true, ◌⊎◌, inl, inr, List, Option, Some, None, IfSome, slice_get, refl, sym, ◌∙◌, ap}
use Rattle.compile_model.specs.declared.job.Job.{Job}
use Rattle.compile_model.specs.declared.outcome.Outcome.{Outcome}
use Rattle.compile_model.specs.declared.outcome.Fate.{Fate}
use Rattle.compile_model.specs.declared.outcome.Fate.TheVariants.{Built, Failed as NotBuilt, Skipped}
use Rattle.build_manifest.specs.Mark.{MarkView}
use Rattle.build_manifest.specs.MarkOf.{mark_of}
use Rattle.staleness.specs.declared.kept.Kept.{Kept}
use Rattle.tree_store.specs.declared.holding.Holding.{Holding}
use Rattle.tree_store.proofs.MomentLemmas.{if_told, told_has}
use Rattle.partition_core.specs.State.{Opening, State, at, kept_matches, missing, needs_at, outcomes_now, stands}
use Rattle.partition_board.specs.Holds.{HoldsBuilt, HoldsBy, HoldsKept, WasKept, WasMade}
use Rattle.partition_board.specs.Homes.{Fits, IsStale}
use Rattle.partition_board.proofs.Growing.{Grows, first_grow, outcomes_grow}

-- what holds of a holding holds where one is told
pub if_weaker : (P Q : Holding → Type 0) (told : Option Holding) → ((held : Holding) → P held → Q held) → IfSome told P → IfSome told Q
if_weaker P Q told weaker has = if_told told (λ held is. weaker held (told_has P told held is has))

abbrev Owns : Opening → List (Option Fate) → ℕ → Outcome → MarkView → Type 0
Owns o fates place outcome mark =
    WasKept o fates place (record { mark = mark; outcome = outcome }) ⊎ ((job : Job) × (slice_get o.plan.jobs place ≡ Some job) × WasMade job fates outcome mark)

pub kept_grow : (o : Opening) (fates next : List (Option Fate)) → Grows fates next → (place : ℕ) (kept : Kept) → WasKept o fates place kept
    → WasKept o next place kept
kept_grow o fates next grows place kept was = record {
  entry = was.entry;
  ready = first_grow fates next grows (needs_at o place) was.ready;
  fits = ap (kept_matches (Some kept) (slice_get o.plan.jobs place)) (sym (outcomes_grow fates next grows (needs_at o place) was.ready)) ∙ was.fits;
}

owns_grow : (o : Opening) (fates next : List (Option Fate)) → Grows fates next → (place : ℕ) (outcome : Outcome) (mark : MarkView)
    → Owns o fates place outcome mark
    → Owns o next place outcome mark
owns_grow o fates next grows place outcome mark (inl kept) =
    inl (kept_grow o fates next grows place (record { mark = mark; outcome = outcome }) kept)
owns_grow o fates next grows place outcome mark (inr (job, here, made)) = inr (
  job,
  here,
  record {
    ready = first_grow fates next grows job.needs made.ready;
    own = made.own ∙ ap (λ (needs : List Outcome). mark_of job needs outcome) (outcomes_grow fates next grows job.needs made.ready);
  },
)

pub holds_grow : (o : Opening) (fates next : List (Option Fate)) → Grows fates next → (place : ℕ) (outcome : Outcome) (held : Holding)
    → HoldsBuilt o fates place outcome held
    → HoldsBuilt o next place outcome held
holds_grow o fates next grows place outcome held holds = record {
  files = holds.files;
  bytes = holds.bytes;
  mark = holds.mark;
  stands = holds.stands;
  reads = holds.reads;
  own = owns_grow o fates next grows place outcome holds.mark holds.own;
}

-- a kept mark that stands is that of the job and of what its needs have come to
pub was_kept : (o : Opening) (s : State) (place : ℕ) (kept : Kept) → at o.kept place ≡ Some kept → missing o s place ≡ None → stands o s place ≡ true
    → WasKept o s.fates place kept
was_kept o s place kept is ready stood = record {
  entry = is;
  ready = ready;
  fits = ap (λ (k : Option Kept). kept_matches k (slice_get o.plan.jobs place) (outcomes_now s.fates (needs_at o place))) (sym is) ∙ stood;
}

pub kept_holds : (o : Opening) (fates : List (Option Fate)) (place : ℕ) (kept : Kept) (held : Holding) → WasKept o fates place kept
    → HoldsKept kept held
    → HoldsBuilt o fates place kept.outcome held
kept_holds o fates place kept held was holds = record {
  files = holds.files;
  bytes = holds.bytes;
  mark = kept.mark;
  stands = holds.stands;
  reads = holds.reads;
  own = inl was;
}

-- where a place has a fate, what suits it suits it later
pub holds_by_grow : (o : Opening) (fates next : List (Option Fate)) → Grows fates next → (place : ℕ) (fate : Option Fate) (held : Holding)
    → HoldsBy o fates place fate held
    → HoldsBy o next place fate held
holds_by_grow o fates next grows place None held holds = tt
holds_by_grow o fates next grows place (Some (Built outcome)) held holds = holds_grow o fates next grows place outcome held holds
holds_by_grow o fates next grows place (Some (NotBuilt outcome)) held holds = holds
holds_by_grow o fates next grows place (Some (Skipped need)) held holds = tt

pub stale_grow : (o : Opening) (s now : State) → Grows s.fates now.fates → (place : ℕ) → IsStale o s place → IsStale o now place
stale_grow o s now grows place is = (
  first_grow s.fates now.fates grows (needs_at o place) is.0,
  ap (kept_matches (at o.kept place) (slice_get o.plan.jobs place)) (sym (outcomes_grow s.fates now.fates grows (needs_at o place) is.0)) ∙ is.1,
)

-- what a folder holds suits the same fate later
pub fits_grow : (o : Opening) (s now : State) → Grows s.fates now.fates → (place : ℕ) (fate : Option Fate) (held : Holding) → Fits o s place fate held
    → Fits o now place fate held
fits_grow o s now grows place None held fits = λ kept is.
    elim (fits kept is) [ inl holds ↦ inl holds | inr stale ↦ inr (stale_grow o s now grows place stale) ]
fits_grow o s now grows place (Some fate) held fits = holds_by_grow o s.fates now.fates grows place (Some fate) held fits
