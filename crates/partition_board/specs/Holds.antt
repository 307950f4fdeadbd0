-- What the folder of a place holds, before a build and after it.
use Rattle.std.specs.Prelude.{◌≡◌, ◌⊎◌, ℕ, List, length, map, slice_get, Option, Some, None, IfSome, IsTrue}
use Rattle.compile_model.specs.declared.job.Job.{Job}
use Rattle.compile_model.specs.declared.outcome.Outcome.{Outcome}
use Rattle.compile_model.specs.declared.outcome.Fate.{Fate}
use Rattle.compile_model.specs.declared.outcome.Fate.TheVariants.{Built, Failed as NotBuilt, Skipped}
use Rattle.build_manifest.specs.Mark.{MarkView}
use Rattle.build_manifest.specs.MarkOf.{mark_of}
use Rattle.build_manifest.specs.Text.{Spells}
use Rattle.staleness.specs.declared.kept.Kept.{Kept}
use Rattle.tree_store.specs.declared.holding.Holding.{Holding}
use Rattle.tree_store.specs.FolderKnown.{FolderKnown}
use Rattle.tree_store.specs.Holding.{nothing}
use Rattle.partition_core.specs.State.{Opening, at, first_open, kept_matches, needs_at, outcomes_now}

-- ---- before

-- the files of a kept outcome, and its mark
pub record HoldsKept (kept : Kept) (held : Holding) : Type 0 where
  pub files : held.files ≡ kept.outcome.files
  pub bytes : List ℕ
  pub stands : held.mark ≡ Some bytes
  pub reads : Spells bytes kept.mark

-- one folder for each job, none of which has failed, and where something is kept of a job its folder holds it
pub record AreReady (o : Opening) (folders : List FolderKnown) : Type 0 where
  pub places : length folders ≡ length o.plan.jobs
  pub fresh : (place : ℕ) (folder : FolderKnown) → slice_get folders place ≡ Some folder → folder.faults ≡ 0
  pub kept : (place : ℕ) (folder : FolderKnown) (kept : Kept) → slice_get folders place ≡ Some folder → at o.kept place ≡ Some kept
      → IfSome folder.held (HoldsKept kept)

-- ---- after

-- this was kept of the place, and its mark is that of the job and of what its needs have come to
pub record WasKept (o : Opening) (fates : List (Option Fate)) (place : ℕ) (kept : Kept) : Type 0 where
  pub entry : at o.kept place ≡ Some kept
  pub ready : first_open fates (needs_at o place) ≡ None
  pub fits : IsTrue (kept_matches (Some kept) (slice_get o.plan.jobs place) (outcomes_now fates (needs_at o place)))

-- the mark is that of the job, of what its needs have come to, and of the outcome
pub record WasMade (job : Job) (fates : List (Option Fate)) (outcome : Outcome) (mark : MarkView) : Type 0 where
  pub ready : first_open fates job.needs ≡ None
  pub own : mark ≡ mark_of job (outcomes_now fates job.needs) outcome

-- the files of what was built, and a mark of it, which was kept with it or made for it
pub record HoldsBuilt (o : Opening) (fates : List (Option Fate)) (place : ℕ) (outcome : Outcome) (held : Holding) : Type 0 where
  pub files : held.files ≡ outcome.files
  pub bytes : List ℕ
  pub mark : MarkView
  pub stands : held.mark ≡ Some bytes
  pub reads : Spells bytes mark
  pub own : WasKept o fates place (record { mark = mark; outcome = outcome }) ⊎ ((job : Job) × (slice_get o.plan.jobs place ≡ Some job) × WasMade job fates outcome mark)

-- what the folder of a place holds by its fate, where it tells
abbrev pub HoldsBy : Opening → List (Option Fate) → ℕ → Option Fate → Holding → Type 0
HoldsBy o fates place None held = Unit {0}
HoldsBy o fates place (Some (Built outcome)) held = HoldsBuilt o fates place outcome held
HoldsBy o fates place (Some (NotBuilt outcome)) held = held ≡ nothing
HoldsBy o fates place (Some (Skipped need)) held = Unit {0}

-- the folders are still those of their builds, in their order, and hold what became of their places
pub record AreLeft (o : Opening) (fates : List (Option Fate)) (old new : List FolderKnown) : Type 0 where
  pub keys : map (λ folder. folder.key) new ≡ map (λ folder. folder.key) old
  pub each : (place : ℕ) (folder : FolderKnown) → slice_get new place ≡ Some folder → IfSome folder.held (HoldsBy o fates place (at fates place))
