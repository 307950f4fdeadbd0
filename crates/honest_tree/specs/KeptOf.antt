-- What is kept of a tree for a plan.
use Rattle.std.specs.Prelude.{◌≡◌, ℕ, List, length, slice_get, Option, Some, None}
use Rattle.mx_base.specs.declared.file.File.{File}
use Rattle.mx_base.specs.Listing.{rows_of}
use Rattle.compile_model.specs.declared.job.Job.{Job}
use Rattle.compile_model.specs.declared.job.Plan.{Plan}
use Rattle.compile_model.specs.Content.{outcome_with}
use Rattle.build_manifest.specs.Mark.{MarkView}
use Rattle.build_manifest.specs.Text.{Spells}
use Rattle.staleness.specs.declared.kept.Kept.{Kept}
use Rattle.tree_store.specs.declared.holding.Holding.{Holding}
use Rattle.tree_store.specs.declared.key.BuildKey.{BuildKey}
use Rattle.tree_store.specs.Slot.{Slot}
use Rattle.tree_store.specs.Slot.Slot.{Here, Out}

-- a mark with the outcome of these files and of its own text
abbrev pub kept_with : MarkView → List File → Kept
kept_with mark files = record { mark = mark; outcome = outcome_with 0 mark.text files }

-- the mark reads, its output rows are the files' listing, and the outcome is that of these files with the mark's text
pub record IsKept (held : Holding) (kept : Kept) : Type 0 where
  pub bytes : List ℕ
  pub marked : held.mark ≡ Some bytes
  pub read : Spells bytes kept.mark
  pub listed : kept.mark.outputs ≡ rows_of held.files
  pub outcome : kept.outcome ≡ outcome_with 0 kept.mark.text held.files

-- what is kept of a holding, or that nothing is
abbrev pub IsKeptOf : Holding → Option Kept → Type 0
IsKeptOf held (Some kept) = IsKept held kept
IsKeptOf held None = (kept : Kept) → IsKept held kept → ⊥

-- the same of a build, where it tells what it holds
abbrev pub IsKeptAt : Slot → Option Kept → Type 0
IsKeptAt (Here (Some held)) kept = IsKeptOf held kept
IsKeptAt (Here None) kept = Unit {0}
IsKeptAt Out kept = Unit {0}

-- one entry for each job of the plan, that of its app's build
pub record AreKeptOf (slots : BuildKey → Slot) (plan : Plan) (kept : List (Option Kept)) : Type 0 where
  pub each : length kept ≡ length plan.jobs
  pub at : (place : ℕ) (job : Job) (entry : Option Kept) → slice_get plan.jobs place ≡ Some job → slice_get kept place ≡ Some entry →
      IsKeptAt (slots (record { env = plan.env; app = job.app })) entry
