-- The tree of a plan: what its builds hold once it is built.
use Rattle.std.specs.Prelude.{◌≡◌, ℕ, List, Option, Some, None, slice_get, true, false}
use Rattle.compile_model.specs.declared.job.Job.{Job}
use Rattle.compile_model.specs.declared.job.Plan.{Plan}
use Rattle.compile_model.specs.declared.outcome.Fate.{Fate}
use Rattle.compile_model.specs.declared.outcome.Fate.TheVariants.{Built}
use Rattle.compile_model.specs.declared.outcome.Outcome.{Outcome}
use Rattle.compile_model.specs.Seq.{outcomes_of}
use Rattle.build_manifest.specs.MarkOf.{mark_of}
use Rattle.build_manifest.specs.Text.{Spells}
use Rattle.tree_store.specs.declared.holding.Holding.{Holding}
use Rattle.tree_store.specs.declared.key.BuildKey.{BuildKey}
use Rattle.tree_store.specs.Holding.{nothing}
use Rattle.tree_store.specs.Slot.{Slot}
use Rattle.tree_store.specs.Slot.Slot.{Here, Out}
use Rattle.kept_tree.specs.Clearing.{is_in_env}

-- the job at a place was built to this outcome
pub record IsBuiltAt (jobs : List Job) (fates : List Fate) (job : Job) (outcome : Outcome) : Type 0 where
  pub place : ℕ
  pub stands : slice_get jobs place ≡ Some job
  pub built : slice_get fates place ≡ Some (Built outcome)

-- the files of an outcome, and the mark of it, which names what it was made from
pub record HoldsOutcome (job : Job) (needs : List Outcome) (outcome : Outcome) (held : Holding) : Type 0 where
  pub files : held.files ≡ outcome.files
  pub bytes : List ℕ
  pub stands : held.mark ≡ Some bytes
  pub reads : Spells bytes (mark_of job needs outcome)

-- what the build of an app holds: the outcome of its job and the mark, where that was built, and else nothing
pub record HoldsApp (jobs : List Job) (fates : List Fate) (app : List ℕ) (held : Holding) : Type 0 where
  pub built : (job : Job) (outcome : Outcome) → IsBuiltAt jobs fates job outcome → job.app ≡ app
      → HoldsOutcome job (outcomes_of fates job.needs) outcome held
  pub unbuilt : ((job : Job) (outcome : Outcome) → IsBuiltAt jobs fates job outcome → job.app ≡ app → ⊥) → held ≡ nothing

-- the same of a build, where it tells what it holds
abbrev pub HoldsAppAt : List Job → List Fate → List ℕ → Slot → Type 0
HoldsAppAt jobs fates app (Here (Some held)) = HoldsApp jobs fates app held
HoldsAppAt jobs fates app (Here None) = Unit {0}
HoldsAppAt jobs fates app Out = ⊥

-- each build of the environment holds what became of its app
abbrev pub IsTree : Plan → List Fate → (BuildKey → Slot) → Type 0
IsTree plan fates slots = (q : BuildKey) → is_in_env plan.env q ≡ true → HoldsAppAt plan.jobs fates q.app (slots q)

-- outside the environment nothing changed
abbrev pub StaysElsewhere : List ℕ → (BuildKey → Slot) → (BuildKey → Slot) → Type 0
StaysElsewhere env old new = (q : BuildKey) → is_in_env env q ≡ false → new q ≡ old q
