-- Folders that are out, and what a store has once they came back.
use Rattle.std.specs.Prelude.{◌≡◌, ℕ, List, [], ◌∷◌, map, Option, Some, None, slice_get, IfSome, if◌then◌else◌}
use Rattle.compile_model.specs.declared.job.Job.{Job}
use Rattle.compile_model.specs.declared.job.Plan.{Plan}
use Rattle.tree_store.specs.declared.holding.Holding.{Holding}
use Rattle.tree_store.specs.declared.key.BuildKey.{BuildKey}
use Rattle.tree_store.specs.FolderKnown.{FolderKnown}
use Rattle.tree_store.specs.Key.{is_same_build}
use Rattle.tree_store.specs.Slot.{Slot}
use Rattle.tree_store.specs.Slot.Slot.{Here, Out}

-- the build of a job in an environment
abbrev pub key_of : List ℕ → Job → BuildKey
key_of env job = record { env = env; app = job.app }

-- what a build has once these folders came back
abbrev pub brought : List FolderKnown → (BuildKey → Slot) → BuildKey → Slot
brought [] slots q = slots q
brought (folder ∷ folders) slots q = if is_same_build folder.key q then Here folder.held else brought folders slots q

-- these folders are out, each of another build
pub record AreOut (slots : BuildKey → Slot) (folders : List FolderKnown) : Type 0 where
  pub out : (place : ℕ) (folder : FolderKnown) → slice_get folders place ≡ Some folder → slots folder.key ≡ Out
  pub apart : (place other : ℕ) (one two : FolderKnown) → slice_get folders place ≡ Some one → slice_get folders other ≡ Some two
      → one.key ≡ two.key → place ≡ other

-- the folders of the jobs of a plan are out, and none of them has failed or changed
pub record AreTaken (plan : Plan) (old new : BuildKey → Slot) (folders : List FolderKnown) : Type 0 where
  pub keys : map (λ folder. folder.key) folders ≡ map (key_of plan.env) plan.jobs
  pub fresh : (place : ℕ) (folder : FolderKnown) → slice_get folders place ≡ Some folder → folder.faults ≡ 0
  pub out : AreOut new folders
  pub whole : (q : BuildKey) → brought folders new q ≡ old q

-- what a build holds is like this, where it is told
abbrev pub HoldsAt : (Holding → Type 0) → Slot → Type 0
HoldsAt P (Here told) = IfSome told P
HoldsAt P Out = ⊥

-- it is told what the build holds
abbrev pub IsTold : Slot → Type 0
IsTold (Here (Some held)) = Unit {0}
IsTold (Here None) = ⊥
IsTold Out = ⊥

-- it is told of each job
abbrev pub AreTold : Plan → (BuildKey → Slot) → Type 0
AreTold plan slots = (place : ℕ) (job : Job) → slice_get plan.jobs place ≡ Some job → IsTold (slots (key_of plan.env job))
