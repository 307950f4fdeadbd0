-- Putting what was built into an environment that was emptied.
use Rattle.std.specs.Prelude.{◌≡◌, ◌⊎◌, ℕ, List, length, take, None, IfSome, IsTrue, true}
use Rattle.mx_base.specs.declared.file.File.{File}
use Rattle.compile_model.specs.declared.job.Job.{Job}
use Rattle.compile_model.specs.declared.job.Plan.{Plan}
use Rattle.compile_model.specs.declared.outcome.Fate.{Fate}
use Rattle.compile_model.specs.declared.outcome.Outcome.{Outcome}
use Rattle.compile_model.specs.Planned.{ArePlanned}
use Rattle.compile_model.specs.Seq.{first_unbuilt, outcomes_of}
use Rattle.build_manifest.specs.MarkOf.{mark_of}
use Rattle.build_manifest.specs.Text.{Spells}
use Rattle.tree_store.specs.declared.holding.Holding.{Holding}
use Rattle.tree_store.specs.declared.key.BuildKey.{BuildKey}
use Rattle.tree_store.specs.Holding.{only_files}
use Rattle.tree_store.specs.Key.{is_same_build}
use Rattle.tree_store.specs.Moment.{Part, leaves}
use Rattle.tree_store.specs.Moment.Write.{Mark}
use Rattle.tree_store.specs.Slot.{Slot, emptied_slot}
use Rattle.tree_store.specs.Slot.Slot.{Here, Out}
use Rattle.kept_tree.specs.Clearing.{IsLeftAt, is_in_env}
use Rattle.kept_tree.specs.Tree.{IsBuiltAt}

-- the plan with the first of its jobs
abbrev pub first_of : ℕ → Plan → Plan
first_of count plan = record { env = plan.env; jobs = take count plan.jobs }

-- each build of the environment is empty
abbrev pub IsEmptyIn : List ℕ → (BuildKey → Slot) → Type 0
IsEmptyIn env slots = (q : BuildKey) → is_in_env env q ≡ true → slots q ≡ emptied_slot (slots q)

-- there is one fate for each job of a plan, and what was built has its needs
pub record AreFates (plan : Plan) (fates : List Fate) : Type 0 where
  pub planned : ArePlanned plan.jobs
  pub each : length fates ≡ length plan.jobs
  pub needs : (job : Job) (outcome : Outcome) → IsBuiltAt plan.jobs fates job outcome → first_unbuilt fates job.needs ≡ None

-- what is held while files and then their mark are put where nothing was: no mark, or all of the files and what there is of the mark
abbrev pub IsFilling : List File → List ℕ → Holding → Type 0
IsFilling files mark image = (image.mark ≡ None) ⊎ ((part : Part) × (image ≡ leaves (Mark mark) part (only_files files)))

-- the same of a build, where it tells what it holds
abbrev pub IsFillingAt : List File → List ℕ → Slot → Type 0
IsFillingAt files mark (Here held) = IfSome held (IsFilling files mark)
IsFillingAt files mark Out = ⊥

-- the build stays or is being filled, where it is this one, and each other one stays
abbrev pub FillsBuild : BuildKey → (Slot → Type 0) → (BuildKey → Slot) → (BuildKey → Slot) → Type 0
FillsBuild key Fills old new = (q : BuildKey) → (new q ≡ old q) ⊎ (IsTrue (is_same_build key q) × Fills (new q))

-- the build of an app is filled with what its job was built to
pub record IsFilledBy (jobs : List Job) (fates : List Fate) (app : List ℕ) (slot : Slot) : Type 0 where
  pub job : Job
  pub outcome : Outcome
  pub built : IsBuiltAt jobs fates job outcome
  pub own : job.app ≡ app
  pub mark : List ℕ
  pub reads : Spells mark (mark_of job (outcomes_of fates job.needs) outcome)
  pub filling : IsFillingAt outcome.files mark slot

-- of the environment's builds each stays or is being filled with what its job was built to, and each other one stays
abbrev pub FillsPartly : Plan → List Fate → (BuildKey → Slot) → (BuildKey → Slot) → Type 0
FillsPartly plan fates old new =
    (q : BuildKey) → (new q ≡ old q) ⊎ (IsTrue (is_in_env plan.env q) × IsFilledBy plan.jobs fates q.app (new q))

-- of the environment's builds each is as it was, or has some of its files and no mark, or is filled with what its job
-- was built to, in full or in part; and each other one stays
abbrev pub Remakes : Plan → List Fate → (BuildKey → Slot) → (BuildKey → Slot) → Type 0
Remakes plan fates old new =
    (q : BuildKey) → (new q ≡ old q) ⊎ (IsTrue (is_in_env plan.env q) × (IsLeftAt (old q) (new q) ⊎ IsFilledBy plan.jobs fates q.app (new q)))
