-- What putting files job after job does to a build.
use Rattle.std.specs.Prelude.{◌≡◌, ℕ, Bool, true, not, ◌&&◌, List, [], ◌∷◌, map, Option, option_map, if◌then◌else◌, bytes_eq}
use Rattle.std.specs.List.{AllByRecursion, list_any}
use Rattle.mx_base.specs.declared.file.File.{File}
use Rattle.mx_base.specs.Order.{AreInOrder}
use Rattle.compile_model.specs.declared.job.Job.{Job}
use Rattle.compile_model.specs.declared.outcome.Fate.{Fate}
use Rattle.compile_model.specs.declared.outcome.Fate.TheVariants.{Built, Failed, Skipped}
use Rattle.compile_model.specs.Seq.{HoldsInOrder}
use Rattle.tree_store.specs.declared.key.BuildKey.{BuildKey}
use Rattle.tree_store.specs.Key.{is_same_build}
use Rattle.tree_store.specs.declared.holding.Holding.{Holding}
use Rattle.tree_store.specs.Holding.{nothing, only_files}
use Rattle.tree_store.specs.Slot.{Slot, filled_slot, slot_with}
use Rattle.mix_main.specs.Tree.{is_in_env, begun, IsEmpty, FillsPartly}

-- no name comes twice
abbrev pub differ : List (List ℕ) → Bool
differ [] = true
differ (app ∷ apps) = not (list_any (bytes_eq app) apps) && differ apps

-- no app has two jobs
abbrev pub jobs_differ : List Job → Bool
jobs_differ jobs = differ (map (λ job. job.app) jobs)

-- what a job does to a build, where it is its own or not
abbrev pub filled_once : Bool → Fate → Slot → Slot
filled_once own (Built outcome) slot = if own then filled_slot outcome.files slot else slot
filled_once own (Failed outcome) slot = slot
filled_once own (Skipped need) slot = slot

-- what the jobs do to a build, one after another
abbrev pub filled_by : List ℕ → BuildKey → List Job → List Fate → Slot → Slot
filled_by env q [] fates slot = slot
filled_by env q (job ∷ jobs) [] slot = slot
filled_by env q (job ∷ jobs) (fate ∷ fates) slot = filled_by env q jobs fates (filled_once (is_same_build (record { env = env; app = job.app }) q) fate slot)

-- where nothing was held, the first of these in order are, and of the next one nothing or a prefix
abbrev pub BeginsHeld : List File → Option Holding → Option Holding → Type 0
BeginsHeld files old new =
    AreInOrder files → old ≡ option_map (λ held. nothing) old → (whole : ℕ) × (part : Option ℕ) × (new ≡ option_map (λ held. only_files (begun whole part files)) old)

-- the same of a build
abbrev pub BeginsSlot : List File → Slot → Slot → Type 0
BeginsSlot files old new =
    AreInOrder files → IsEmpty old → (whole : ℕ) × (part : Option ℕ) × (new ≡ slot_with (begun whole part files) old)

-- the same of an empty environment, where no app has two jobs
abbrev pub BeginsEnv : List ℕ → List Job → List Fate → (BuildKey → Slot) → (BuildKey → Slot) → Type 0
BeginsEnv env jobs fates old new =
    jobs_differ jobs ≡ true → AllByRecursion HoldsInOrder fates → ((q : BuildKey) → is_in_env env q ≡ true → IsEmpty (old q)) → FillsPartly env jobs fates old new
