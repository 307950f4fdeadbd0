-- What compiling leaves in an environment.
use Rattle.std.specs.Prelude.{◌≡◌, ℕ, Bool, true, false, List, [], ◌∷◌, ◌++◌, take, drop, filter, Option, Some, None, option_map, if◌then◌else◌}
use Rattle.std.specs.Ordering.{is_eq}
use Rattle.mx_base.specs.declared.file.File.{File}
use Rattle.mx_base.specs.Order.{text_cmp}
use Rattle.compile_model.specs.declared.job.Job.{Job}
use Rattle.compile_model.specs.declared.outcome.Fate.{Fate}
use Rattle.compile_model.specs.declared.outcome.Fate.TheVariants.{Built, Failed, Skipped}
use Rattle.tree_store.specs.declared.key.BuildKey.{BuildKey}
use Rattle.tree_store.specs.declared.holding.Holding.{Holding}
use Rattle.tree_store.specs.Slot.{Slot, changed_slot, emptied_slot, slot_with}

abbrev pub is_same_text : List ℕ → List ℕ → Bool
is_same_text a b = is_eq (text_cmp a b)

abbrev pub is_in_env : List ℕ → BuildKey → Bool
is_in_env env q = is_same_text env q.env

-- the output files of a job: none unless it was built
abbrev pub files_of : Fate → List File
files_of (Built outcome) = outcome.files
files_of (Failed outcome) = []
files_of (Skipped need) = []

-- the output files of an app
abbrev pub app_files : List ℕ → List Job → List Fate → List File
app_files app [] fates = []
app_files app (job ∷ jobs) [] = []
app_files app (job ∷ jobs) (fate ∷ fates) = if is_same_text job.app app then files_of fate else app_files app jobs fates

-- in the environment each app has the files of its job, and one without a job has none; elsewhere nothing changed
abbrev pub LeavesTree : List ℕ → List Job → List Fate → (BuildKey → Slot) → (BuildKey → Slot) → Type 0
LeavesTree env jobs fates old new =
    (q : BuildKey) → new q ≡ (if is_in_env env q then slot_with (app_files q.app jobs fates) (old q) else old q)

-- each build of the environment is empty, and each other one stays
abbrev pub ClearsEnv : List ℕ → (BuildKey → Slot) → (BuildKey → Slot) → Type 0
ClearsEnv env old new = (q : BuildKey) → new q ≡ (if is_in_env env q then emptied_slot (old q) else old q)

-- outside the environment nothing changed
abbrev pub StaysElsewhere : List ℕ → (BuildKey → Slot) → (BuildKey → Slot) → Type 0
StaysElsewhere env old new = (q : BuildKey) → is_in_env env q ≡ false → new q ≡ old q

-- those of the files that stay, and the mark or none
abbrev pub part_of : (File → Bool) → (keeps : Bool) → Holding → Holding
part_of stays keeps held = record { files = filter stays held.files; mark = if keeps then held.mark else None }

-- some of the files that were held, each whole, and the mark or none
abbrev pub HoldsPart : Option Holding → Option Holding → Type 0
HoldsPart old new = (stays : File → Bool) × (keeps : Bool) × (new ≡ option_map (part_of stays keeps) old)

-- the same of a build
abbrev pub LeavesPart : Slot → Slot → Type 0
LeavesPart old new = (stays : File → Bool) × (keeps : Bool) × (new ≡ changed_slot (part_of stays keeps) old)

-- each build holds some of the files that it held, each whole, and its mark or none
abbrev pub EachLeavesPart : (BuildKey → Slot) → (BuildKey → Slot) → Type 0
EachLeavesPart old new = (q : BuildKey) → LeavesPart (old q) (new q)

-- nothing, or so many bytes of the first file
abbrev pub cut_file : Option ℕ → List File → List File
cut_file None files = []
cut_file (Some n) [] = []
cut_file (Some n) (file ∷ files) = record { path = file.path; bytes = take n file.bytes } ∷ []

-- so many of the files, and of the next one nothing or so many of its bytes
abbrev pub begun : ℕ → Option ℕ → List File → List File
begun whole part files = take whole files ++ cut_file part (drop whole files)

-- the build holds nothing
abbrev pub IsEmpty : Slot → Type 0
IsEmpty slot = slot ≡ emptied_slot slot

-- each build of the environment holds the first output files of its app, and of the next one nothing or a prefix
abbrev pub FillsPartly : List ℕ → List Job → List Fate → (BuildKey → Slot) → (BuildKey → Slot) → Type 0
FillsPartly env jobs fates old new =
    (q : BuildKey) → is_in_env env q ≡ true → (whole : ℕ) × (part : Option ℕ) × (new q ≡ slot_with (begun whole part (app_files q.app jobs fates)) (old q))
