-- What a task is compiled from.
use Rattle.std.specs.Prelude.{◌≡◌, ℕ, List, [], Some, None, if◌then◌else◌}
use Rattle.std.specs.List.{AllZip}
use Rattle.mx_base.specs.declared.file.File.{File}
use Rattle.compile_model.specs.declared.how.How.TheVariants as how
use Rattle.compile_model.specs.Content.{Content, Need}
use Rattle.compile_model.specs.declared.outcome.Outcome.{Outcome}
use Rattle.tree_store.specs.declared.key.BuildKey.{BuildKey}
use Rattle.tree_store.specs.Key.{is_same_build}
use Rattle.tree_store.specs.Known.{Known, Told}
use Rattle.tree_store.specs.Slot.{Slot, emptied_slot}
use Rattle.tree_store.specs.Slot.Slot.{Here, Out}
use Rattle.build_plan.specs.Sources.{sources_of}
use Rattle.unit_compile.specs.Units.{unit_meaning}
use Rattle.unitc_call.specs.declared.words.Task.{Task}

-- the build of the task's app
abbrev pub own_build : Task → BuildKey
own_build task = record { env = task.env; app = task.app }

-- the builds once that of one app is cleared
abbrev pub cleared : BuildKey → (BuildKey → Slot) → BuildKey → Slot
cleared key slots q = if is_same_build key q then emptied_slot (slots q) else slots q

-- these are the files of a build, where it tells them
abbrev pub AreFilesAt : Slot → List File → Type 0
AreFilesAt (Here None) files = Unit {0}
AreFilesAt (Here (Some held)) files = files ≡ held.files
AreFilesAt Out files = Unit {0}

-- the need of an app, with the files that its build has
pub record IsNeedIn (slots : BuildKey → Slot) (env name : List ℕ) (need : Need) : Type 0 where
  pub app : need.app ≡ name
  pub files : AreFilesAt (slots (record { env = env; app = name })) need.files

-- a content by what is compiled: its options text isn't known here, and says nothing to the compiler
abbrev pub content_with : Task → List File → List Need → Content
content_with task sources needs = record { app = task.app; how = how.Unit; options = []; sources = sources; needs = needs }

-- what the task is compiled from: the sources in its folder, and its needs' files once its app's build is cleared
pub record IsContentFor (task : Task) (old : Known) (content : Content) : Type 0 where
  pub sources : List File
  pub needs : List Need
  pub is : content ≡ content_with task sources needs
  pub read : Told old (λ files found. found ≡ sources_of task.src files) sources
  pub built : AllZip (IsNeedIn (cleared (own_build task) old.slot) task.env) task.needs needs

-- the outcome of what the task is compiled from, where the builds are these
pub record IsReadFrom (task : Task) (store : Known) (outcome : Outcome) : Type 0 where
  pub sources : List File
  pub needs : List Need
  pub is : outcome ≡ unit_meaning (content_with task sources needs)
  pub read : Told store (λ files found. found ≡ sources_of task.src files) sources
  pub built : AllZip (IsNeedIn store.slot task.env) task.needs needs
