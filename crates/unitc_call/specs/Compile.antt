-- What compiling a task comes to.
use Rattle.std.specs.Prelude.{◌≡◌, ℕ, false, List, Some, None, if◌then◌else◌}
use Rattle.mx_base.specs.declared.file.File.{File}
use Rattle.compile_model.specs.Content.{Content}
use Rattle.tree_store.specs.declared.key.BuildKey.{BuildKey}
use Rattle.tree_store.specs.Key.{is_same_build}
use Rattle.tree_store.specs.Known.{Known}
use Rattle.tree_store.specs.Slot.{Slot, slot_with}
use Rattle.tree_store.specs.Slot.Slot.{Here, Out}
use Rattle.kept_tree.specs.Clearing.{IsLeftAt}
use Rattle.kept_tree.specs.Faults.{IsCalm}
use Rattle.unit_compile.specs.Units.{unit_meaning}
use Rattle.unitc_call.specs.declared.compile.Reply.{Reply as Answer}
use Rattle.unitc_call.specs.declared.words.Task.{Task}
use Rattle.unitc_call.specs.Reading.{IsContentFor, own_build}

-- a status, and the text that goes with it
pub record Reply : Type 0 where
  pub status : ℕ
  pub text : List ℕ

abbrev pub reply_of : Answer → Reply
reply_of answer = record { status = answer.status; text = answer.text }

-- the build has just these files, and each other build is as it was
abbrev pub Leaves : BuildKey → List File → (BuildKey → Slot) → (BuildKey → Slot) → Type 0
Leaves key files old new = (q : BuildKey) → new q ≡ (if is_same_build key q then slot_with files (old q) else old q)

-- no other build changes
abbrev pub OnlyAt : BuildKey → (BuildKey → Slot) → (BuildKey → Slot) → Type 0
OnlyAt key old new = (q : BuildKey) → is_same_build key q ≡ false → new q ≡ old q

-- the task is compiled: what its content means, in the app's build and in the reply
pub record IsCompiled (task : Task) (old new : Known) (reply : Reply) : Type 0 where
  pub content : Content
  pub source : IsContentFor task old content
  pub status : reply.status ≡ (unit_meaning content).status
  pub text : reply.text ≡ (unit_meaning content).text
  pub tree : Leaves (own_build task) (unit_meaning content).files old.slot new.slot
  pub calm : IsCalm old new

-- no mark stands in the build, where it is told
abbrev pub IsUnmarkedAt : Slot → Type 0
IsUnmarkedAt (Here None) = Unit {0}
IsUnmarkedAt (Here (Some held)) = held.mark ≡ None
IsUnmarkedAt Out = ⊥

-- what may stand in a build after any status: what was there; some of its files, each whole, and no mark; or other
-- files and no mark
pub data MayStand (old new : Slot) : Type 0 where
  kept : new ≡ old → MayStand old new
  left : IsLeftAt old new → MayStand old new
  filled : IsUnmarkedAt new → MayStand old new

-- what may stand in the builds after any status of a task: only that of its app changes
pub record ChangesOnly (key : BuildKey) (old new : BuildKey → Slot) : Type 0 where
  pub own : MayStand (old key) (new key)
  pub others : OnlyAt key old new
