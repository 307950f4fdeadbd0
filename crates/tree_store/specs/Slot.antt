-- What a store has at a build.
use Rattle.std.specs.Prelude.{◌≡◌, ℕ, Bool, true, false, List, [], ◌∷◌, Option, Some, None, Contains, if◌then◌else◌, option_map, IsTrue}
use Rattle.mx_base.specs.declared.file.File.{File}
use Rattle.mx_base.specs.Order.{ArePathsInOrder}
use Rattle.tree_store.specs.declared.holding.Holding.{Holding}
use Rattle.tree_store.specs.declared.key.BuildKey.{BuildKey}
use Rattle.tree_store.specs.Holding.{nothing, has_any, only_files, unmarked, with_all}
use Rattle.tree_store.specs.Key.{is_same_build}

pub data Slot : Type 0 where
  -- what the build holds, where that is told
  Here : (held : Option Holding) → Slot
  -- the folder is out
  Out : Slot

-- the slots with one set
abbrev pub with_slot : BuildKey → Slot → (BuildKey → Slot) → BuildKey → Slot
with_slot key slot slots q = if is_same_build key q then slot else slots q

-- one slot is set, and each other one stays
abbrev pub SetsSlot : BuildKey → Slot → (BuildKey → Slot) → (BuildKey → Slot) → Type 0
SetsSlot key slot old new = (q : BuildKey) → new q ≡ with_slot key slot old q

-- one slot takes a step, and each other one stays
abbrev pub ChangesSlot : BuildKey → (Slot → Slot) → (BuildKey → Slot) → (BuildKey → Slot) → Type 0
ChangesSlot key step old new = (q : BuildKey) → new q ≡ (if is_same_build key q then step (old q) else old q)

-- no folder is out
abbrev pub AllHere : (BuildKey → Slot) → Type 0
AllHere slots = (q : BuildKey) → slots q ≡ Out → ⊥

-- a slot after its folder was out and changed so
abbrev pub changed_slot : (Holding → Holding) → Slot → Slot
changed_slot change (Here held) = Here (option_map change held)
changed_slot change Out = Out

-- the build holds nothing
abbrev pub emptied_slot : Slot → Slot
emptied_slot slot = changed_slot (λ held. nothing) slot

-- its mark was taken away, and these files were put into it
abbrev pub filled_slot : List File → Slot → Slot
filled_slot files slot = changed_slot (λ held. with_all files (unmarked held)) slot

-- the slot of a build with just these files and no mark, where it tells what it holds
abbrev pub slot_with : List File → Slot → Slot
slot_with files slot = changed_slot (λ held. only_files files) slot

-- the name is among these exactly where this holds
abbrev pub ListsIf : Bool → List (List ℕ) → List ℕ → Type 0
ListsIf true names name = Contains names name
ListsIf false names name = Contains names name → ⊥

-- the app is listed exactly if it has a file or a mark, where that is told
abbrev pub Lists : Slot → List (List ℕ) → List ℕ → Type 0
Lists (Here None) apps app = Unit {0}
Lists (Here (Some held)) apps app = ListsIf (has_any held) apps app
Lists Out apps app = Unit {0}

-- there is a file or a mark
abbrev pub HasAny : Slot → Type 0
HasAny (Here None) = ⊥
HasAny (Here (Some held)) = IsTrue (has_any held)
HasAny Out = ⊥

-- a file or a mark may be there, by what is told
abbrev pub MayHaveAny : Slot → Type 0
MayHaveAny (Here None) = Unit {0}
MayHaveAny (Here (Some held)) = IsTrue (has_any held)
MayHaveAny Out = Unit {0}

-- the environments of which some build has a file or a mark, where that is told
pub record AreEnvironments (slots : BuildKey → Slot) (envs : List (List ℕ)) : Type 0 where
  pub each : (key : BuildKey) → HasAny (slots key) → Contains envs key.env
  pub only : (env : List ℕ) → Contains envs env → (app : List ℕ) × MayHaveAny (slots (record { env = env; app = app }))

-- names in the order of byte strings, which is that of paths
abbrev pub AreNamesInOrder : List (List ℕ) → Type 0
AreNamesInOrder names = ArePathsInOrder names
