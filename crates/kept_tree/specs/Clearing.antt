-- Builds that are cleared.
use Rattle.std.specs.Prelude.{◌≡◌, ◌⊎◌, ℕ, Bool, not, ◌&&◌, List, [], ◌∷◌, Option, Some, None, filter, bytes_eq, if◌then◌else◌, IsTrue}
use Rattle.std.specs.List.{list_any}
use Rattle.std.specs.Ordering.{is_eq}
use Rattle.mx_base.specs.declared.file.File.{File}
use Rattle.mx_base.specs.Order.{text_cmp}
use Rattle.tree_store.specs.declared.holding.Holding.{Holding}
use Rattle.tree_store.specs.declared.key.BuildKey.{BuildKey}
use Rattle.tree_store.specs.Holding.{only_files}
use Rattle.tree_store.specs.Slot.{Slot, changed_slot, emptied_slot}

abbrev pub is_in_env : List ℕ → BuildKey → Bool
is_in_env env q = is_eq (text_cmp env q.env)

abbrev pub is_among : List (List ℕ) → List ℕ → Bool
is_among names name = list_any (bytes_eq name) names

-- the build is in the environment, and of one of these apps
abbrev pub is_of : List ℕ → List (List ℕ) → BuildKey → Bool
is_of env apps q = is_among apps q.app && is_in_env env q

-- the build is in the environment, and of another app than these
abbrev pub is_apart : List ℕ → List (List ℕ) → BuildKey → Bool
is_apart env stays q = not (is_among stays q.app) && is_in_env env q

-- the build is in the environment, and of one of these apps where some are named
abbrev pub is_cleaned : List ℕ → List (List ℕ) → BuildKey → Bool
is_cleaned env [] q = is_in_env env q
is_cleaned env (app ∷ apps) q = is_of env (app ∷ apps) q

-- these builds are emptied, and each other one stays
abbrev pub Clears : (BuildKey → Bool) → (BuildKey → Slot) → (BuildKey → Slot) → Type 0
Clears is old new = (q : BuildKey) → new q ≡ (if is q then emptied_slot (old q) else old q)

-- those of the files that stay, and no mark
abbrev pub left_of : (File → Bool) → Holding → Holding
left_of stays held = only_files (filter stays held.files)

-- what is held while it is cleared: all of it, or some of the files, each whole, and no mark
abbrev pub IsLeftOf : Holding → Holding → Type 0
IsLeftOf held image = (image ≡ held) ⊎ ((stays : File → Bool) × (image ≡ left_of stays held))

-- the same where what was held may not be told
abbrev pub IsLeftIn : Option Holding → Holding → Type 0
IsLeftIn None image = Unit {0}
IsLeftIn (Some held) image = IsLeftOf held image

-- the same of a build
abbrev pub IsLeftAt : Slot → Slot → Type 0
IsLeftAt old new = (stays : File → Bool) × (new ≡ changed_slot (left_of stays) old)

-- of these builds each stays, or some of its files are left and no mark, and each other one stays
abbrev pub ClearsPartly : (BuildKey → Bool) → (BuildKey → Slot) → (BuildKey → Slot) → Type 0
ClearsPartly is old new = (q : BuildKey) → (new q ≡ old q) ⊎ (IsTrue (is q) × IsLeftAt (old q) (new q))
