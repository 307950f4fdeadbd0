-- What a store in memory has.
use Rattle.std.specs.Prelude.{ℕ, Bool, false, ◌&&◌, List, [], ◌∷◌, Option, Some, None, if◌then◌else◌, nat_eq}
use Rattle.std.specs.Cmp.Lexicographic.{pointwise}
use Rattle.std.specs.BTreeSet.{insert_key}
use Rattle.mx_base.specs.Order.{text_cmp}
use Rattle.tree_store.specs.declared.holding.Holding.{Holding}
use Rattle.tree_store.specs.declared.key.BuildKey.{BuildKey}
use Rattle.tree_store.specs.Holding.{nothing, has_any}
use Rattle.tree_store.specs.Slot.{Slot}
use Rattle.tree_store.specs.Slot.Slot.{Here, Out}

-- the slot of what is kept at a build: what it holds, or none while its folder is out
abbrev pub slot_of : Option (Option Holding) → Slot
slot_of None = Here (Some nothing)
slot_of (Some None) = Out
slot_of (Some (Some held)) = Here (Some held)

-- there is a file or a mark, and the folder isn't out
abbrev pub keeps_any : Option Holding → Bool
keeps_any None = false
keeps_any (Some held) = has_any held

-- the apps of the entries that have a file or a mark in the environment
abbrev pub apps_in : List ℕ → List (BuildKey × Option Holding) → List (List ℕ)
apps_in env [] = []
apps_in env (e ∷ es) = if pointwise nat_eq e.0.env env && keeps_any e.1 then e.0.app ∷ apps_in env es else apps_in env es

-- the environments of the entries that have a file or a mark, one for each entry
abbrev pub envs_in : List (BuildKey × Option Holding) → List (List ℕ)
envs_in [] = []
envs_in (e ∷ es) = if keeps_any e.1 then e.0.env ∷ envs_in es else envs_in es

-- a set of names with these in it too
abbrev pub inserted : List (List ℕ) → List (List ℕ) → List (List ℕ)
inserted names [] = names
inserted names (more ∷ mores) = inserted (insert_key text_cmp names more) mores
