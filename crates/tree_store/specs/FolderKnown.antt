-- What a folder is known by, and what its calls do to that.
use Rattle.std.specs.Prelude.{◌≡◌, ℕ, Bool, List, [], ◌∷◌, Option, Some, None, option_map, Result, IfSome, OnOk, OnErr}
use Rattle.mx_base.specs.Blame.{fails}
use Rattle.mx_base.specs.Causes.{Counted}
use Rattle.tree_store.specs.declared.holding.Holding.{Holding}
use Rattle.tree_store.specs.declared.key.BuildKey.{BuildKey}
use Rattle.tree_store.specs.declared.store.StoreFault.{StoreFault}
use Rattle.tree_store.specs.Blame.{blame_of}
use Rattle.tree_store.specs.Moment.{Write, Part, Moment, leaves, after_all, after_moments, IsImage}
use Rattle.tree_store.specs.Moment.Part.{Whole}

pub record FolderKnown : Type 0 where
  -- the build that it is of
  pub key : BuildKey
  -- what it holds, where it tells that
  pub held : Option Holding
  -- what was written into it so far, and how far each write came, where it tells that
  pub moments : Option (List Moment)
  -- how often it failed
  pub faults : ℕ

-- no mark stands, where it tells what it holds
abbrev pub IsUnmarked : FolderKnown → Type 0
IsUnmarked folder = IfSome folder.held (λ held. held.mark ≡ None)

-- nor a file
abbrev pub IsBare : FolderKnown → Type 0
IsBare folder = IfSome folder.held (λ held. (held.files ≡ []) × (held.mark ≡ None))

-- the folder after a write that came so far, with this count of faults
abbrev pub written : Write → Part → ℕ → FolderKnown → FolderKnown
written write part faults folder = record {
  key = folder.key;
  held = option_map (leaves write part) folder.held;
  moments = after_moments folder.moments (record { write = write; part = part } ∷ []);
  faults = faults;
}

-- a write came to some part, or wasn't begun
pub data IsStopped (write : Write) (old new : FolderKnown) : Type 0 where
  begun : (part : Part) → new ≡ written write part new.faults old → IsStopped write old new
  not_begun : new ≡ record old { faults = new.faults } → IsStopped write old new

-- the write is done where the call answers Ok, and else it was stopped
pub record Writes {X : Type 0} (write : Write) (old new : FolderKnown) (result : Result X StoreFault) : Type 0 where
  pub ended : OnOk result (new ≡ written write Whole new.faults old)
  pub stopped : OnErr result (IsStopped write old new)
  pub cause : Counted old.faults new.faults (fails blame_of result)

-- nothing changes, but that a fault is counted exactly where the call failed
pub record Looks (old new : FolderKnown) (failed : Bool) : Type 0 where
  pub same : new ≡ record old { faults = new.faults }
  pub cause : Counted old.faults new.faults failed

-- a stop at any moment since leaves what has P, and so does none
pub record StopsIn (P : Holding → Type 0) (old new : FolderKnown) : Type 0 where
  -- what was written since
  pub more : List Moment
  pub told : new.moments ≡ after_moments old.moments more
  pub held : new.held ≡ option_map (after_all more) old.held
  pub key : new.key ≡ old.key
  pub each : IfSome old.held (λ held. (image : Holding) → IsImage more held image → P image)
