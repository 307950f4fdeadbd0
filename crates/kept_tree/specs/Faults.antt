-- What a call over a build tree counts, and what it leaves.
use Rattle.std.specs.Prelude.{◌≡◌, ◌⊎◌, Result, Ok, Err}
use Rattle.mx_base.specs.Causes.{Rose}
use Rattle.tree_store.specs.Known.{Known}
use Rattle.tree_store.specs.Slot.{AllHere}
use Rattle.tree_store.specs.declared.store.StoreFault.{StoreFault}
use Rattle.tree_store.specs.declared.store.StoreFault.TheVariants as store
use Rattle.kept_tree.specs.declared.fault.KeptFault.{KeptFault}
use Rattle.kept_tree.specs.declared.fault.KeptFault.TheVariants.{Read, Tree, OutOfMemory}

-- what a fault of the store comes to, or one of a call that reads a folder
abbrev pub of_read : StoreFault → KeptFault
of_read store.Failed = Read
of_read store.OutOfMemory = OutOfMemory

-- what a fault of a call that writes into a folder comes to
abbrev pub of_write : StoreFault → KeptFault
of_write store.Failed = Tree
of_write store.OutOfMemory = OutOfMemory

-- no count moved
abbrev pub IsCalm : Known → Known → Type 0
IsCalm old new = (new.faults ≡ old.faults) × (new.returned ≡ old.returned)

-- builds were read: nothing changes, but that one of the two counts rose where a read failed
abbrev pub ReadsBuilds : {X : Type 0} → Result X KeptFault → Known → Known → Type 0
ReadsBuilds (Ok x) old new = new ≡ old
ReadsBuilds (Err Read) old new =
    (Rose old.faults new.faults × (new ≡ record old { faults = new.faults })) ⊎
    (Rose old.returned new.returned × (new ≡ record old { returned = new.returned }))
ReadsBuilds (Err Tree) old new = ⊥
ReadsBuilds (Err OutOfMemory) old new = new ≡ old

-- builds were written: the store's own count rose where it failed, and that of folders with a fault where a write failed
abbrev pub CountsWrites : {X : Type 0} → Result X KeptFault → Known → Known → Type 0
CountsWrites (Ok x) old new = IsCalm old new
CountsWrites (Err Read) old new = Rose old.faults new.faults × (new.returned ≡ old.returned)
CountsWrites (Err Tree) old new = (new.faults ≡ old.faults) × Rose old.returned new.returned
CountsWrites (Err OutOfMemory) old new = IsCalm old new

-- what each call keeps: the project's files, and each folder is back
pub record KeepsRest (old new : Known) : Type 0 where
  pub sources : new.sources ≡ old.sources
  pub here : AllHere new.slot
