-- What a store is known by, and what its calls do to that.
use Rattle.std.specs.Prelude.{◌≡◌, ℕ, Bool, List, Option, option_map, Result, IfSome, OnOk, OnErr, nat_lt}
use Rattle.mx_base.specs.Blame.{Blame, Answers, fails}
use Rattle.mx_base.specs.Causes.{Counted}
use Rattle.mx_base.specs.declared.file.File.{File}
use Rattle.tree_store.specs.declared.key.BuildKey.{BuildKey}
use Rattle.tree_store.specs.declared.store.StoreFault.{StoreFault}
use Rattle.tree_store.specs.Blame.{blame_of}
use Rattle.tree_store.specs.Files.{with_file, without_file, PutsPartly, RemovesPartly}
use Rattle.tree_store.specs.FolderKnown.{FolderKnown}
use Rattle.tree_store.specs.Slot.{Slot, SetsSlot}
use Rattle.tree_store.specs.Slot.Slot.{Here, Out}

pub record Known : Type 0 where
  -- the project's files in the order of paths, without those in `_build`, where they are told
  pub sources : Option (List File)
  -- at a build: what it holds, where that is told, or a folder that is out
  pub slot : BuildKey → Slot
  -- how often the store's own calls failed
  pub faults : ℕ
  -- how many folders came back with a fault
  pub returned : ℕ

-- the project's files say this of the answer, where they are told
abbrev pub Told : {A : Type 0} → Known → (List File → A → Type 0) → A → Type 0
Told known Says answer = IfSome known.sources (λ files. Says files answer)

-- nothing changes, but that a fault is counted exactly where the call failed
pub record OnlyReads (old new : Known) (failed : Bool) : Type 0 where
  pub same : new ≡ record old { faults = new.faults }
  pub cause : Counted old.faults new.faults failed

-- the answer is what the files say, where they are told, and the call only reads
pub record Reads {X E : Type 0} (blame : E → Blame) (old new : Known) (result : Result X E) (Says : List File → Result X E → Type 0) : Type 0 where
  pub answer : Answers blame result (Told old Says)
  pub reads : OnlyReads old new (fails blame result)

-- a file is put among the project's, or after an error a part of it may be, and nothing else changes
pub record PutsFile {X : Type 0} (file : File) (old new : Known) (result : Result X StoreFault) : Type 0 where
  pub put : OnOk result (new.sources ≡ with_file file old.sources)
  pub partly : OnErr result (PutsPartly file old.sources new.sources)
  pub rest : new ≡ record old { sources = new.sources; faults = new.faults }
  pub cause : Counted old.faults new.faults (fails blame_of result)

-- no file of this path is among the project's, or after an error it may still be, and nothing else changes
pub record RemovesFile {X : Type 0} (path : List ℕ) (old new : Known) (result : Result X StoreFault) : Type 0 where
  pub removed : OnOk result (new.sources ≡ option_map (without_file path) old.sources)
  pub partly : OnErr result (RemovesPartly path old.sources new.sources)
  pub rest : new ≡ record old { sources = new.sources; faults = new.faults }
  pub cause : Counted old.faults new.faults (fails blame_of result)

-- the folder of a build is out after it was handed out, and nothing else changes
pub record Lends {X : Type 0} (key : BuildKey) (old new : Known) (result : Result X StoreFault) : Type 0 where
  pub out : OnOk result (SetsSlot key Out old.slot new.slot)
  pub kept : OnErr result (new.slot ≡ old.slot)
  pub rest : new ≡ record old { slot = new.slot; faults = new.faults }
  pub cause : Counted old.faults new.faults (fails blame_of result)

-- the folder is that of the build, holds what the store has there, and hasn't failed
pub record IsLent (key : BuildKey) (slot : Slot) (folder : FolderKnown) : Type 0 where
  pub build : folder.key ≡ key
  pub held : Here folder.held ≡ slot
  pub fresh : folder.faults ≡ 0

-- the build of a folder is what the folder holds, which came back, with a fault or without
pub record TakesBack (folder : FolderKnown) (old new : Known) : Type 0 where
  pub back : SetsSlot folder.key (Here folder.held) old.slot new.slot
  pub rest : new ≡ record old { slot = new.slot; returned = new.returned }
  pub cause : Counted old.returned new.returned (nat_lt 0 folder.faults)
