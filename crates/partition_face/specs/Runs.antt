-- What a run of a partition does.
use Rattle.std.specs.Prelude.{◌≡◌, Bool, true, false, Some, None, Result, Ok, Err}
use Rattle.compile_model.specs.declared.outcome.Outcome.{Outcome}
use Rattle.compile_model.specs.declared.outcome.Verdict.{Verdict}
use Rattle.tree_store.specs.declared.store.StoreFault.{StoreFault}
use Rattle.tree_store.specs.declared.store.StoreFault.TheVariants as store
use Rattle.tree_store.specs.FolderKnown.{FolderKnown, StopsIn}
use Rattle.tree_store.specs.Holding.{only_files}
use Rattle.partition_face.specs.declared.partition.RunFault.{RunFault}
use Rattle.partition_face.specs.declared.partition.RunFault.TheVariants.{Died, Tree, OutOfMemory}

-- a fault of the folder, as that of a run
abbrev pub of_folder : StoreFault → RunFault
of_folder store.Failed = Tree
of_folder store.OutOfMemory = OutOfMemory

-- the partition died
abbrev pub has_died : Result Verdict RunFault → Bool
has_died (Ok verdict) = false
has_died (Err Died) = true
has_died (Err Tree) = false
has_died (Err OutOfMemory) = false

-- the folder failed
abbrev pub tree_failed : Result Verdict RunFault → Bool
tree_failed (Ok verdict) = false
tree_failed (Err Died) = false
tree_failed (Err Tree) = true
tree_failed (Err OutOfMemory) = false

-- the verdict is that of the outcome, and where it was built the folder holds its files
pub record IsVerdictOf (outcome : Outcome) (folder : FolderKnown) (verdict : Verdict) : Type 0 where
  pub status : verdict.status ≡ outcome.status
  pub text : verdict.text ≡ outcome.text
  pub files : verdict.status ≡ 0 → folder.held ≡ Some (only_files outcome.files)

-- a stop at any moment leaves no mark, and none stands afterwards
abbrev pub NeverMarks : FolderKnown → FolderKnown → Type 0
NeverMarks old new = StopsIn (λ image. image.mark ≡ None) old new
