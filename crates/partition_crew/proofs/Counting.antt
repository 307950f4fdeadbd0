-- Counts of faults, runs and deaths.
use Rattle.std.proofs.Common.{◌≡◌, ℕ, ◌+◌, Bool, true, false, Ok, Err, cond, ◌==◌, refl, subst, arith}
use Rattle.mx_base.specs.Blame.{fails}
use Rattle.mx_base.specs.Causes.{Counted}
use Rattle.compile_model.specs.declared.outcome.Twin.{Twin}
use Rattle.tree_store.specs.declared.store.StoreFault.{StoreFault}
use Rattle.tree_store.specs.declared.store.StoreFault.TheVariants as store
use Rattle.tree_store.specs.Blame.{blame_of}
use Rattle.partition_face.specs.declared.counts.Counts.{Counts}
use Rattle.partition_face.specs.declared.partition.RunFault.{RunFault}
use Rattle.partition_face.specs.declared.partition.RunFault.TheVariants as run
use Rattle.partition_face.specs.Runs.{of_folder, has_died as run_died, tree_failed as run_failed}
use Rattle.partition_crew.specs.declared.worked.Worked.{Worked}
use Rattle.partition_crew.specs.declared.worked.Worked.TheVariants.{Finished, Failed}
use Rattle.partition_crew.specs.Work.{IsCounted, has_died, has_run, tree_failed, worked_of}

pub counted_still : (n : ℕ) → Counted n n false
counted_still n = record { later = omega arith; rose = λ e. cc; kept = λ e. refl }

pub counted_then : (x y z : ℕ) (failed : Bool) → Counted x y false → Counted y z failed → Counted x z failed
counted_then x y z failed first next = subst (λ (n : ℕ). Counted n z failed) (first.kept refl) next

-- ---- what an answer says of the counts

pub tree_of_folder : (X : Type 0) (fault : StoreFault) → fails {X = X} blame_of (Err fault) ≡ tree_failed (worked_of (Err (of_folder fault)))
tree_of_folder X store.Failed = refl
tree_of_folder X store.OutOfMemory = refl

pub unrun_of_folder : (fault : StoreFault) → has_run (worked_of (Err (of_folder fault))) ≡ false
unrun_of_folder store.Failed = refl
unrun_of_folder store.OutOfMemory = refl

pub lives_of_folder : (fault : StoreFault) → false ≡ has_died (worked_of (Err (of_folder fault)))
lives_of_folder store.Failed = refl
lives_of_folder store.OutOfMemory = refl

pub died_of_run : (fault : RunFault) → run_died (Err fault) ≡ has_died (worked_of (Err fault))
died_of_run run.Died = refl
died_of_run run.Tree = refl
died_of_run run.OutOfMemory = refl

pub tree_of_run : (fault : RunFault) → run_failed (Err fault) ≡ tree_failed (worked_of (Err fault))
tree_of_run run.Died = refl
tree_of_run run.Tree = refl
tree_of_run run.OutOfMemory = refl

pub lives_with_twin : (twin : Twin) → false ≡ has_died (worked_of (Ok twin))
lives_with_twin twin = at (twin.event.status == 0)
  where
    at : (built : Bool) → false ≡ has_died (cond built (Finished twin) (Failed twin))
    at true = refl
    at false = refl

pub tree_with_twin : (twin : Twin) → false ≡ tree_failed (worked_of (Ok twin))
tree_with_twin twin = at (twin.event.status == 0)
  where
    at : (built : Bool) → false ≡ tree_failed (cond built (Finished twin) (Failed twin))
    at true = refl
    at false = refl

-- ---- a partition's counts

-- it didn't run
pub counted_unrun : (lasting : Type 0) (counts : Counts) (worked : Worked) → has_run worked ≡ false → false ≡ has_died worked
    → IsCounted lasting counts counts worked
counted_unrun lasting counts worked unrun lives = record {
  later = omega arith;
  few = omega arith;
  ran = λ e. cc;
  deaths = subst (Counted counts.deaths counts.deaths) lives (counted_still counts.deaths);
  lasts = λ l. refl;
}

-- it ran once
pub counted_run : (lasting : Type 0) (old new : Counts) (worked : Worked) (died : Bool) → new.runs ≡ old.runs + 1 → Counted old.deaths new.deaths died
    → died ≡ has_died worked → (lasting → new.deaths ≡ old.deaths) → IsCounted lasting old new worked
counted_run lasting old new worked died once deaths same lasts = record {
  later = omega arith;
  few = omega arith;
  ran = λ e. once;
  deaths = subst (Counted old.deaths new.deaths) same deaths;
  lasts = lasts;
}
