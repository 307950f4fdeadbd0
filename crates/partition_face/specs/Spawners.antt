-- What a spawner of programs is known by, and what its calls do to that.
use Rattle.std.specs.Prelude.{◌≡◌, ◌⊎◌, ℕ, ◌≤◌, List, [], ◌∷◌, ◌++◌, length, Option, Some, None, option_map, Result, Ok, Err, IfOk}
use Rattle.mx_base.specs.Blame.{Blame, fails}
use Rattle.mx_base.specs.Blame.Blame.{Outside, Memory}
use Rattle.mx_base.specs.Causes.{Counted}
use Rattle.compile_model.specs.declared.outcome.Verdict.{Verdict}
use Rattle.partition_face.specs.declared.spawner.ProgramRun.{ProgramRun}
use Rattle.partition_face.specs.declared.spawner.SpawnFault.{SpawnFault}
use Rattle.partition_face.specs.declared.spawner.SpawnFault.TheVariants.{Failed, OutOfMemory}
use Rattle.partition_face.specs.declared.spawner.Start.{Start}

abbrev pub blame_of : SpawnFault → Blame
blame_of Failed = Outside
blame_of OutOfMemory = Memory

-- how many bytes of a program's output are kept: 1 MiB
abbrev pub most_output : ℕ
most_output = 1048576

pub record SpawnerKnown : Type 0 where
  -- what it ran, where it tells
  pub runs : Option (List ProgramRun)
  -- how often it failed
  pub faults : ℕ

abbrev pub spawner_of : Option (List ProgramRun) → ℕ → SpawnerKnown
spawner_of runs faults = record { runs = runs; faults = faults }

-- one run more, where it tells
abbrev pub with_run : Start → Option Verdict → Option (List ProgramRun) → Option (List ProgramRun)
with_run start verdict told = option_map (λ runs. runs ++ record { start = start; verdict = verdict } ∷ []) told

-- what the runs are after a start that came to this; where memory ran out the program was run or not
abbrev pub HasRun : Start → Option (List ProgramRun) → Option (List ProgramRun) → Result Verdict SpawnFault → Type 0
HasRun start old new (Ok verdict) = new ≡ with_run start (Some verdict) old
HasRun start old new (Err Failed) = new ≡ with_run start None old
HasRun start old new (Err OutOfMemory) = (new ≡ old) ⊎ ((verdict : Option Verdict) × (new ≡ with_run start verdict old))

-- the program was run, or the spawner failed, and counted it
pub record Spawns (start : Start) (old new : SpawnerKnown) (result : Result Verdict SpawnFault) : Type 0 where
  pub run : HasRun start old.runs new.runs result
  pub output : IfOk result (λ verdict. length verdict.text ≤ most_output)
  pub cause : Counted old.faults new.faults (fails blame_of result)
