-- What a spawner in memory was asked to run.
use Rattle.std.specs.Prelude.{List}
use Rattle.partition_face.specs.declared.mem_spawner.MemSpawner.{MemSpawner}
use Rattle.partition_face.specs.declared.spawner.ProgramRun.{ProgramRun}

abbrev pub runs_of : MemSpawner → List ProgramRun
runs_of spawner = spawner.runs.items
