-- How a program that compiles a dependency is started.
use Rattle.std.specs.Prelude.{ℕ, List, [], ◌∷◌, ◌++◌, codes, flat_map}
use Rattle.mx_base.specs.Layout.{build_folder}
use Rattle.compile_model.specs.declared.how.How.{How}
use Rattle.compile_model.specs.declared.how.How.TheVariants.{Program}
use Rattle.compile_model.specs.Planned.{words_of}
use Rattle.partition_face.specs.declared.spawner.Start.{Start}
use Rattle.partition_frames.specs.declared.frame.Frame.{Frame}
use Rattle.partition_frames.specs.declared.frame.Frame.TheVariants.{Job}

abbrev pub IsProgram : How → Type 0
IsProgram (Program words) = Unit {0}
IsProgram how = ⊥

-- a job that a program compiles
abbrev pub IsDriven : Frame → Type 0
IsDriven (Job number env app options how system_env dir needs) = IsProgram how
IsDriven frame = ⊥

-- the folder of an app's outputs, as _build/dev/lib/a
abbrev pub outputs_of : List ℕ → List ℕ → List ℕ
outputs_of env app = build_folder ++ (codes "/" ++ (env ++ (codes "/lib/" ++ app)))

-- an option with its value
abbrev pub with_value : List ℕ → List ℕ → List (List ℕ)
with_value option value = option ∷ value ∷ []

-- a need, and where its outputs lie
abbrev pub need_words : List ℕ → List ℕ → List (List ℕ)
need_words env need = with_value (codes "--need") need ++ outputs_of env need ∷ []

-- the job that is meant, where its sources lie and where its outputs go
abbrev pub job_words : List ℕ → List ℕ → List ℕ → List (List ℕ)
job_words env app dir =
    with_value (codes "--app") app ++ (with_value (codes "--env") env
    ++ (with_value (codes "--src") dir ++ with_value (codes "--out") (outputs_of env app)))

-- the words of the program, the job, and each need in order; the variables are those of the job
abbrev pub start_for : Frame → Start
start_for (Job number env app options how system_env dir needs) = record {
  words = (words_of how ++ job_words env app dir) ++ flat_map (need_words env) needs;
  variables = system_env;
}
start_for frame = record { words = []; variables = [] }
