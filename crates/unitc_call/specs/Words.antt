-- The words of a call.
use Rattle.std.specs.Prelude.{ℕ, Bool, ◌&&◌, List, [], ◌∷◌, Option, Some, None, option_map, Result, Ok, Err, if◌then◌else◌, codes, bytes_eq}
use Rattle.std.specs.List.{concat}
use Rattle.mx_base.specs.AppName.{is_app_name}
use Rattle.mx_base.specs.Join.{joined}
use Rattle.mx_base.specs.Layout.{build_folder, is_in_build}
use Rattle.mx_base.specs.declared.path_join.PathError.{PathError}
use Rattle.unitc_call.specs.declared.words.Task.{Task}

-- the folder of what an app's compiling gives in an environment
abbrev pub output_folder : List ℕ → List ℕ → List ℕ
output_folder env app = concat (build_folder ∷ codes "/" ∷ env ∷ codes "/lib/" ∷ app ∷ [])

-- an app, and the folder of what its compiling gives
abbrev pub is_output : (env app folder : List ℕ) → Bool
is_output env app folder = is_app_name app && bytes_eq folder (output_folder env app)

abbrev pub outside_build : Result (List ℕ) PathError → Option (List ℕ)
outside_build (Ok path) = if is_in_build path then None else Some path
outside_build (Err error) = None

-- the folder of sources that a text names from the root, where it isn't in the folder of builds
abbrev pub source_folder : List ℕ → Option (List ℕ)
source_folder text = outside_build (joined [] text)

-- the apps of the needs that further words name, three words each
abbrev pub needs_of : List ℕ → List (List ℕ) → Option (List (List ℕ))
needs_of env [] = Some []
needs_of env (option ∷ []) = None
needs_of env (option ∷ app ∷ []) = None
needs_of env (option ∷ app ∷ folder ∷ more) =
    if bytes_eq option (codes "--need") && is_output env app folder then option_map (λ needs. app ∷ needs) (needs_of env more) else None

abbrev pub task_with : (app env : List ℕ) → Option (List ℕ) → Option (List (List ℕ)) → Option Task
task_with app env None needs = None
task_with app env (Some src) None = None
task_with app env (Some src) (Some needs) = Some (record { app = app; env = env; src = src; needs = needs })

-- the four options of each call, in their order
abbrev pub are_options : (app env src out : List ℕ) → Bool
are_options app env src out =
    bytes_eq app (codes "--app") && bytes_eq env (codes "--env") && bytes_eq src (codes "--src") && bytes_eq out (codes "--out")

-- what the words ask for: `--app APP --env ENV --src DIR --out DIR`, and `--need APP DIR` for each need
abbrev pub task_of : List (List ℕ) → Option Task
task_of (a ∷ app ∷ e ∷ env ∷ s ∷ src ∷ o ∷ out ∷ more) =
    if are_options a e s o && (is_app_name env && is_output env app out) then task_with app env (source_folder src) (needs_of env more) else None
task_of words = None
