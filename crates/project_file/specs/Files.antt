-- What a project's files say.
use Rattle.std.specs.Prelude.{◌≡◌, ℕ, Bool, ◌||◌, List, Option, Some, None, is_some, Result, Ok, Err, IfSome, if◌then◌else◌, codes}
use Rattle.mx_base.specs.declared.file.File.{File}
use Rattle.mx_base.specs.Layout.{manifest_name, settings_name}
use Rattle.mx_base.specs.Order.{bytes_at}
use Rattle.mx_base.specs.Path.{child_of}
use Rattle.tree_store.specs.Known.{Known}
use Rattle.elixir_terms.specs.declared.error.TermError.{TermError}
use Rattle.term_values.specs.declared.term.Term.{Term}
use Rattle.elixir_terms.specs.ReadAs.{IsReadAs, IsRefusedText}
use Rattle.dep_options.specs.declared.decl.Manager.{Manager}
use Rattle.dep_options.specs.declared.decl.Manager.TheVariants.{Mix, Rebar3, Make}
use Rattle.project_file.specs.declared.error.ProjectError.{ProjectError}
use Rattle.project_file.specs.declared.error.ProjectError.TheVariants as project
use Rattle.project_file.specs.declared.error.SettingsError.{SettingsError}
use Rattle.project_file.specs.declared.error.SettingsError.TheVariants as settings
use Rattle.project_file.specs.declared.project.Project.{Project}
use Rattle.project_file.specs.declared.settings.Settings.{Settings}
use Rattle.project_file.specs.Manifest.{IsProject}
use Rattle.project_file.specs.Compilers.{settings_of, no_settings}

-- what the text of a manifest in this folder says, or why it is refused
pub data IsManifest (dir text : List ℕ) : Result Project ProjectError → Type 0 where
  unread : {error : TermError} → IsRefusedText text error → IsManifest dir text (Err (project.Term error))
  read : (t : Term) {answer : Result Project ProjectError} → IsReadAs text t → IsProject dir t answer → IsManifest dir text answer

-- what a folder says whose manifest is this text: nothing without one, else the project, or why it is refused
pub data SaysProject (dir : List ℕ) : Option (List ℕ) → Result (Option Project) ProjectError → Type 0 where
  absent : SaysProject dir None (Ok None)
  loaded : {text : List ℕ} {p : Project} → IsManifest dir text (Ok p) → SaysProject dir (Some text) (Ok (Some p))
  refused : {text : List ℕ} {error : ProjectError} → IsManifest dir text (Err error) → SaysProject dir (Some text) (Err error)

-- the path of a manifest
abbrev pub manifest_at : List ℕ → List ℕ
manifest_at dir = child_of dir (manifest_name)

-- what the manifest in a folder says
abbrev pub IsLoaded : List File → List ℕ → Result (Option Project) ProjectError → Type 0
IsLoaded files dir answer = SaysProject dir (bytes_at (manifest_at dir) files) answer

-- what a project says whose settings are this text, or why they are refused
pub data SaysSettings : Option (List ℕ) → Result Settings SettingsError → Type 0 where
  absent : SaysSettings None (Ok no_settings)
  unread : {text : List ℕ} {error : TermError} → IsRefusedText text error → SaysSettings (Some text) (Err (settings.Term error))
  shape : {text : List ℕ} (t : Term) → IsReadAs text t → settings_of t ≡ None → SaysSettings (Some text) (Err settings.Shape)
  set : {text : List ℕ} (t : Term) {s : Settings} → IsReadAs text t → settings_of t ≡ Some s → SaysSettings (Some text) (Ok s)

-- the path of the settings
abbrev pub settings_path : List ℕ
settings_path = settings_name

-- what the settings of a project say
abbrev pub AreSettings : List File → Result Settings SettingsError → Type 0
AreSettings files answer = SaysSettings (bytes_at settings_path files) answer

-- there is a text at the path, or none, of which the answer is what it says; it is the file's, where files are told
pub record IsOfText {A : Type 0} (known : Known) (path : List ℕ) (Says : Option (List ℕ) → A → Type 0) (answer : A) : Type 0 where
  pub text : Option (List ℕ)
  pub in_file : IfSome known.sources (λ files. text ≡ bytes_at path files)
  pub says : Says text answer

-- a file of this name stands in the folder
abbrev pub has_file : List File → List ℕ → List ℕ → Bool
has_file files dir name = is_some (bytes_at (child_of dir name) files)

-- the manager of a dependency, by the files in its folder
abbrev pub manager_by_files : List File → List ℕ → Manager
manager_by_files files dir =
    if has_file files dir (manifest_name) || has_file files dir (codes "mix.exs") then Mix
    else if has_file files dir (codes "rebar.config") then Rebar3
    else if has_file files dir (codes "Makefile") then Make
    else Mix
