-- The files of a project say something, where each text has a reading or a refusal.
use Rattle.std.specs.Prelude.{IsFalse}
use Rattle.std.proofs.Common.{◌≡◌, ◌⊎◌, inl, inr, ℕ, List, [], Option, Some, None, Result, Ok, Err, refl, ⊎_elim}
use Rattle.mx_base.specs.declared.file.File.{File}
use Rattle.mx_base.specs.Order.{bytes_at}
use Rattle.elixir_terms.specs.declared.error.TermError.{TermError}
use Rattle.term_values.specs.declared.term.Term.{Term}
use Rattle.term_tokens.specs.Refused.{is_memory}
use Rattle.term_print.specs.Spells.{Spells}
use Rattle.elixir_terms.specs.Refusals.{IsRefusal}
use Rattle.elixir_terms.specs.Within.{Within}
use Rattle.dep_options.specs.declared.decl.Decl.{Decl}
use Rattle.dep_options.specs.declared.error.OptionError.{OptionError}
use Rattle.dep_options.specs.Decls.{AreDecls}
use Rattle.dep_options.proofs.SomeLemmas.{some_of}
use Rattle.project_file.specs.declared.error.ProjectError.{ProjectError}
use Rattle.project_file.specs.declared.error.ProjectError.TheVariants as project
use Rattle.project_file.specs.declared.error.SettingsError.{SettingsError}
use Rattle.project_file.specs.declared.error.SettingsError.TheVariants as settings
use Rattle.project_file.specs.declared.project.Project.{Project}
use Rattle.project_file.specs.declared.settings.Settings.{Settings}
use Rattle.project_file.specs.Compilers.{settings_of, no_settings}
use Rattle.elixir_terms.specs.ReadAs.{IsReadAs, IsRefusedText}
use Rattle.project_file.specs.Files.{IsManifest, SaysProject, IsLoaded, SaysSettings, AreSettings, manifest_at, settings_path}
use Rattle.project_file.specs.Files.IsManifest.{unread, read}
use Rattle.project_file.specs.Files.SaysProject.{absent, loaded, refused}
use Rattle.project_file.specs.Files.SaysSettings.{absent as unset, unread as unread_settings, shape as no_shape, set}
use Rattle.project_file.specs.Manifest.{Stated, stated_of, project_of, IsProject}
use Rattle.project_file.specs.Manifest.IsProject.{shape, bare, options, whole}
use Rattle.project_file.proofs.VersionLemmas.{versioned_of}

-- each text is read as a term within the limits, or refused
abbrev pub EachReading : Type 0
EachReading = (text : List ℕ) → ((t : Term) × IsReadAs text t) ⊎ ((error : TermError) × IsRefusedText text error)

-- as the law of terms has it
pub each_reading : ((text : List ℕ) → ((t : Term) × Spells text t × Within text t) ⊎ ((error : TermError) × IsFalse (is_memory error.cause) × IsRefusal text error.at error.cause)) → EachReading
each_reading each text = ⊎_elim (λ spelled. inl (spelled.0, (spelled.1, spelled.2))) (λ why. inr (why.0, (why.1, why.2))) (each text)

abbrev Said : List ℕ → Term → Type 0
Said dir t = (answer : Result Project ProjectError) × IsProject dir t answer

with_decls : (dir : List ℕ) (t : Term) (s : Stated) (deps : Term) → stated_of t ≡ Some s → s.deps ≡ Some deps → (answer : Result (List Decl) OptionError) → AreDecls dir deps answer → Said dir t
with_decls dir t s deps e some (Ok decls) are =
    let versioned = versioned_of t s e in (Ok (project_of s versioned decls), whole s versioned deps e some are)
with_decls dir t s deps e some (Err error) are = (Err (project.Options error), options s deps e some are)

by_deps : (dir : List ℕ) (t : Term) (s : Stated) → stated_of t ≡ Some s → (deps : Option Term) → s.deps ≡ deps → Said dir t
by_deps dir t s e None none = let versioned = versioned_of t s e in (Ok (project_of s versioned []), bare s versioned e none)
by_deps dir t s e (Some deps) some = let them = some_of dir deps in with_decls dir t s deps e some them.0 them.1

by_shape : (dir : List ℕ) (t : Term) (o : Option Stated) → stated_of t ≡ o → Said dir t
by_shape dir t None e = (Err project.Shape, shape e)
by_shape dir t (Some s) e = by_deps dir t s e s.deps refl

some_manifest : EachReading → (dir text : List ℕ) → (answer : Result Project ProjectError) × IsManifest dir text answer
some_manifest each dir text =
    ⊎_elim
    (λ (spelled : (t : Term) × IsReadAs text t). let said = by_shape dir spelled.0 (stated_of spelled.0) refl in (said.0, read spelled.0 spelled.1 said.1))
    (λ (why : (error : TermError) × IsRefusedText text error). (Err (project.Term why.0), unread why.1))
    (each text)

of_manifest : (dir text : List ℕ) (answer : Result Project ProjectError) → IsManifest dir text answer → (said : Result (Option Project) ProjectError) × SaysProject dir (Some text) said
of_manifest dir text (Ok p) is = (Ok (Some p), loaded is)
of_manifest dir text (Err error) is = (Err error, refused is)

some_text : EachReading → (dir : List ℕ) (text : Option (List ℕ)) → (answer : Result (Option Project) ProjectError) × SaysProject dir text answer
some_text each dir None = (Ok None, absent)
some_text each dir (Some text) = let said = some_manifest each dir text in of_manifest dir text said.0 said.1

-- the manifest in a folder says something, or is refused
pub some_project : EachReading → (files : List File) (dir : List ℕ) → (answer : Result (Option Project) ProjectError) × IsLoaded files dir answer
some_project each files dir = some_text each dir (bytes_at (manifest_at dir) files)

by_settings : (text : List ℕ) (t : Term) → IsReadAs text t → (o : Option Settings) → settings_of t ≡ o → (answer : Result Settings SettingsError) × SaysSettings (Some text) answer
by_settings text t spelled None e = (Err settings.Shape, no_shape t spelled e)
by_settings text t spelled (Some s) e = (Ok s, set t spelled e)

settings_in : EachReading → (text : Option (List ℕ)) → (answer : Result Settings SettingsError) × SaysSettings text answer
settings_in each None = (Ok no_settings, unset)
settings_in each (Some text) =
    ⊎_elim
    (λ (spelled : (t : Term) × IsReadAs text t). by_settings text spelled.0 spelled.1 (settings_of spelled.0) refl)
    (λ (why : (error : TermError) × IsRefusedText text error). (Err (settings.Term why.0), unread_settings why.1))
    (each text)

-- the settings of a project say something, or are refused
pub some_settings : EachReading → (files : List File) → (answer : Result Settings SettingsError) × AreSettings files answer
some_settings each files = settings_in each (bytes_at settings_path files)
