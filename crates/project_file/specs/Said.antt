-- How it is said why a file of a project is refused.
use Rattle.std.specs.Prelude.{ℕ, List, codes}
use Rattle.elixir_terms.specs.Said.{term_said}
use Rattle.dep_options.specs.Said.{options_said}
use Rattle.project_file.specs.declared.error.ProjectError.{ProjectError}
use Rattle.project_file.specs.declared.error.ProjectError.TheVariants as project
use Rattle.project_file.specs.declared.error.SettingsError.{SettingsError}
use Rattle.project_file.specs.declared.error.SettingsError.TheVariants as settings

-- of a manifest
abbrev pub manifest_said : ProjectError → List ℕ
manifest_said project.Read = codes "read fault"
manifest_said (project.Term error) = term_said error
manifest_said project.Shape = codes "shape"
manifest_said (project.Options error) = options_said error
manifest_said project.OutOfMemory = codes "out of memory"

-- of the settings
abbrev pub settings_said : SettingsError → List ℕ
settings_said settings.Read = codes "read fault"
settings_said (settings.Term error) = term_said error
settings_said settings.Shape = codes "shape"
settings_said settings.OutOfMemory = codes "out of memory"
