-- Whom a refusal of a project's files blames.
use Rattle.mx_base.specs.Blame.{Blame}
use Rattle.mx_base.specs.Blame.Blame.{Input, Outside, Memory}
use Rattle.project_file.specs.declared.error.ProjectError.{ProjectError}
use Rattle.project_file.specs.declared.error.ProjectError.TheVariants as project
use Rattle.project_file.specs.declared.error.SettingsError.{SettingsError}
use Rattle.project_file.specs.declared.error.SettingsError.TheVariants as settings

abbrev pub project_blame : ProjectError → Blame
project_blame project.Read = Outside
project_blame project.OutOfMemory = Memory
project_blame error = Input

abbrev pub settings_blame : SettingsError → Blame
settings_blame settings.Read = Outside
settings_blame settings.OutOfMemory = Memory
settings_blame error = Input
