-- What the refusals of inner calls become.
use Rattle.std.specs.Prelude.{if◌then◌else◌}
use Rattle.elixir_terms.specs.declared.error.TermError.{TermError}
use Rattle.term_tokens.specs.Refused.{is_memory}
use Rattle.dep_options.specs.declared.error.OptionError.{OptionError}
use Rattle.dep_options.specs.declared.error.OptionCause.{OptionCause}
use Rattle.dep_options.specs.declared.error.OptionCause.TheVariants as cause
use Rattle.tree_store.specs.declared.store.StoreFault.{StoreFault}
use Rattle.tree_store.specs.declared.store.StoreFault.TheVariants as store
use Rattle.project_file.specs.declared.error.ProjectError.{ProjectError}
use Rattle.project_file.specs.declared.error.ProjectError.TheVariants as project
use Rattle.project_file.specs.declared.error.SettingsError.{SettingsError}
use Rattle.project_file.specs.declared.error.SettingsError.TheVariants as settings

-- a manifest that is refused as a text
abbrev pub term_refused : TermError → ProjectError
term_refused error = if is_memory error.cause then project.OutOfMemory else project.Term error

abbrev pub refused_as : OptionCause → OptionError → ProjectError
refused_as cause.OutOfMemory error = project.OutOfMemory
refused_as cause error = project.Options error

-- a manifest whose declarations are refused
abbrev pub options_refused : OptionError → ProjectError
options_refused error = refused_as error.cause error

-- a manifest that a store doesn't give
abbrev pub project_fault : StoreFault → ProjectError
project_fault store.Failed = project.Read
project_fault store.OutOfMemory = project.OutOfMemory

-- settings that are refused as a text
abbrev pub settings_term_refused : TermError → SettingsError
settings_term_refused error = if is_memory error.cause then settings.OutOfMemory else settings.Term error

-- settings that a store doesn't give
abbrev pub settings_fault : StoreFault → SettingsError
settings_fault store.Failed = settings.Read
settings_fault store.OutOfMemory = settings.OutOfMemory
