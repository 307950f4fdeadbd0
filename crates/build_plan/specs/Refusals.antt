-- What the refusals of inner calls become.
use Rattle.std.specs.Prelude.{ℕ, List}
use Rattle.dep_rows.specs.declared.error.RowsError.{RowsError}
use Rattle.dep_rows.specs.declared.error.RowsError.TheVariants as rows
use Rattle.project_file.specs.declared.error.ProjectError.{ProjectError}
use Rattle.project_file.specs.declared.error.ProjectError.TheVariants as project
use Rattle.project_file.specs.declared.error.SettingsError.{SettingsError}
use Rattle.project_file.specs.declared.error.SettingsError.TheVariants as settings
use Rattle.tree_store.specs.declared.store.StoreFault.{StoreFault}
use Rattle.tree_store.specs.declared.store.StoreFault.TheVariants as store
use Rattle.build_plan.specs.declared.error.PlanError.{PlanError}
use Rattle.build_plan.specs.declared.error.PlanError.TheVariants.{Read, Settings, Project, TooManyRows, OutOfMemory}

-- what a store doesn't give
abbrev pub of_store : StoreFault → PlanError
of_store store.Failed = Read
of_store store.OutOfMemory = OutOfMemory

-- the settings are refused
abbrev pub of_settings : SettingsError → PlanError
of_settings settings.Read = Read
of_settings settings.OutOfMemory = OutOfMemory
of_settings error = Settings error

-- the manifest at a path is refused
abbrev pub of_project : List ℕ → ProjectError → PlanError
of_project path project.Read = Read
of_project path project.OutOfMemory = OutOfMemory
of_project path fault = Project path fault

-- the rows can't be listed
abbrev pub of_rows : RowsError PlanError → PlanError
of_rows (rows.Children error) = error
of_rows rows.TooManyRows = TooManyRows
of_rows rows.OutOfMemory = OutOfMemory
