-- A plan is met in stages.
use Rattle.std.proofs.Common.{ℕ, List, [], Option, Some, None, Result, Ok, Err, refl, sym, subst}
use Rattle.mx_base.specs.declared.file.File.{File}
use Rattle.compile_model.specs.declared.job.Job.{Job}
use Rattle.dep_options.specs.declared.decl.Decl.{Decl}
use Rattle.dep_rows.specs.declared.row.Row.{Row}
use Rattle.dep_rows.specs.Listed.{Listed}
use Rattle.project_file.specs.declared.error.ProjectError.{ProjectError}
use Rattle.project_file.specs.declared.error.SettingsError.{SettingsError}
use Rattle.project_file.specs.declared.project.Project.{Project}
use Rattle.project_file.specs.declared.settings.Settings.{Settings}
use Rattle.project_file.specs.Files.{IsLoaded, AreSettings, manifest_at}
use Rattle.build_plan.specs.declared.error.PlanError.{PlanError}
use Rattle.build_plan.specs.declared.error.PlanError.TheVariants as refused
use Rattle.build_plan.specs.Jobs.{Schedule}
use Rattle.build_plan.specs.Plan.{Build, Converge, IsPlan, IsPlanOf, IsSchedule, build_of}
use Rattle.build_plan.specs.Plan.IsPlan.{settings as root_settings, no_project, project, of_root}
use Rattle.build_plan.specs.Plan.IsPlanOf.{settings, dependency, too_many, diverged, cycle, too_large, planned}
use Rattle.build_plan.specs.Stages.{ListsRows, LivesTogether, MakesJobs, Schedules, Then}
use Rattle.build_plan.specs.Stages.ListsRows.{meets, passes, lists}
use Rattle.build_plan.specs.Stages.LiveWith.{diverges, lives}
use Rattle.build_plan.specs.Stages.MakesJobs.{passes_size, makes}
use Rattle.build_plan.specs.Stages.Schedules.{circles, orders}
use Rattle.build_plan.specs.Stages.Then.{stops, goes_on}
use Rattle.build_plan.proofs.Steps.{Becomes}

abbrev pub settings_answer : Result Settings SettingsError → Result Settings PlanError
settings_answer (Ok set) = Ok set
settings_answer (Err error) = Err (refused.Settings error)

abbrev pub root_answer : Result (Option Project) ProjectError → Result Project PlanError
root_answer (Ok None) = Err refused.NoProject
root_answer (Ok (Some root)) = Ok root
root_answer (Err fault) = Err (refused.Project (manifest_at []) fault)

abbrev pub FromRows : List File → Settings → List ℕ → List ℕ → Listed → Result (List Job) PlanError → Type 0
FromRows files set env target listed = Then (LivesTogether files listed) (λ live. Then (Schedules set listed.rows env target) (MakesJobs files))

abbrev pub FromDecls : List File → List ℕ → List ℕ → List Decl → Settings → Result (List Job) PlanError → Type 0
FromDecls files env target root set = Then (ListsRows files root) (FromRows files set env target)

abbrev pub FromSettings : List File → List ℕ → List ℕ → Settings → Result (List Job) PlanError → Type 0
FromSettings files env target set = Then (Becomes (IsLoaded files []) root_answer) (λ (root : Project). FromDecls files env target root.decls set)

-- over given root declarations
abbrev pub FromRoot : List File → List Decl → List ℕ → List ℕ → Result (List Job) PlanError → Type 0
FromRoot files root env target = Then (Becomes (AreSettings files) settings_answer) (FromDecls files env target root)

abbrev pub FromFiles : List File → List ℕ → List ℕ → Result (List Job) PlanError → Type 0
FromFiles files env target = Then (Becomes (AreSettings files) settings_answer) (FromSettings files env target)

module _ (files : List File) (root : List Decl) (env target : List ℕ) where
  from_decls : (set : Settings) {answer : Result (List Job) PlanError} → AreSettings files (Ok set) → FromDecls files env target root set answer
      → FromRoot files root env target answer
  from_decls set is next = goes_on set (Ok set, is, refl) next

  from_rows : (set : Settings) (rows : List Row) {answer : Result (List Job) PlanError} → AreSettings files (Ok set) → Converge files root rows
      → Then (Schedules set rows env target) (MakesJobs files) answer → FromRoot files root env target answer
  from_rows set rows is converge next =
      let listed : Listed = record { rows = rows; winners = converge.winners } in
      from_decls set is
      (goes_on listed (lists listed converge.listed.rows converge.listed.few)
      (goes_on listed (record { versions = converge.versions; known = converge.listed.known; together = lives converge.together }) next))

  schedule_of : (schedule : Schedule) → IsSchedule files root (build_of env target) schedule
      → Schedules schedule.settings schedule.rows env target (Ok schedule)
  schedule_of schedule is =
      subst (λ (t : List ℕ). Schedules schedule.settings schedule.rows env target (Ok (record schedule { target = t }))) (sym is.aimed)
      (orders schedule.places schedule.order is.reached is.ordered)

  from_schedule : (schedule : Schedule) {answer : Result (List Job) PlanError} → IsSchedule files root (build_of env target) schedule
      → MakesJobs files schedule answer → FromRoot files root env target answer
  from_schedule schedule is made = from_rows schedule.settings schedule.rows is.set is.converge (goes_on schedule (schedule_of schedule is) made)

pub staged_of : {files : List File} {root : List Decl} {build : Build} {answer : Result (List Job) PlanError}
    → IsPlanOf files root build answer → FromRoot files root build.env build.target answer
staged_of (settings {error = error} said) = stops (Err error, said, refl)
staged_of {files = files} {root = root} {build = build} (dependency set is met) =
    from_decls files root build.env build.target set is (stops (meets met))
staged_of {files = files} {root = root} {build = build} (too_many set is many) =
    from_decls files root build.env build.target set is (stops (passes many))
staged_of {files = files} {root = root} {build = build} (diverged set listed versions divergences is are apart some said) =
    from_decls files root build.env build.target set is
    (goes_on listed (lists listed are.rows are.few)
    (stops (record { versions = versions; known = are.known; together = diverges divergences apart some said })))
staged_of {files = files} {root = root} {build = build} (cycle set rows places nodes is converge reached around) =
    from_rows files root build.env build.target set rows is converge (stops (circles places nodes reached around))
staged_of {files = files} {root = root} {build = build} (too_large schedule jobs job is first fit large) =
    from_schedule files root build.env build.target schedule is (passes_size jobs job first fit large)
staged_of {files = files} {root = root} {build = build} (planned schedule is first whole fit) =
    from_schedule files root build.env build.target schedule is (makes first whole fit)

-- what is met over the root's declarations is met over the files
of_files : {files : List File} {env target : List ℕ} {answer : Result (List Job) PlanError} (root : Project) → IsLoaded files [] (Ok (Some root))
    → FromRoot files root.decls env target answer → FromFiles files env target answer
of_files root reads (stops why) = stops why
of_files root reads (goes_on set is next) = goes_on set is (goes_on root (Ok (Some root), reads, refl) next)

pub staged : {files : List File} {env target : List ℕ} {answer : Result (List Job) PlanError} → IsPlan files env target answer
    → FromFiles files env target answer
staged (root_settings {error = error} said) = stops (Err error, said, refl)
staged (no_project set said none) = goes_on set (Ok set, said, refl) (stops (Ok None, none, refl))
staged (project set {fault = fault} said why) = goes_on set (Ok set, said, refl) (stops (Err fault, why, refl))
staged (of_root root reads plan) = of_files root reads (staged_of plan)
