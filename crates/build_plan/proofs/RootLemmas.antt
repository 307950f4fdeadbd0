-- The settings and the root, as a plan reads them.
use Rattle.std.proofs.Common.{◌≡◌, ℕ, List, [], Option, Some, None, Err, IfSome, refl}
use Rattle.mx_base.specs.Blame.Blame.{Input}
use Rattle.mx_base.specs.declared.file.File.{File}
use Rattle.project_file.specs.declared.error.ProjectError.{ProjectError}
use Rattle.project_file.specs.declared.error.ProjectError.TheVariants as project
use Rattle.project_file.specs.declared.error.SettingsError.{SettingsError}
use Rattle.project_file.specs.declared.error.SettingsError.TheVariants as settings
use Rattle.project_file.specs.Blame.{project_blame, settings_blame}
use Rattle.project_file.specs.Files.{AreSettings, IsLoaded, manifest_at}
use Rattle.build_plan.specs.Blame.{blame_of}
use Rattle.build_plan.specs.Refusals.{of_project, of_settings}
use Rattle.build_plan.specs.Stages.{HasRoot, SetsUp}

pub if_settings : (told : Option (List File)) (fault : SettingsError) → (settings_blame fault ≡ Input → IfSome told (λ files. AreSettings files (Err fault))) → blame_of (of_settings fault) ≡ Input → IfSome told (λ files. SetsUp files (Err (of_settings fault)))
if_settings told settings.Read says input = cc
if_settings told (settings.Term error) says input = says refl
if_settings told settings.Shape says input = says refl
if_settings told settings.OutOfMemory says input = cc

here : (told : Option (List File)) (path : List ℕ) (P : List File → Type 0) → path ≡ manifest_at [] → IfSome told P → IfSome told (λ files. (path ≡ manifest_at []) × P files)
here None path P place says = tt
here (Some files) path P place says = (place, says)

pub if_project : (told : Option (List File)) (path : List ℕ) (fault : ProjectError) → path ≡ manifest_at [] → (project_blame fault ≡ Input → IfSome told (λ files. IsLoaded files [] (Err fault))) → blame_of (of_project path fault) ≡ Input → IfSome told (λ files. HasRoot files (Err (of_project path fault)))
if_project told path project.Read place says input = cc
if_project told path (project.Term error) place says input = here told path (λ files. IsLoaded files [] (Err (project.Term error))) place (says refl)
if_project told path project.Shape place says input = here told path (λ files. IsLoaded files [] (Err project.Shape)) place (says refl)
if_project told path (project.Options error) place says input = here told path (λ files. IsLoaded files [] (Err (project.Options error))) place (says refl)
if_project told path project.OutOfMemory place says input = cc
