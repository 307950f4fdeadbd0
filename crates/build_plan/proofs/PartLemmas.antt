-- The parts of a job.
use Rattle.std.proofs.Common.{◌≡◌, List, ◌∙◌, Result, Ok, Err}
use Rattle.std.specs.Prelude.{IfOk}
use Rattle.mx_base.specs.declared.file.File.{File}
use Rattle.compile_model.specs.declared.job.Job.{Job}
use Rattle.build_plan.specs.declared.post.Post.{Post}
use Rattle.build_plan.specs.declared.recipe.Recipe.{Recipe}
use Rattle.build_plan.specs.declared.scene.Needs.{Needs}
use Rattle.build_plan.specs.Jobs.{Schedule, places_in}
use Rattle.build_plan.specs.Needs.{apps_of}
use Rattle.build_plan.specs.Recipes.{IsRecipe}
use Rattle.build_plan.specs.Scenes.{job_from, job_of_parts}

-- by a recipe for it and its needs a job is that of its winner
parts_give : (schedule : Schedule) (post : Post) (recipe : Recipe) (needs : Needs) (sources : List File) (job : Job) → job ≡ job_of_parts post recipe needs sources
    → IsRecipe schedule post sources recipe → needs.places ≡ places_in schedule.order post.reached.items
    → needs.apps ≡ apps_of schedule.rows schedule.places post.reached.items → job ≡ job_from schedule post sources
parts_give schedule post recipe needs sources job is made places apps =
    is ∙ cc (made.version, made.how, made.options, made.system_env, places, apps)

pub parts_given : {E : Type 0} (schedule : Schedule) (post : Post) (recipe : Recipe) (needs : Needs) (sources : List File) (result : Result Job E)
    → IfOk result (λ job. job ≡ job_of_parts post recipe needs sources) → IsRecipe schedule post sources recipe
    → needs.places ≡ places_in schedule.order post.reached.items → needs.apps ≡ apps_of schedule.rows schedule.places post.reached.items
    → IfOk result (λ job. job ≡ job_from schedule post sources)
parts_given schedule post recipe needs sources (Ok job) is made places apps = parts_give schedule post recipe needs sources job is made places apps
parts_given schedule post recipe needs sources (Err e) is made places apps = tt
