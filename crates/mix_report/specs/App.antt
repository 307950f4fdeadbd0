-- How a place of a plan is named.
use Rattle.std.specs.Prelude.{ℕ, List, [], Option, Some, None, slice_get}
use Rattle.compile_model.specs.declared.job.Job.{Job}

abbrev pub app_of : Option Job → List ℕ
app_of (Some job) = job.app
app_of None = []

-- the app of the job at a place
abbrev pub app_at : List Job → ℕ → List ℕ
app_at jobs place = app_of (slice_get jobs place)
