-- What holds of the jobs of a plan.
use Rattle.std.specs.Prelude.{◌≡◌, ◌≢◌, ℕ, ◌+◌, ◌<◌, ◌≤◌, List, [], length, map, filter_map, option_map, sum, Option, Some, slice_get, IsFalse}
use Rattle.std.specs.List.{All, AllPairs, Contains}
use Rattle.mx_base.specs.Layout.{is_in_build}
use Rattle.mx_base.specs.declared.variable.Variable.{Variable}
use Rattle.compile_model.specs.declared.how.How.{How}
use Rattle.compile_model.specs.declared.how.How.TheVariants.{Nothing, Unit as ByUnit, Program}
use Rattle.compile_model.specs.declared.job.Job.{Job}

-- how many jobs a plan has at most, and how many needs a job
abbrev pub most_jobs : ℕ
most_jobs = 4096

abbrev pub most_needs : ℕ
most_needs = 4095

-- how many bytes are sent of a job at most: 8 MiB
abbrev pub most_sent : ℕ
most_sent = 8388608

-- a text that is sent has four bytes before it
abbrev pub sent : List ℕ → ℕ
sent text = length text + 4

-- the words of the program that compiles
abbrev pub words_of : How → List (List ℕ)
words_of Nothing = []
words_of ByUnit = []
words_of (Program words) = words

abbrev pub sent_variable : Variable → ℕ
sent_variable variable = sent variable.name + sent variable.value

-- how many bytes are sent of a job: its options text, the words that compile it, its variables and its folder
abbrev pub sent_size : Job → ℕ
sent_size job = sent job.options + (sum (map sent (words_of job.how)) + (sum (map sent_variable job.system_env) + sent job.dir))

-- one app is named for each need
abbrev pub IsNamed : Job → Type 0
IsNamed job = length job.need_apps ≡ length job.needs

-- what holds of a job by itself
pub record IsSound (job : Job) : Type 0 where
  pub few : length job.needs ≤ most_needs
  pub named : IsNamed job
  pub not_root : job.dir ≢ []
  pub outside : IsFalse (is_in_build job.dir)
  pub sent : sent_size job ≤ most_sent

abbrev pub app_at : List Job → ℕ → Option (List ℕ)
app_at jobs place = option_map (λ job. job.app) (slice_get jobs place)

-- the needs of a job at a place: smaller places, in order, with the needs of each of them and with their apps
pub record NeedsStand (jobs : List Job) (place : ℕ) (job : Job) : Type 0 where
  pub before : All (λ need. need < place) job.needs
  pub in_order : AllPairs (λ earlier later. earlier < later) job.needs
  pub closed : (need : ℕ) (other : Job) → Contains job.needs need → slice_get jobs need ≡ Some other → All (Contains job.needs) other.needs
  pub apps : job.need_apps ≡ filter_map (app_at jobs) job.needs

-- the jobs of a plan
pub record ArePlanned (jobs : List Job) : Type 0 where
  pub few : length jobs ≤ most_jobs
  pub apart : AllPairs (λ one other. one.app ≢ other.app) jobs
  pub sound : All IsSound jobs
  pub needs : (place : ℕ) (job : Job) → slice_get jobs place ≡ Some job → NeedsStand jobs place job
