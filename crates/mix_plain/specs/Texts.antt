-- What the plain commands print.
use Rattle.std.specs.Prelude.{ℕ, List, [], ◌∷◌, ◌++◌, flat_map, codes}
use Rattle.compile_model.specs.declared.job.Job.{Job}
use Rattle.compile_model.specs.declared.job.Origin.{Origin}
use Rattle.compile_model.specs.declared.job.Origin.TheVariants as origin
use Rattle.mix_report.specs.App.{app_at}
use Rattle.staleness.specs.declared.why.Why.{Why}
use Rattle.staleness.specs.declared.why.Why.TheVariants.{NoMark, Options, Sources, Need}

-- where a dependency comes from
abbrev pub origin_text : Origin → List ℕ → List ℕ
origin_text origin.Path dir = codes "path " ++ dir
origin_text (origin.Hex name) dir = codes "hex " ++ name

abbrev pub dep_line : Job → List ℕ
dep_line job = codes "* " ++ job.app ++ codes " " ++ job.version ++ codes " (" ++ origin_text job.origin job.dir ++ codes ")\n"

-- the dependencies of a plan, one a line
abbrev pub deps_text : List Job → List ℕ
deps_text jobs = flat_map dep_line jobs

abbrev pub why_text : Why → List ℕ
why_text NoMark = codes "no mark"
why_text Options = codes "options"
why_text (Sources path) = codes "source " ++ path
why_text (Need app) = codes "need " ++ app

abbrev pub stale_line : List Job → ℕ × Why → List ℕ
stale_line jobs row = app_at jobs row.0 ++ codes ": " ++ why_text row.1 ++ codes "\n"

-- each stale dependency with the reason, one a line
abbrev pub stale_text : List Job → List (ℕ × Why) → List ℕ
stale_text jobs [] = codes "nothing is stale\n"
stale_text jobs (row ∷ rows) = flat_map (stale_line jobs) (row ∷ rows)

abbrev pub cleaned_text : List ℕ
cleaned_text = codes "cleaned\n"
