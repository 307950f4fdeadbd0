-- Whether a mark describes an input.
use Rattle.std.specs.Prelude.{◌≡◌, ℕ, ◌+◌, ◌==◌, Bool, true, false, ◌&&◌, List, [], ◌∷◌, map, Option, Some, None, slice_get}
use Rattle.std.specs.Str.{bytes_eq}
use Rattle.mx_base.specs.declared.row.FileRow.{FileRow}
use Rattle.compile_model.specs.declared.job.Job.{Job}
use Rattle.compile_model.specs.declared.outcome.Outcome.{Outcome}
use Rattle.build_manifest.specs.Mark.{MarkView, Need}

-- the mark is of the job's options text, of its sources and of needs with its needs' apps
pub record IsOfJob (mark : MarkView) (job : Job) : Type 0 where
  pub options : mark.options ≡ job.options
  pub sources : mark.sources ≡ job.rows
  pub apps : map (λ need. need.1) mark.needs ≡ job.need_apps

-- and the outputs of its needs are these: the mark describes the input
pub record Describes (mark : MarkView) (job : Job) (outcomes : List Outcome) : Type 0 where
  pub described : IsOfJob mark job
  pub outputs : map (λ need. need.0) mark.needs ≡ map (λ outcome. outcome.digest) outcomes

abbrev pub same_row : FileRow → FileRow → Bool
same_row one other = one.length == other.length && bytes_eq one.digest other.digest && bytes_eq one.path other.path

abbrev pub same_rows : List FileRow → List FileRow → Bool
same_rows [] [] = true
same_rows [] (other ∷ others) = false
same_rows (row ∷ rows) [] = false
same_rows (row ∷ rows) (other ∷ others) = same_row row other && same_rows rows others

-- the needs are of these apps, in order
abbrev pub same_apps : List Need → List (List ℕ) → Bool
same_apps [] [] = true
same_apps [] (app ∷ apps) = false
same_apps (need ∷ needs) [] = false
same_apps (need ∷ needs) (app ∷ apps) = bytes_eq need.1 app && same_apps needs apps

-- the options text, the source rows and the needs' apps are equal
abbrev pub job_matches : MarkView → Job → Bool
job_matches mark job = bytes_eq mark.options job.options && same_rows mark.sources job.rows && same_apps mark.needs job.need_apps

abbrev pub output_matches : Option Need → Outcome → Bool
output_matches None outcome = false
output_matches (Some need) outcome = bytes_eq need.0 outcome.digest

-- the need of this index has this output
abbrev pub need_matches : List Need → ℕ → Outcome → Bool
need_matches needs index outcome = output_matches (slice_get needs index) outcome

-- the needs from this index on have these outputs
abbrev pub needs_match : List Need → ℕ → List Outcome → Bool
needs_match needs index [] = true
needs_match needs index (outcome ∷ outcomes) = need_matches needs index outcome && needs_match needs (index + 1) outcomes

-- the mark is that of the job with these outcomes of its needs
abbrev pub matches : MarkView → Job → List Outcome → Bool
matches mark job outcomes = job_matches mark job && needs_match mark.needs 0 outcomes
