-- The mark of what was built.
use Rattle.std.specs.Prelude.{◌≢◌, ℕ, List}
use Rattle.std.specs.List.{AllPairs}
use Rattle.mx_base.specs.declared.row.FileRow.{FileRow}
use Rattle.compile_model.specs.declared.job.Job.{Job}
use Rattle.compile_model.specs.declared.outcome.Outcome.{Outcome}
use Rattle.build_manifest.specs.declared.mark.MarkFormat.{MarkFormat}
use Rattle.build_manifest.specs.declared.mark.MarkFormat.TheVariants.{Two}
use Rattle.build_manifest.specs.declared.description.Description.{Description}
use Rattle.build_manifest.specs.Description.{description_of, said_by}
use Rattle.build_manifest.specs.Diagnostics.{diagnostics_of}
use Rattle.build_manifest.specs.Mark.{MarkView}

-- the apps differ
abbrev pub AppsDiffer : List (List ℕ) → Type 0
AppsDiffer apps = AllPairs (λ one other. one ≢ other) apps

-- the mark of this form that says a description, and what came of it
abbrev pub mark_in : MarkFormat → Description → List FileRow → List ℕ → MarkView
mark_in format description outputs text = record {
  format = format;
  options = description.options;
  sources = description.sources;
  needs = description.needs;
  outputs = outputs;
  text = text;
}

-- the mark of a job, the outcomes of its needs, and its own outcome
abbrev pub mark_of : Job → List Outcome → Outcome → MarkView
mark_of job needs outcome = mark_in (Two (diagnostics_of job.rows outcome.text)) (description_of job needs) outcome.rows outcome.text

-- the same mark in the second form, with what its own text says of each source
abbrev pub upgraded : MarkView → MarkView
upgraded mark = mark_in (Two (diagnostics_of mark.sources mark.text)) (said_by mark) mark.outputs mark.text
