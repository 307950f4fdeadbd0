-- The description of an input: all that a later build compares.
use Rattle.std.specs.Prelude.{ℕ, List, [], ◌∷◌}
use Rattle.compile_model.specs.declared.job.Job.{Job}
use Rattle.compile_model.specs.declared.outcome.Outcome.{Outcome}
use Rattle.build_manifest.specs.declared.description.Description.{Description}
use Rattle.build_manifest.specs.Mark.{MarkView, Need}

-- for each need in order the digest of its outputs, and its app
abbrev pub need_digests : List (List ℕ) → List Outcome → List Need
need_digests [] outcomes = []
need_digests (app ∷ apps) [] = []
need_digests (app ∷ apps) (outcome ∷ outcomes) = (outcome.digest, app) ∷ need_digests apps outcomes

-- the description of a job with these outcomes of its needs: the options text, the listing of the sources, and its needs
abbrev pub description_of : Job → List Outcome → Description
description_of job needs = record { options = job.options; sources = job.rows; needs = need_digests job.need_apps needs }

-- the description that a mark says
abbrev pub said_by : MarkView → Description
said_by mark = record { options = mark.options; sources = mark.sources; needs = mark.needs }
