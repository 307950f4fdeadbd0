-- What is compiled, and what it means.
use Rattle.std.specs.Prelude.{◌≡◌, List, Contains}
use Rattle.compile_model.specs.declared.job.Job.{Job}
use Rattle.compile_model.specs.declared.outcome.Outcome.{Outcome}
use Rattle.compile_model.specs.Content.{Content, content_of}
use Rattle.build_manifest.specs.declared.description.Description.{Description}
use Rattle.build_manifest.specs.Description.{description_of}

-- an input: a job, and one outcome for each of its needs
pub record Given : Type 0 where
  pub job : Job
  pub needs : List Outcome

abbrev pub content : Given → Content
content given = content_of given.job given.needs

abbrev pub description : Given → Description
description given = description_of given.job given.needs

-- what compiling it means
abbrev pub outcome_of : (Content → Outcome) → Given → Outcome
outcome_of compile given = compile (content given)

-- inputs of one description have one content
abbrev pub NoClash : List Given → Type 0
NoClash known = (one other : Given) → Contains known one → Contains known other → description one ≡ description other → content one ≡ content other
