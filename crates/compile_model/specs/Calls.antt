-- What a compiler was given, call by call.
use Rattle.std.specs.Prelude.{ℕ, Bool, true, false, List, [], ◌∷◌, ◌++◌, Option, Some, None, option_map, take, ◌≡◌, Result, Ok, Err, slice_get}
use Rattle.compile_model.specs.declared.job.Job.{Job}
use Rattle.compile_model.specs.declared.outcome.Outcome.{Outcome}
use Rattle.compile_model.specs.declared.outcome.Fate.{Fate}
use Rattle.compile_model.specs.declared.seq.SeqFault.{SeqFault}
use Rattle.compile_model.specs.declared.seq.SeqFault.TheVariants.{Died, OutOfMemory}
use Rattle.compile_model.specs.Content.{Content, content_of}
use Rattle.compile_model.specs.Seq.{fate_of, first_unbuilt, outcomes_of, seq}

-- a call: what was to be compiled, and whether the compiler died of it
pub record Call : Type 0 where
  pub content : Content
  pub died : Bool

-- where calls are told, these came after those before
abbrev pub after_calls : Option (List Call) → List Call → Option (List Call)
after_calls told calls = option_map (λ before. before ++ calls) told

-- the call for a job after these fates
abbrev pub call_at : List Fate → Job → Bool → Call
call_at fates job died = record { content = content_of job (outcomes_of fates job.needs); died = died }

-- a job with a need that isn't built costs no call
abbrev pub calls_unless : Option ℕ → Call → List Call
calls_unless (Some need) call = []
calls_unless None call = call ∷ []

-- a compiler that lives is called once for each job that isn't skipped
abbrev pub calls_from : (Content → Outcome) → List Fate → List Job → List Call
calls_from compile fates [] = []
calls_from compile fates (job ∷ jobs) = calls_unless (first_unbuilt fates job.needs) (call_at fates job false)
    ++ calls_from compile (fates ++ fate_of compile fates job ∷ []) jobs

abbrev pub calls_of : (Content → Outcome) → List Job → List Call
calls_of compile jobs = calls_from compile [] jobs

-- a call of which the compiler died, where there was a job for it
abbrev pub last_calls : List Fate → Option Job → List Call
last_calls fates (Some job) = call_at fates job true ∷ []
last_calls fates None = []

-- a compiler that died of the job of this place lived through those before it
abbrev pub calls_to : (Content → Outcome) → List Job → ℕ → List Call
calls_to compile jobs place = calls_of compile (take place jobs) ++ last_calls (seq compile (take place jobs)) (slice_get jobs place)

-- the calls that an answer tells; for want of memory they may have ended anywhere
abbrev pub calls_by : {X : Type 0} → (Content → Outcome) → List Job → Result X SeqFault → Option (List Call)
calls_by compile jobs (Ok fates) = Some (calls_of compile jobs)
calls_by compile jobs (Err (Died place)) = Some (calls_to compile jobs place)
calls_by compile jobs (Err OutOfMemory) = None
