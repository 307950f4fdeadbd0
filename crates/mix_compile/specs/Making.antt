-- What the end of a build comes to.
use Rattle.std.specs.Prelude.{◌≡◌, ℕ, List, Option, Some, None, filter_map, Vec, Result, Ok, Err}
use Rattle.std.specs.declared.alloc.Global.{Global}
use Rattle.compile_model.specs.declared.outcome.Fate.{Fate}
use Rattle.partition_crew.specs.declared.one.BuildFault.{BuildFault}
use Rattle.partition_crew.specs.declared.one.BuildFault.TheVariants.{TreeFault, OutOfMemory, NoPartitionLeft}
use Rattle.mix_answer.specs.declared.answer.Answer.{Answer}
use Rattle.mix_answer.specs.declared.status.Status.TheVariants.{Died}
use Rattle.mix_answer.specs.declared.stop.Stop.{Stop}
use Rattle.mix_answer.specs.declared.stop.Stop.TheVariants.{Tree, Memory}
use Rattle.mix_answer.specs.Answer.{reply_in, stopped}
use Rattle.mix_answer.specs.Reply.{Reply, reply_of}

-- the reply where a build was cut, with the text that is said of a death
abbrev pub reply_by : BuildFault → List ℕ → Reply
reply_by TreeFault died = stopped Tree
reply_by OutOfMemory died = stopped Memory
reply_by (NoPartitionLeft n) died = reply_of Died died

-- the fates that there are, or want of memory for the list of them; or the reply by the fault
abbrev pub ComesBy : Option BuildFault → List (Option Fate) → List ℕ → Result (Vec Fate Global) (Result Answer Stop) → Type 0
ComesBy None fates died (Ok all) = all.items ≡ filter_map (λ fate. fate) fates
ComesBy None fates died (Err answer) = reply_in answer ≡ stopped Memory
ComesBy (Some fault) fates died (Ok all) = ⊥
ComesBy (Some fault) fates died (Err answer) = reply_in answer ≡ reply_by fault died
