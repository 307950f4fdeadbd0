-- How `deps.clean` ends.
use Rattle.std.specs.Prelude.{◌≡◌, ℕ, List}
use Rattle.mx_base.specs.Causes.{Rose}
use Rattle.tree_store.specs.Known.{Known}
use Rattle.kept_tree.specs.Clearing.{Clears, is_cleaned}
use Rattle.kept_tree.specs.Faults.{IsCalm}
use Rattle.mix_answer.specs.declared.status.Status.TheVariants.{Done}
use Rattle.mix_answer.specs.declared.stop.Stop.TheVariants.{Read, Tree, Memory}
use Rattle.mix_answer.specs.Answer.{stopped}
use Rattle.mix_answer.specs.Reply.{Reply, reply_of}
use Rattle.mix_plain.specs.Texts.{cleaned_text}

-- the builds of these apps under this build name are emptied, all of them where none is named; or a count rose, or memory ran out
pub data Cleans (name : List ℕ) (apps : List (List ℕ)) (old new : Known) (reply : Reply) : Type 0 where
  cleaned : Clears (is_cleaned name apps) old.slot new.slot → IsCalm old new → reply ≡ reply_of Done cleaned_text → Cleans name apps old new reply
  read_fault : Rose old.faults new.faults → reply ≡ stopped Read → Cleans name apps old new reply
  tree_fault : Rose old.returned new.returned → reply ≡ stopped Tree → Cleans name apps old new reply
  no_memory : IsCalm old new → reply ≡ stopped Memory → Cleans name apps old new reply
