-- How cleaning ends.
use Rattle.std.proofs.Common.{◌≡◌, ℕ, List, Err}
use Rattle.tree_store.specs.Known.{Known}
use Rattle.kept_tree.specs.declared.fault.KeptFault.{KeptFault}
use Rattle.kept_tree.specs.declared.fault.KeptFault.TheVariants.{Read, Tree, OutOfMemory}
use Rattle.kept_tree.specs.Faults.{CountsWrites}
use Rattle.mix_answer.specs.Answer.{stop_of_kept, stopped}
use Rattle.mix_answer.specs.Reply.{Reply}
use Rattle.mix_plain.specs.Cleans.{Cleans}
use Rattle.mix_plain.specs.Cleans.Cleans.{read_fault, tree_fault, no_memory}

-- with a fault
pub fault_cleans : (X : Type 0) (name : List ℕ) (apps : List (List ℕ)) (old new : Known) (reply : Reply) (fault : KeptFault)
    → CountsWrites {X = X} (Err fault) old new → reply ≡ stopped (stop_of_kept fault) → Cleans name apps old new reply
fault_cleans X name apps old new reply Read counts says = read_fault counts.0 says
fault_cleans X name apps old new reply Tree counts says = tree_fault counts.1 says
fault_cleans X name apps old new reply OutOfMemory counts says = no_memory counts says
