-- What a command comes to, before anything is written.
use Rattle.std.specs.Prelude.{ℕ, List, Result, Ok, Err}
use Rattle.tree_store.specs.declared.store.StoreFault.{StoreFault}
use Rattle.tree_store.specs.declared.store.StoreFault.TheVariants as store
use Rattle.kept_tree.specs.declared.fault.KeptFault.{KeptFault}
use Rattle.kept_tree.specs.declared.fault.KeptFault.TheVariants as kept
use Rattle.mix_answer.specs.declared.answer.Answer.{Answer}
use Rattle.mix_answer.specs.declared.stop.Stop.{Stop}
use Rattle.mix_answer.specs.declared.stop.Stop.TheVariants.{Read, Tree, Write, Maker, Memory}
use Rattle.mix_answer.specs.declared.status.Status.{Status}
use Rattle.mix_answer.specs.declared.status.Status.TheVariants.{ReadFault, TreeFault, OutOfMemory, MakerFault}
use Rattle.mix_answer.specs.Reply.{Reply}
use Rattle.mix_answer.specs.Texts.{read_fault_line, tree_fault_line, write_fault_line, maker_fault_line, memory_line}

abbrev pub stop_of_store : StoreFault → Stop
stop_of_store store.Failed = Read
stop_of_store store.OutOfMemory = Memory

abbrev pub stop_of_folder : StoreFault → Stop
stop_of_folder store.Failed = Tree
stop_of_folder store.OutOfMemory = Memory

abbrev pub stop_of_kept : KeptFault → Stop
stop_of_kept kept.Read = Read
stop_of_kept kept.Tree = Tree
stop_of_kept kept.OutOfMemory = Memory

abbrev pub status_of : Stop → Status
status_of Read = ReadFault
status_of Tree = TreeFault
status_of Write = TreeFault
status_of Maker = MakerFault
status_of Memory = OutOfMemory

abbrev pub line_of : Stop → List ℕ
line_of Read = read_fault_line
line_of Tree = tree_fault_line
line_of Write = write_fault_line
line_of Maker = maker_fault_line
line_of Memory = memory_line

-- the status and the line of what stops a command
abbrev pub stopped : Stop → Reply
stopped stop = record { status = status_of stop; text = line_of stop }

-- the status that is meant
abbrev pub status_in : Result Answer Stop → Status
status_in (Ok answer) = answer.status
status_in (Err stop) = status_of stop

-- the text that goes with it
abbrev pub text_in : Result Answer Stop → List ℕ
text_in (Ok answer) = answer.text.items
text_in (Err stop) = line_of stop

-- both
abbrev pub reply_in : Result Answer Stop → Reply
reply_in result = record { status = status_in result; text = text_in result }
