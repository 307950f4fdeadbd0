-- What a command comes to, before anything is written.
use Rattle.std.specs.Prelude.{◌≡◌, ℕ, List, Result, Ok, Err}
use Rattle.mx_base.specs.Causes.{Rose}
use Rattle.tree_store.specs.Known.{Known}
use Rattle.tree_store.specs.declared.store.StoreFault.{StoreFault}
use Rattle.tree_store.specs.declared.store.StoreFault.TheVariants as store
use Rattle.compile_model.specs.declared.seq.SeqFault.{SeqFault}
use Rattle.compile_model.specs.declared.seq.SeqFault.TheVariants as model
use Rattle.mix_main.specs.declared.answer.Answer.{Answer}
use Rattle.mix_main.specs.declared.answer.Stop.{Stop}
use Rattle.mix_main.specs.declared.answer.Stop.TheVariants as stop
use Rattle.mix_main.specs.declared.status.Status.{Status}
use Rattle.mix_main.specs.declared.status.Status.TheVariants.{ReadFault, TreeFault, Died, OutOfMemory}
use Rattle.mix_main.specs.Reply.{Reply}
use Rattle.mix_main.specs.Texts.{read_fault_line, tree_fault_line, died_line, memory_line}

abbrev pub stop_of_store : StoreFault → Stop
stop_of_store store.Failed = stop.Read
stop_of_store store.OutOfMemory = stop.Memory

abbrev pub stop_of_folder : StoreFault → Stop
stop_of_folder store.Failed = stop.Tree
stop_of_folder store.OutOfMemory = stop.Memory

abbrev pub stop_of_seq : SeqFault → Stop
stop_of_seq (model.Died place) = stop.Died
stop_of_seq model.OutOfMemory = stop.Memory

abbrev pub stop_status : Stop → Status
stop_status stop.Read = ReadFault
stop_status stop.Tree = TreeFault
stop_status stop.Died = Died
stop_status stop.Memory = OutOfMemory

abbrev pub stop_line : Stop → List ℕ
stop_line stop.Read = read_fault_line
stop_line stop.Tree = tree_fault_line
stop_line stop.Died = died_line
stop_line stop.Memory = memory_line

-- the status that is meant
abbrev pub status_in : Result Answer Stop → Status
status_in (Ok answer) = answer.status
status_in (Err stop) = stop_status stop

-- the text that goes with it
abbrev pub text_in : Result Answer Stop → List ℕ
text_in (Ok answer) = answer.text.items
text_in (Err stop) = stop_line stop

-- both
abbrev pub reply_in : Result Answer Stop → Reply
reply_in result = record { status = status_in result; text = text_in result }

-- a step on the tree ends: what was counted where it failed
abbrev pub Fails : {T : Type 0} → Result T Stop → Known → Known → Type 0
Fails (Ok x) old new = (new.faults ≡ old.faults) × (new.returned ≡ old.returned)
Fails (Err stop.Read) old new = Rose old.faults new.faults
Fails (Err stop.Tree) old new = Rose old.returned new.returned
Fails (Err stop.Died) old new = ⊥
Fails (Err stop.Memory) old new = (new.faults ≡ old.faults) × (new.returned ≡ old.returned)
