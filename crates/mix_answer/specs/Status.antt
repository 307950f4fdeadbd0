-- The numbers of the statuses.
use Rattle.std.specs.Prelude.{ℕ}
use Rattle.mix_answer.specs.declared.status.Status.{Status}
use Rattle.mix_answer.specs.declared.status.Status.TheVariants.{Done, SomeFailed, BadWords, Refused, Conflict, ReadFault, TreeFault, Died, OutOfMemory, Missing, WriteFault, MakerFault}

abbrev pub code_of : Status → ℕ
code_of Done = 0
code_of SomeFailed = 1
code_of BadWords = 2
code_of Refused = 3
code_of Conflict = 4
code_of ReadFault = 5
code_of TreeFault = 6
code_of Died = 7
code_of OutOfMemory = 8
code_of Missing = 9
code_of WriteFault = 10
code_of MakerFault = 11
