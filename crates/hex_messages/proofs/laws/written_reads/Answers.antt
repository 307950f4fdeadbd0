use Rattle.hex_messages.proofs.WrittenReads.{written_reads}
use Rattle.hex_messages.proofs.laws.written_reads.Goals as goal

pub returns : goal.returns
returns c = written_reads
