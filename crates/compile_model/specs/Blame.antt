-- Whom the faults of compiling blame.
use Rattle.mx_base.specs.Blame.{Blame}
use Rattle.mx_base.specs.Blame.Blame.{Outside, Memory}
use Rattle.compile_model.specs.declared.compiler.CompileFault.{CompileFault}
use Rattle.compile_model.specs.declared.compiler.CompileFault.TheVariants as compiler
use Rattle.compile_model.specs.declared.seq.SeqFault.{SeqFault}
use Rattle.compile_model.specs.declared.seq.SeqFault.TheVariants as seq

abbrev pub compile_blame : CompileFault → Blame
compile_blame compiler.Died = Outside
compile_blame compiler.OutOfMemory = Memory

abbrev pub seq_blame : SeqFault → Blame
seq_blame (seq.Died place) = Outside
seq_blame seq.OutOfMemory = Memory
