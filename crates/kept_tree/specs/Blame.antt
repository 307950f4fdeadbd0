-- Whom a fault over a build tree blames.
use Rattle.mx_base.specs.Blame.{Blame}
use Rattle.mx_base.specs.Blame.Blame.{Outside, Memory}
use Rattle.kept_tree.specs.declared.fault.KeptFault.{KeptFault}
use Rattle.kept_tree.specs.declared.fault.KeptFault.TheVariants.{Read, Tree, OutOfMemory}

abbrev pub blame_of : KeptFault → Blame
blame_of Read = Outside
blame_of Tree = Outside
blame_of OutOfMemory = Memory
