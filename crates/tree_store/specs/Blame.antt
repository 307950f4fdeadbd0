-- Whom a store's fault blames.
use Rattle.mx_base.specs.Blame.{Blame}
use Rattle.mx_base.specs.Blame.Blame.{Outside, Memory}
use Rattle.tree_store.specs.declared.store.StoreFault.{StoreFault}
use Rattle.tree_store.specs.declared.store.StoreFault.TheVariants.{Failed, OutOfMemory}

abbrev pub blame_of : StoreFault → Blame
blame_of Failed = Outside
blame_of OutOfMemory = Memory
