-- Whom a refusal of a registry blames.
use Rattle.mx_base.specs.Blame.{Blame}
use Rattle.mx_base.specs.Blame.Blame.{Input, Outside, Memory}
use Rattle.hex_registry.specs.declared.error.RegistryError.{RegistryError}
use Rattle.hex_registry.specs.declared.error.RegistryError.TheVariants.{Read, OutOfMemory}

abbrev pub blame_of : RegistryError → Blame
blame_of Read = Outside
blame_of OutOfMemory = Memory
blame_of error = Input
