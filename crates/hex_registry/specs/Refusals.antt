-- What the refusals of inner calls become.
use Rattle.std.specs.Prelude.{ℕ, List}
use Rattle.hex_messages.specs.declared.error.WireCause.{WireCause}
use Rattle.hex_messages.specs.declared.error.WireCause.TheVariants as cause
use Rattle.hex_messages.specs.declared.error.WireError.{WireError}
use Rattle.tree_store.specs.declared.store.StoreFault.{StoreFault}
use Rattle.tree_store.specs.declared.store.StoreFault.TheVariants as store
use Rattle.hex_registry.specs.declared.error.RegistryError.{RegistryError}
use Rattle.hex_registry.specs.declared.error.RegistryError.TheVariants as registry

-- of a store that doesn't give a file
abbrev pub store_refused : StoreFault → RegistryError
store_refused store.Failed = registry.Read
store_refused store.OutOfMemory = registry.OutOfMemory

abbrev pub wire_refused_as : WireCause → List ℕ → WireError → RegistryError
wire_refused_as cause.OutOfMemory name fault = registry.OutOfMemory
wire_refused_as cause name fault = registry.Wire name fault

-- of a package's message
abbrev pub wire_refused : List ℕ → WireError → RegistryError
wire_refused name fault = wire_refused_as fault.cause name fault
