use Rattle.std.proofs.Common.{Err, sym, subst, rules}
use Rattle.mx_base.specs.Blame.{Computes}
use Rattle.hex_messages.specs.declared.package.Package.{Package}
use Rattle.hex_registry.specs.Blame.{blame_of}
use Rattle.hex_registry.specs.Loaded.{IsMessage}
use Rattle.hex_registry.specs.Loaded.IsMessage.{whole}
use Rattle.hex_registry.specs.declared.error.RegistryError.{RegistryError}
use Rattle.hex_registry.proofs.WireLemmas.{wire_computes}
use Rattle.hex_registry.proofs.loading.message_of.Goals as goal

pub returns-in-Ok : goal.returns-in-Ok
returns-in-Ok c = record { answer = whole c.in-Ok.ensures.read; alone = search rules }

pub returns-in_ok-refused-in-Err : goal.returns-in_ok-refused-in-Err
returns-in_ok-refused-in-Err c =
    subst (λ (e : RegistryError). Computes {X = Package} blame_of (Err e) (IsMessage c.args.name.now c.args.bytes.now)) (sym c.in_ok-refused-in-Err.ensures)
    (wire_computes c.args.name.now c.args.bytes.now c.in-Err.fault c.in-Err.ensures.refused)
