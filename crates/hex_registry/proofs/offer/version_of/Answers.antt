use Rattle.std.proofs.Common.{rules}
use Rattle.hex_registry.proofs.OfferLemmas.{not_version, version_is}
use Rattle.hex_registry.proofs.offer.version_of.Goals as goal

pub returns-in_default : goal.returns-in_default
returns-in_default c = not_version c.args.text.now (search rules)

pub returns-in-Ok-parse : goal.returns-in-Ok-parse
returns-in-Ok-parse c = version_is c.args.text.now c.in-Ok-parse.version (search rules) (search rules)
