use Rattle.std.proofs.Common.{not, bytes_eq, rules}
use Rattle.std.proofs.lemmas.Fn.{filter_same}
use Rattle.hex_registry.specs.Picks.{Picked}
use Rattle.hex_registry.proofs.pick.without.Goals as goal

pub returns : goal.returns
returns c = filter_same _ (λ (q : Picked). not (bytes_eq c.args.name.now q.0)) _ (λ p b f k. search rules) _ _ c.retain.ensures.filtered
