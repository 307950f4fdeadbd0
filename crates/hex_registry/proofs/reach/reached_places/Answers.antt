use Rattle.std.proofs.Common.{ap, ◌∙◌}
use Rattle.hex_registry.specs.Reach.{starts_of}
use Rattle.hex_registry.proofs.ReachLemmas.{starts_fit}
use Rattle.hex_registry.proofs.reach.reached_places.Goals as goal

pub reached-requires : goal.reached-requires
reached-requires c =
    starts_fit c.args.registry.now c.args.wants.now c.args.pick.now c.of-graph.result c.deref.result.now
    (c.of-graph.ensures ∙ c.in_ok-links.ensures) (c.deref.ensures.value ∙ c.in_ok-starts.ensures ∙ ap (starts_of c.args.pick.now) c.as_slice.ensures)
