use Rattle.std.proofs.Common.{◌≡◌, ◌<◌, length, Some, ◌∙◌, ap, sym, arith}
use Rattle.std.proofs.lemmas.List.{get_or_read}
use Rattle.dep_order.specs.Ordered.{OrderedGraph}
use Rattle.dep_order.proofs.Ranking.{rank_is}
use Rattle.dep_order.proofs.ordered.Ordered.rank.Goals as goal

pub returns : goal.returns
returns c =
    let inside = c.self.inside in
    let graph : inside.graph ≡ c.args.self.now.graph = ap (λ (o : OrderedGraph). o.graph) c.self.view_is in
    let order : inside.order.items ≡ c.args.self.now.order = ap (λ (o : OrderedGraph). o.order) c.self.view_is in
    let long = c.self.invariant.1 in
    let within : c.args.place < length inside.ranks.items = omega (arith, c.requires, long, ap length graph) in
    rw (← order)
    (rank_is inside.graph inside.order.items c.self.invariant.0 inside.ranks.items c.self.invariant.2 c.args.place within
    ∙ ap Some (sym (get_or_read inside.ranks.items c.args.place c.index.result.now within c.index.ensures 0)))
