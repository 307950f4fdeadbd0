use Rattle.std.proofs.Common.{IfOk}
use Rattle.std.proofs.lemmas.Result.{IfOk-weaker}
use Rattle.dep_order.specs.Graph.{needs_of}
use Rattle.dep_order.specs.Reach.{AreReachedFrom, IsClosureOf}
use Rattle.dep_order.proofs.Ranking.{closure_is, closure_has, closure_within}
use Rattle.dep_order.proofs.reach.closure_by.Goals as goal

pub in_order-requires-clause-within : goal.in_order-requires-clause-within
in_order-requires-clause-within c =
    let are : AreReachedFrom c.args.graph.now (needs_of c.args.graph.now c.args.place) c.in_ok-places.places.items = rw c.needs_at.ensures.needs at c.in_ok-places.ensures in
    rw c.deref.ensures.value
    (closure_within c.args.graph.now c.args.place c.in_ok-places.places.items c.args.ranks.now c.needs_at.ensures.within are c.requires.long)

pub returns : goal.returns
returns c =
    let graph = c.args.graph.now in
    let order = c.args.order.now in
    let place = c.args.place in
    let are : AreReachedFrom graph (needs_of graph place) c.in_ok-places.places.items = rw c.needs_at.ensures.needs at c.in_ok-places.ensures in
    let in_order : IfOk c.in_order.result (λ reached. IsClosureOf graph order place reached.items) =
    IfOk-weaker c.in_order.result _ _
    (λ reached kept. closure_is graph order place c.in_ok-places.places.items reached.items are (rw c.deref.ensures.value at kept))
    c.in_order.ensures in
    record {
      in_order = in_order;
      reached =
          IfOk-weaker c.in_order.result _ _
          (λ reached is. closure_has graph order place reached.items c.requires.order c.requires.place is)
          in_order;
    }
